use Rattle.std.proofs.Common.{take}
use Rattle.pp_frame.specs.steps.Places.{HasCome}
use Rattle.pp_frame.proofs.coded.chunk_data.Given as goal

abbrev pub invariant-loop-i : goal.invariant-loop-i
invariant-loop-i l = HasCome (take l.i l.bytes) l.body.items l.place
