use Rattle.std.proofs.Common.{take}
use Rattle.std.specs.Prelude.{All}
use Rattle.pp_graph.specs.Ranges.{KeyInRange}
use Rattle.pp_graph.proofs.ranges.keys_fit.Given as goal

abbrev pub invariant-loop-key : goal.invariant-loop-key
invariant-loop-key l = All KeyInRange (take l.key-index l.keys)
