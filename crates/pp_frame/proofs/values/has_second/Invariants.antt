use Rattle.std.proofs.Common.{◌≡◌, drop}
use Rattle.pp_frame.specs.Framing.{values_named}
use Rattle.pp_frame.proofs.values.has_second.Given as goal

abbrev pub invariant-loop-i : goal.invariant-loop-i
invariant-loop-i l = values_named l.name l.head (drop l.i l.fields) ≡ values_named l.name l.head l.fields
