use Rattle.std.proofs.Common.{take}
use Rattle.pp_lower.specs.steps.Links.{AreEnds}
use Rattle.pp_lower.proofs.links.ends_of.Given as goal

abbrev pub invariant-loop-i : goal.invariant-loop-i
invariant-loop-i l = AreEnds l.list (take l.i l.texts) l.ends.items
