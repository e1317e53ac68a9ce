use Rattle.std.proofs.Common.{take}
use Rattle.pp_lower.specs.steps.Links.{links_in, AreLinks}
use Rattle.pp_lower.proofs.links.links_of.Given as goal

abbrev pub invariant-loop-i : goal.invariant-loop-i
invariant-loop-i l = AreLinks l.list (take l.i l.texts) (links_in l.rows.items)
