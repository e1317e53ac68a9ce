use Rattle.pp_lower.specs.steps.Links.{links_in}
use Rattle.pp_lower.proofs.LinkLaws.{AreEmpty}
use Rattle.pp_lower.proofs.links.empty_rows.Given as goal

abbrev pub invariant-loop-i : goal.invariant-loop-i
invariant-loop-i l = AreEmpty l._i (links_in l.rows.items)
