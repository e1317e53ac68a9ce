use Rattle.pp_lower.proofs.LinkLaws.{AreNone}
use Rattle.pp_lower.proofs.links.empty_ends.Given as goal

abbrev pub invariant-loop-i : goal.invariant-loop-i
invariant-loop-i l = AreNone l._i l.ends.items
