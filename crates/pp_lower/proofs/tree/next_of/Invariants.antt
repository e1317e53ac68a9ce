use Rattle.std.proofs.Common.{◌≡◌}
use Rattle.pp_lower.specs.Tree.{each_below}
use Rattle.pp_lower.specs.steps.Links.{next_on}
use Rattle.pp_lower.proofs.tree.next_of.Given as goal

abbrev pub invariant-loop-byte : goal.invariant-loop-byte
invariant-loop-byte l = l.next.items ≡ each_below (next_on l.links) l.byte
