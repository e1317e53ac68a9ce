use Rattle.std.proofs.Common.{◌≡◌, ℕ}
use Rattle.pp_lower.specs.Tree.{each_below}
use Rattle.pp_lower.specs.steps.Parts.{Gives, edge_from}
use Rattle.pp_lower.proofs.edges.edges_for.Given as goal

abbrev pub invariant-loop-byte : goal.invariant-loop-byte
invariant-loop-byte l = (f : ℕ → ℕ) → Gives l.roots f → l.edges.items ≡ each_below (edge_from f l.root l.keys l.peeks l.inner l.ends) l.byte
