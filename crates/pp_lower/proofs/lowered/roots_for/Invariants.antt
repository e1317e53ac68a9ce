use Rattle.pp_lower.proofs.NodeLemmas.{Rooted}
use Rattle.pp_lower.proofs.lowered.roots_for.Given as goal

abbrev pub invariant-loop-node : goal.invariant-loop-node
invariant-loop-node l = Rooted l.nodes l.roots.items l.next l.node-index
