use Rattle.std.proofs.Common.{◌≡◌, take, map}
use Rattle.pp_graph.specs.declared.node.Node.{Node}
use Rattle.pp_lower.proofs.copies.copy_of_names.Given as goal

abbrev pub invariant-loop-node : goal.invariant-loop-node
invariant-loop-node l = l.list.items ≡ map (λ (n : Node). n.name) (take l.node-index l.nodes)
