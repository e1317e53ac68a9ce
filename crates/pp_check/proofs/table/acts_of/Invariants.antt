use Rattle.std.proofs.Common.{◌≡◌, take, map}
use Rattle.pp_graph.specs.declared.node.Node.{Node}
use Rattle.pp_check.specs.Spans.{act_of}
use Rattle.pp_check.proofs.table.acts_of.Given as goal

abbrev pub invariant-loop-node : goal.invariant-loop-node
invariant-loop-node l = l.acts.items ≡ map (λ (n : Node). act_of n.kind) (take l.node-index l.nodes)
