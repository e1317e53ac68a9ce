use Rattle.std.proofs.Common.{arith, refl}
use Rattle.pp_graph.specs.declared.node.Node.{Node}
use Rattle.pp_mean.specs.Plain.{IsPlainKind}
use Rattle.pp_mean.proofs.EachLemmas.{holds_more, holds_each}
use Rattle.pp_mean.proofs.plain.are_plain_nodes.Goals as goal

pub loop-node-preserved : goal.loop-node-preserved
loop-node-preserved c = holds_more (λ (n : Node). IsPlainKind n.kind) c.args.nodes.now c.loop-node.node-index c.node-item.result c.loop-node.invariant c.node-item.is (c.is_plain_kind.ensures.0 c.if-not-is_plain_kind.false)

pub returns : goal.returns
returns c = ((λ _. holds_each (λ (n : Node). IsPlainKind n.kind) c.args.nodes.now c.loop-node.node-index c.loop-node.invariant (omega arith)), (λ _. refl))
