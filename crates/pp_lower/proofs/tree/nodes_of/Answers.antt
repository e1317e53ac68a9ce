use Rattle.std.proofs.Common.{arith}
use Rattle.pp_lower.proofs.KeyTree.{end_at, row_at, row_small, nodes_more, nodes_all}
use Rattle.pp_lower.proofs.tree.nodes_of.Goals as goal

pub node_of-requires : goal.node_of-requires
node_of-requires c =
    row_small c.args.list.now c.in_ok-rows.rows.items c.loop-i.i c.index.result.now c.deref.result.now c.in_ok-rows.ensures
    (row_at c.args.list.now c.in_ok-rows.rows.items c.loop-i.i c.index.result.now c.in_ok-rows.ensures c.loop-i-test.true c.index.ensures) c.deref.ensures.value c.requires.few

pub loop-i-preserved : goal.loop-i-preserved
loop-i-preserved c =
    nodes_more c.args.list.now c.args.texts.now c.in_ok-rows.rows.items c.in_ok-ends.ends.items c.loop-i.i _ c.index.result.now c.deref.result.now c.index-in-loop-i.result.now
    c.loop-i.nodes.items c.push.new.self.items c.in_ok-node.node c.in_ok-rows.ensures c.in_ok-ends.ensures
    (row_at c.args.list.now c.in_ok-rows.rows.items c.loop-i.i c.index.result.now c.in_ok-rows.ensures c.loop-i-test.true c.index.ensures) c.deref.ensures.value
    (end_at c.args.list.now c.args.texts.now c.in_ok-ends.ends.items c.loop-i.i c.index-in-loop-i.result.now c.in_ok-ends.ensures c.loop-i-test.true c.index-in-loop-i.ensures)
    (omega arith) c.loop-i.invariant c.in_ok-node.ensures c.in_ok-push.ensures.items

pub returns : goal.returns
returns c = nodes_all c.args.list.now c.args.texts.now c.loop-i.nodes.items c.loop-i.i c.loop-i-test.false c.loop-i.invariant
