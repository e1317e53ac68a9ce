use Rattle.std.proofs.Common.{◌≡◌, take, sym, subst, arith}
use Rattle.std.proofs.lemmas.List.{take_all}
use Rattle.std.proofs.lemmas.List.Elements.{All-more, All-same}
use Rattle.pp_graph.specs.Ranges.{NodeInRange}
use Rattle.pp_graph.proofs.ranges.numbers_fit.Goals as goal

pub loop-node-preserved : goal.loop-node-preserved
loop-node-preserved c =
    All-more NodeInRange c.args.nodes.now c.loop-node.node-index c.node-item.result (omega arith) c.loop-node.invariant (subst NodeInRange c.node-item.is c.kind_fits.ensures)

pub returns : goal.returns
returns c =
    let done : take c.loop-node.node-index c.args.nodes.now ≡ c.args.nodes.now = take_all c.loop-node.node-index c.args.nodes.now (omega arith) in
    All-same NodeInRange c.args.nodes.now (take c.loop-node.node-index c.args.nodes.now) (sym done) c.loop-node.invariant
