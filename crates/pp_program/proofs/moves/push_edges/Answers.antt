use Rattle.pp_program.proofs.FlowLemmas.{edges-more}
use Rattle.pp_program.proofs.moves.push_edges.Goals as goal

pub loop-edge-preserved : goal.loop-edge-preserved
loop-edge-preserved c = edges-more _ _ _ c.args.edges.now c.loop-edge.edge-index _ c.loop-edge-test.true c.loop-edge.invariant c.in_ok-push_dead.ensures
