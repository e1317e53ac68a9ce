-- What it is that the graph is accepted.
use Rattle.pp_graph.specs.Plan.{Plan, IsWellFormed}
use Rattle.pp_event.specs.Loops.{IsGap}
use Rattle.pp_mean.specs.Loops.{graph_moves, IsLoopFree}
use Rattle.pp_check.specs.Spans.{SpansFit}

-- The graph is well-formed, it has no loop, the longest ways of moves that take no byte have 35 moves, and its spans fit.
pub record IsAccepted (g : Plan) : Type 0 where
  pub well_formed : IsWellFormed g
  pub loop_free : IsLoopFree g
  pub gap : IsGap (graph_moves g) 35
  pub spans_fit : SpansFit g
