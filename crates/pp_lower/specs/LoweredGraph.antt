-- Which programs come from lowering.
use Rattle.std.specs.Prelude.{◌≡◌}
use Rattle.pp_graph.specs.Plan.{Plan, IsWellFormed}
use Rattle.pp_mean.specs.Loops.{IsLoopFree}
use Rattle.pp_check.specs.Spans.{SpansFit}
use Rattle.pp_program.specs.declared.program.Program.{Program}
use Rattle.pp_lower.specs.Lowered.{lowered}

-- it is the program of a graph that keeps the rules, has no loop, and whose spans fit
pub record IsLowered (p : Program) : Type 0 where
  pub graph : Plan
  pub well_formed : IsWellFormed graph
  pub loop_free : IsLoopFree graph
  pub spans_fit : SpansFit graph
  pub program_is : p ≡ lowered graph
