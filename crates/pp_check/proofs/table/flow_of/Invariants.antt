use Rattle.std.proofs.Common.{◌≡◌}
use Rattle.pp_check.specs.steps.Rows.{IsFlowOf}
use Rattle.pp_check.proofs.table.flow_of.Given as goal

abbrev pub invariant-loop-place : goal.invariant-loop-place
invariant-loop-place l = IsFlowOf l.graph l.flow × (l.flow.told ≡ l.place)
