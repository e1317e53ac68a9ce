use Rattle.std.proofs.Common.{◌≡◌, length}
use Rattle.pp_program.specs.steps.Rows.{IsFlowOf}
use Rattle.pp_program.proofs.moves.flow_of.Given as goal

abbrev pub invariant-loop-state : goal.invariant-loop-state
invariant-loop-state l = IsFlowOf l.program l.flow × (l.flow.told ≡ l.state) × (length l.flow.acts ≡ length l.program.states)
