use Rattle.std.proofs.Common.{◌≡◌, ℕ, ◌<◌, false}
use Rattle.pp_program.specs.Targets.{is_state}
use Rattle.pp_program.specs.steps.Least.{IsAt}
use Rattle.pp_program.proofs.targets.first_wrong_state.Given as goal

abbrev pub invariant-loop-i : goal.invariant-loop-i
invariant-loop-i l = (j : ℕ) → j < l.i → IsAt (λ s. is_state l.program s ≡ false) l.program.states j → ⊥
