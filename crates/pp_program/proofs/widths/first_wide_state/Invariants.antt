use Rattle.std.proofs.Common.{◌≡◌, ℕ, ◌<◌, true}
use Rattle.pp_program.specs.Widths.{is_wide_instr}
use Rattle.pp_program.specs.steps.Least.{IsAt}
use Rattle.pp_program.proofs.widths.first_wide_state.Given as goal

abbrev pub invariant-loop-i : goal.invariant-loop-i
invariant-loop-i l = (j : ℕ) → j < l.i → IsAt (λ s. is_wide_instr l.program s.instr ≡ true) l.program.states j → ⊥
