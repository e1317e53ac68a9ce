use Rattle.std.proofs.Common.{◌≡◌, ◌<◌, ℕ, Some, slice_get}
use Rattle.pp_program.specs.declared.program.State.{State}
use Rattle.pp_program.specs.Countable.{HasFew}
use Rattle.pp_program.proofs.countable.all_have_few.Given as goal

abbrev pub invariant-loop-i : goal.invariant-loop-i
invariant-loop-i l = (j : ℕ) (s : State) → j < l.i → slice_get l.states j ≡ Some s → HasFew s.instr
