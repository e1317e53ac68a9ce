use Rattle.std.proofs.Common.{◌≡◌, ℕ, ◌<◌, ◌≤◌}
use Rattle.pp_program.specs.steps.Ends.{step_on, StepsBelow}
use Rattle.pp_flow.specs.Rows.{Rowed}
use Rattle.pp_program.proofs.moves.push_steps.Given as goal

abbrev pub invariant-loop-b : goal.invariant-loop-b
invariant-loop-b l =
    Rowed l.fn.flow l.flow (StepsBelow (step_on l.state l.fold l.stay l.edges l.rest) l.lo)
    × (l.lo < l.b)
    × ((a : ℕ) → l.lo ≤ a → a < l.b → step_on l.state l.fold l.stay l.edges l.rest a ≡ l.last)
