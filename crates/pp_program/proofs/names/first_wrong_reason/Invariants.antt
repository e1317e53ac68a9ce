use Rattle.std.proofs.Common.{◌≤◌}
use Rattle.pp_program.specs.steps.Least.{PassedReasons}
use Rattle.pp_program.proofs.names.first_wrong_reason.Given as goal

abbrev pub invariant-loop-i : goal.invariant-loop-i
invariant-loop-i l = PassedReasons l.states l.i l.count × (l.count ≤ l.i)
