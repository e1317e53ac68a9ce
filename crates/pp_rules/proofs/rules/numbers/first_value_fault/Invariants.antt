use Rattle.std.proofs.Common.{ℕ, ◌<◌}
use Rattle.pp_rules.specs.declared.rules.GraphRule.TheVariants.{ValueTarget}
use Rattle.pp_rules.specs.Rules.{FailsAt}
use Rattle.pp_rules.proofs.rules.numbers.first_value_fault.Given as goal

-- the rule fails at none of the calls before
abbrev pub invariant-loop-i : goal.invariant-loop-i
invariant-loop-i l = (j : ℕ) → j < l.i → ¬ (FailsAt ValueTarget l.values j)
