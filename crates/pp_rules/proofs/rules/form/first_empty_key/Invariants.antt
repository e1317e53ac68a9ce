use Rattle.std.proofs.Common.{ℕ, ◌<◌}
use Rattle.pp_rules.specs.declared.rules.GraphRule.TheVariants.{EmptyKey}
use Rattle.pp_rules.specs.Rules.{FailsAt}
use Rattle.pp_rules.proofs.rules.form.first_empty_key.Given as goal

-- the rule fails at none of the calls before
abbrev pub invariant-loop-i : goal.invariant-loop-i
invariant-loop-i l = (j : ℕ) → j < l.i → ¬ (FailsAt EmptyKey l.values j)
