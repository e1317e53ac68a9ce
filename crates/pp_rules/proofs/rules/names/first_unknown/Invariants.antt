use Rattle.std.proofs.Common.{ℕ, ◌<◌}
use Rattle.pp_rules.specs.declared.rules.GraphRule.TheVariants.{UnknownName}
use Rattle.pp_rules.specs.Rules.{FailsAt}
use Rattle.pp_rules.proofs.rules.names.first_unknown.Given as goal

-- the rule fails at none of the calls before
abbrev pub invariant-loop-i : goal.invariant-loop-i
invariant-loop-i l = (j : ℕ) → j < l.i → ¬ (FailsAt UnknownName l.declared j)
