use Rattle.std.proofs.Common.{◌≤◌}
use Rattle.pp_rules.specs.declared.rules.GraphRule.{GraphRule}
use Rattle.pp_rules.specs.Rules.{Keeps, order}
use Rattle.pp_rules.specs.Sets.{all_calls}
use Rattle.pp_rules.proofs.rules.first_fault.Given as goal

abbrev pub invariant-loop-rule : goal.invariant-loop-rule
invariant-loop-rule l = (earlier : GraphRule) → order earlier ≤ l.rule-index → Keeps (all_calls l.values l.sets) earlier
