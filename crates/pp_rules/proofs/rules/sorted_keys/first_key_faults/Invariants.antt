use Rattle.std.proofs.Common.{◌≡◌}
use Rattle.pp_rules.specs.declared.rules.GraphRule.TheVariants.{PrefixGap}
use Rattle.pp_rules.specs.Rules.{FailsAt}
use Rattle.pp_rules.specs.Sets.{all_calls}
use Rattle.pp_rules.specs.steps.ByNode.{HoldsBelow, end_of_node}
use Rattle.pp_rules.specs.steps.Clashes.{ComesAgainAt}
use Rattle.pp_rules.specs.steps.KeyFaults.{AreFirst}
use Rattle.pp_rules.proofs.NodeSetLemmas.{number_at}
use Rattle.pp_rules.proofs.rules.sorted_keys.first_key_faults.Given as goal

abbrev pub invariant-loop-i : goal.invariant-loop-i
invariant-loop-i l =
    (l.number ≡ number_at l.calls l.sets l.i) × AreFirst (HoldsBelow ComesAgainAt (all_calls l.calls l.sets) (end_of_node (all_calls l.calls l.sets) l.number)) (HoldsBelow (FailsAt PrefixGap) (all_calls l.calls l.sets) (end_of_node (all_calls l.calls l.sets) l.number)) l.found
