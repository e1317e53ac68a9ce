use Rattle.std.proofs.Common.{sym, subst}
use Rattle.pp_rules.specs.declared.rules.GraphRule.TheVariants.{KeyClash}
use Rattle.pp_rules.specs.Rules.{FailsAt}
use Rattle.pp_rules.specs.Sets.{all_calls}
use Rattle.pp_rules.specs.steps.Least.{IsLeast}
use Rattle.pp_rules.proofs.ClashLemmas.{least-clash}
use Rattle.pp_rules.proofs.LookingBackLemmas.{least-not_folded, least-too_many}
use Rattle.pp_rules.proofs.rules.edge_faults.Goals as goal

pub returns : goal.returns
returns c =
    let all = all_calls c.args.calls.now c.args.sets.now in
    record {
      clash = subst (IsLeast (FailsAt KeyClash all)) (sym c.lesser.ensures) (least-clash all c.in_ok-clash.clash c.in_ok-keys.keys.again c.in_ok-clash.ensures c.in_ok-keys.ensures.again);
      gap = c.in_ok-keys.ensures.gap;
      not_folded = least-not_folded all c.in_ok-not_folded.not_folded c.in_ok-not_folded.ensures;
      too_many = least-too_many all c.in_ok-too_many.too_many c.in_ok-too_many.ensures;
    }
