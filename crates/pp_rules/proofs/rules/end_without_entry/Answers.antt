use Rattle.std.proofs.Common.{◌≡◌, length, Some, ap, sym, subst, ◌∙◌, arith, not}
use Rattle.std.specs.Prelude.{sum_by}
use Rattle.std.proofs.lemmas.List.{take_all}
use Rattle.pp_rules.specs.declared.rules.GraphRule.TheVariants.{NoEntry}
use Rattle.pp_rules.specs.Rules.{FailsAt, fails_at_end}
use Rattle.pp_rules.specs.Sets.{all_calls, size_of}
use Rattle.pp_rules.specs.steps.Least.{IsLeast}
use Rattle.pp_rules.proofs.SetLemmas.{length-all}
use Rattle.pp_rules.proofs.FirstFaultLemmas.{sum-within, entry-there, entry-missing}
use Rattle.pp_rules.proofs.rules.end_without_entry.Goals as goal

pub number_of-requires-clause-small : goal.number_of-requires-clause-small
number_of-requires-clause-small c =
    omega (arith, sum-within c.args.values.now c.args.sets.now (length c.args.sets.now) c.requires.sets, c.requires.small)

pub returns-then-has_entry : goal.returns-then-has_entry
returns-then-has_entry c =
    entry-there c.args.values.now c.args.sets.now c.requires.sets (sym (ap (fails_at_end NoEntry) c.declared.ensures) ∙ ap not (sym c.has_entry.ensures ∙ c.if-has_entry.true))

pub returns-else-has_entry : goal.returns-else-has_entry
returns-else-has_entry c =
    let whole : sum_by size_of c.args.sets.now ≡ length (all_calls c.args.values.now c.args.sets.now) = sym (length-all c.args.values.now c.args.sets.now c.requires.sets) in
    subst (λ n. IsLeast (FailsAt NoEntry (all_calls c.args.values.now c.args.sets.now)) (Some n))
    (sym (c.number_of.ensures ∙ (ap (sum_by size_of) (take_all (length c.args.sets.now) c.args.sets.now (omega arith)) ∙ whole)))
    (entry-missing c.args.values.now c.args.sets.now c.requires.sets (sym (ap (fails_at_end NoEntry) c.declared.ensures) ∙ ap not (sym c.has_entry.ensures ∙ c.if-has_entry.false)))
