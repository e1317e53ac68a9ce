use Rattle.std.proofs.Common.{refl, sym, subst}
use Rattle.pp_rules.specs.declared.rules.GraphRule.TheVariants.{DuplicateName, UnknownName, NoOtherwise, ValueTarget, ValueTooWide, EmptyKey}
use Rattle.pp_rules.specs.Rules.{FailsAt}
use Rattle.pp_rules.specs.Sets.{all_calls}
use Rattle.pp_rules.specs.steps.Least.{IsLeast}
use Rattle.pp_rules.specs.steps.Seen.{IsFirstFailing}
use Rattle.pp_rules.proofs.RuleLemmas.{first-within}
use Rattle.pp_rules.proofs.rules.first_failure.Goals as goal

pub number_at-requires-clause-within : goal.number_at-requires-clause-within
number_at-requires-clause-within c =
    first-within DuplicateName c.args.values.now c.duplicate.result (subst (λ cs. IsFirstFailing DuplicateName cs c.duplicate.result) c.declared-declared.ensures c.duplicate.ensures)

pub returns-in-DuplicateName : goal.returns-in-DuplicateName
returns-in-DuplicateName c =
    subst (λ rule. IsLeast (FailsAt rule (all_calls c.args.values.now c.args.sets.now)) c.number_at.result) (sym c.in-DuplicateName.is)
    (c.number_at.ensures DuplicateName tt refl (subst (λ cs. IsFirstFailing DuplicateName cs c.duplicate.result) c.declared-declared.ensures c.duplicate.ensures))

pub number_at-requires-in-UnknownName-clause-within : goal.number_at-requires-in-UnknownName-clause-within
number_at-requires-in-UnknownName-clause-within c =
    first-within UnknownName c.args.values.now c.first_unknown.result (subst (λ cs. IsFirstFailing UnknownName cs c.first_unknown.result) c.declared-declared.ensures c.first_unknown.ensures.first)

pub returns-in-UnknownName : goal.returns-in-UnknownName
returns-in-UnknownName c =
    subst (λ rule. IsLeast (FailsAt rule (all_calls c.args.values.now c.args.sets.now)) c.number_at-in-UnknownName.result) (sym c.in-UnknownName.is)
    (c.number_at-in-UnknownName.ensures UnknownName tt refl (subst (λ cs. IsFirstFailing UnknownName cs c.first_unknown.result) c.declared-declared.ensures c.first_unknown.ensures.first))

pub returns-in-NoOtherwise : goal.returns-in-NoOtherwise
returns-in-NoOtherwise c =
    subst (λ rule. IsLeast (FailsAt rule (all_calls c.args.values.now c.args.sets.now)) c.number_at-in-NoOtherwise.result) (sym c.in-NoOtherwise.is)
    (c.number_at-in-NoOtherwise.ensures NoOtherwise tt refl (c.first_without_otherwise.ensures.first))

pub returns-in-ValueTarget : goal.returns-in-ValueTarget
returns-in-ValueTarget c =
    subst (λ rule. IsLeast (FailsAt rule (all_calls c.args.values.now c.args.sets.now)) c.number_at-in-ValueTarget.result) (sym c.in-ValueTarget.is)
    (c.number_at-in-ValueTarget.ensures ValueTarget tt refl (c.first_value_fault.ensures.first))

pub returns-in-ValueTooWide : goal.returns-in-ValueTooWide
returns-in-ValueTooWide c =
    subst (λ rule. IsLeast (FailsAt rule (all_calls c.args.values.now c.args.sets.now)) c.number_at-in-ValueTooWide.result) (sym c.in-ValueTooWide.is)
    (c.number_at-in-ValueTooWide.ensures ValueTooWide tt refl (c.first_too_wide.ensures.first))

pub returns-in-EmptyKey : goal.returns-in-EmptyKey
returns-in-EmptyKey c =
    subst (λ rule. IsLeast (FailsAt rule (all_calls c.args.values.now c.args.sets.now)) c.number_at-in-EmptyKey.result) (sym c.in-EmptyKey.is)
    (c.number_at-in-EmptyKey.ensures EmptyKey tt refl (c.first_empty_key.ensures.first))

pub returns-in-NoEntry : goal.returns-in-NoEntry
returns-in-NoEntry c =
    subst (λ rule. IsLeast (FailsAt rule (all_calls c.args.values.now c.args.sets.now)) c.end_without_entry.result) (sym c.in-NoEntry.is) c.end_without_entry.ensures

pub returns-in-KeyClash : goal.returns-in-KeyClash
returns-in-KeyClash c =
    subst (λ rule. IsLeast (FailsAt rule (all_calls c.args.values.now c.args.sets.now)) c.args.edges.clash) (sym c.in-KeyClash.is) c.requires.edges.clash

pub returns-in-PrefixGap : goal.returns-in-PrefixGap
returns-in-PrefixGap c =
    subst (λ rule. IsLeast (FailsAt rule (all_calls c.args.values.now c.args.sets.now)) c.args.edges.gap) (sym c.in-PrefixGap.is) c.requires.edges.gap

pub returns-in-KeyNotFolded : goal.returns-in-KeyNotFolded
returns-in-KeyNotFolded c =
    subst (λ rule. IsLeast (FailsAt rule (all_calls c.args.values.now c.args.sets.now)) c.args.edges.not_folded) (sym c.in-KeyNotFolded.is) c.requires.edges.not_folded

pub returns-in-TooMany : goal.returns-in-TooMany
returns-in-TooMany c =
    subst (λ rule. IsLeast (FailsAt rule (all_calls c.args.values.now c.args.sets.now)) c.args.edges.too_many) (sym c.in-TooMany.is) c.requires.edges.too_many
