use Rattle.std.proofs.Common.{sym, ap, ◌∙◌, arith, List, ℕ, Some, None}
use Rattle.std.specs.List.{slice_get}
use Rattle.pp_frame.proofs.ValueLemmas.{values_at, values_named-all}
use Rattle.pp_frame.proofs.values.first_named.Goals as goal

pub returns-in-Some : goal.returns-in-Some
returns-in-Some c =
    let all = sym c.loop-field.invariant ∙ values_at c.args.name.now c.args.head.now c.args.fields.now c.loop-field.field-index _ (Some c.in-Some.value.now) (omega arith) c.in-Some.ensures in
    sym (ap (λ (values : List (List ℕ)). slice_get values 0) all)

pub loop-field-preserved : goal.loop-field-preserved
loop-field-preserved c =
    sym (values_at c.args.name.now c.args.head.now c.args.fields.now c.loop-field.field-index _ None (omega arith) c.in_default.ensures) ∙ c.loop-field.invariant

pub returns : goal.returns
returns c =
    let none = sym c.loop-field.invariant ∙ values_named-all c.args.name.now c.args.head.now c.args.fields.now c.loop-field.field-index (omega arith) in
    sym (ap (λ (values : List (List ℕ)). slice_get values 0) none)
