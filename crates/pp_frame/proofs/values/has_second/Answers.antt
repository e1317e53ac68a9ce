use Rattle.std.proofs.Common.{◌+◌, drop, sym, ap, ◌∙◌, arith, List, ℕ, Some, None, ltb, length}
use Rattle.std.proofs.lemmas.List.{take_rest}
use Rattle.pp_frame.specs.Framing.{values_named}
use Rattle.pp_frame.proofs.ValueLemmas.{values_at, values_named-all, second_behind}
use Rattle.pp_frame.proofs.values.has_second.Goals as goal

pub returns-in-Some : goal.returns-in-Some
returns-in-Some c =
    let name = c.args.name.now in
    let head = c.args.head.now in
    let fields = c.args.fields.now in
    let all = sym c.loop-i.invariant ∙ values_at name head fields c.loop-i.i _ (Some c.in-Some.field-0.now) (omega arith) c.in-Some.ensures in
    let behind = rw (take_rest fields (c.loop-i.i + 1)) at c.has_first.ensures in
    behind ∙ second_behind c.in-Some.field-0.now (values_named name head (drop (c.loop-i.i + 1) fields)) ∙ sym (ap (λ (values : List (List ℕ)). ltb 1 (length values)) all)

pub loop-i-preserved : goal.loop-i-preserved
loop-i-preserved c =
    sym (values_at c.args.name.now c.args.head.now c.args.fields.now c.loop-i.i _ None (omega arith) c.in_default.ensures) ∙ c.loop-i.invariant

pub returns : goal.returns
returns c =
    let none = sym c.loop-i.invariant ∙ values_named-all c.args.name.now c.args.head.now c.args.fields.now c.loop-i.i (omega arith) in
    sym (ap (λ (values : List (List ℕ)). ltb 1 (length values)) none)
