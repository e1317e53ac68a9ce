use Rattle.std.proofs.Common.{sym, ap, ◌∙◌, arith, List, ℕ}
use Rattle.pp_frame.specs.Framing.{transfer_encoding, all_elements, values_named}
use Rattle.pp_frame.specs.steps.Codings.{last_is_chunked}
use Rattle.pp_frame.proofs.ValueLemmas.{codings_at, values_named-all, ends_chunked_is}
use Rattle.pp_frame.proofs.values.ends_chunked.Goals as goal

pub loop-field-preserved : goal.loop-field-preserved
loop-field-preserved c = sym (codings_at c.loop-field.last c.after_field-last.result c.args.head.now c.args.fields.now c.loop-field.field-index _ (omega arith) c.after_field-last.ensures) ∙ c.loop-field.invariant

pub returns : goal.returns
returns c =
    let none = values_named-all transfer_encoding c.args.head.now c.args.fields.now c.loop-field.field-index (omega arith) in
    sym (ap (λ (values : List (List ℕ)). last_is_chunked c.loop-field.last (all_elements values)) none) ∙ c.loop-field.invariant ∙ sym (ends_chunked_is (values_named transfer_encoding c.args.head.now c.args.fields.now))
