use Rattle.std.proofs.Common.{sym, ap, ◌∙◌, arith}
use Rattle.std.specs.List.{list_any}
use Rattle.pp_frame.specs.Framing.{is_quoted, transfer_encoding}
use Rattle.pp_frame.proofs.ValueLemmas.{quoted_yes, quoted_no, values_named-all}
use Rattle.pp_frame.proofs.values.any_quoted.Goals as goal

pub returns-then-is_quoted_coding : goal.returns-then-is_quoted_coding
returns-then-is_quoted_coding c = quoted_yes c.args.head.now c.args.fields.now c.loop-field.field-index _ (omega arith) c.if-is_quoted_coding.ensures ∙ c.loop-field.invariant

pub loop-field-preserved : goal.loop-field-preserved
loop-field-preserved c = sym (quoted_no c.args.head.now c.args.fields.now c.loop-field.field-index _ (omega arith) c.if-is_quoted_coding.ensures) ∙ c.loop-field.invariant

pub returns : goal.returns
returns c =
    let none = values_named-all transfer_encoding c.args.head.now c.args.fields.now c.loop-field.field-index (omega arith) in
    sym (ap (list_any is_quoted) none) ∙ c.loop-field.invariant
