use Rattle.std.proofs.Common.{◌+◌, sym, ◌∙◌}
use Rattle.std.proofs.lemmas.List.{take_rest}
use Rattle.pp_frame.proofs.FieldLemmas.{field_from_colon}
use Rattle.pp_frame.proofs.head.field_in.Goals as goal

pub returns : goal.returns
returns c =
    let part = rw (take_rest c.args.line.now (c.in_ok-colon.colon + 1)) at c.trimmed-value.ensures.part in
    field_from_colon c.args.line.now c.args.from c.in_ok-colon.colon c.trimmed-value.result (sym c.colon_of.ensures ∙ c.in_ok-colon.was) part
