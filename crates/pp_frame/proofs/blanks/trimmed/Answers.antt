use Rattle.std.proofs.lemmas.List.{take_rest}
use Rattle.pp_frame.proofs.FieldLemmas.{trimmed_from_counts}
use Rattle.pp_frame.proofs.blanks.trimmed.Goals as goal

pub returns-clause-part : goal.returns-clause-part
returns-clause-part c =
    let behind = rw (take_rest c.args.bytes.now c.leading_blanks-from.result) at c.trailing_blanks.ensures.blanks in
    trimmed_from_counts c.args.bytes.now c.leading_blanks-from.result c.trailing_blanks.result c.leading_blanks-from.ensures.blanks behind
