-- The gap is the run of blanks.
use Rattle.std.proofs.Common.{◌++◌, take, drop, sym, ap, ◌∙◌, take-append-drop}
use Rattle.std.proofs.lemmas.List.{take_rest}
use Rattle.std.specs.List.{list_all}
use Rattle.pp_text.specs.Tokens.{is_blank}
use Rattle.pp_text.specs.steps.Lexing.{begins_with}
use Rattle.pp_text.proofs.TokenLemmas.{run_passes, run_stops}
use Rattle.pp_text.proofs.row.without_blanks.Goals as goal

pub returns : goal.returns
returns c =
    let bytes = c.args.bytes.now in
    let n = c.count_blanks.result in
    record {
      gap = take n bytes;
      blank = ap (λ m. list_all is_blank (take m bytes)) c.count_blanks.ensures.run ∙ run_passes is_blank bytes;
      split = sym (take-append-drop n bytes) ∙ ap (λ l. take n bytes ++ l) (sym (take_rest bytes n));
      no_more = ap (begins_with is_blank) (take_rest bytes n) ∙ ap (λ m. begins_with is_blank (drop m bytes)) c.count_blanks.ensures.run ∙ run_stops is_blank bytes;
    }
