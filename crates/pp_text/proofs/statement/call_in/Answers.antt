use Rattle.std.proofs.Common.{◌≡◌, codes, arith, rules}
use Rattle.std.proofs.lemmas.Slice.Eq.{text_from_reads}
use Rattle.pp_text.specs.steps.View.{tokens_of}
use Rattle.pp_text.proofs.FirstWordLemmas.{IsNoCall, no-call}
use Rattle.pp_text.proofs.statement.call_in.Goals as goal

pub returns-in_default-clause-only : goal.returns-in_default-clause-only
returns-in_default-clause-only c =
    let none : IsNoCall c.args.word.now = record {
      no_prop = λ e. search rules;
      no_host = λ e. search rules;
      no_span = λ e. search rules;
      no_entry = λ e. search rules;
      no_finish = λ e. search rules;
      no_node = λ e. search rules;
      no_is = λ e. search rules;
      no_else = λ e. search rules;
      no_skip = λ e. search rules;
    } in
    no-call c.args.word.now (tokens_of c.args.rest.now) none

pub returns-in-finish-clause-found : goal.returns-in-finish-clause-found
returns-in-finish-clause-found c =
    let word : c.args.word.now ≡ codes "finish" = text_from_reads c.args.word.now (codes "finish") (omega arith) (search rules) in
    rw word c.finish_in.ensures.found
