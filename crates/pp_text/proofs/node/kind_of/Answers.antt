use Rattle.std.proofs.Common.{◌≡◌, codes, arith, rules, IsSomeAnd}
use Rattle.std.proofs.lemmas.Slice.Eq.{text_from_reads}
use Rattle.pp_graph.specs.Calls.{named_kind}
use Rattle.pp_text.specs.steps.View.{tokens_of}
use Rattle.pp_text.proofs.FirstWordLemmas.{IsNoKind, kind-runs}
use Rattle.pp_text.proofs.node.kind_of.Goals as goal

pub returns-in_default-clause-only : goal.returns-in_default-clause-only
returns-in_default-clause-only c =
    let none : IsNoKind c.args.word.now = record {
      no_match = λ e. search rules;
      no_consume = λ e. search rules;
      no_open = λ e. search rules;
      no_close = λ e. search rules;
      no_pause = λ e. search rules;
      no_error = λ e. search rules;
    } in
    kind-runs (λ what. IsSomeAnd c.invoke_in.result (λ k. named_kind k ≡ what)) c.args.word.now (tokens_of c.args.rest.now) none c.invoke_in.ensures.only

pub returns-in-consume-clause-found : goal.returns-in-consume-clause-found
returns-in-consume-clause-found c =
    let word : c.args.word.now ≡ codes "consume" = text_from_reads c.args.word.now (codes "consume") (omega arith) (search rules) in
    rw word c.consume_in.ensures.found
