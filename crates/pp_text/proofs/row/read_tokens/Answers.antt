-- A token more is a lemma on how far the row was read.
use Rattle.std.proofs.Common.{◌≡◌, ◌∷◌, ◌++◌, [], IsSomeAnd, ap, subst, sym, ◌∙◌}
use Rattle.std.proofs.lemmas.Option.{IfSome_then}
use Rattle.std.proofs.lemmas.List.{map-append}
use Rattle.std.specs.Prelude.{Option, Some, None}
use Rattle.pp_text.specs.steps.View.{token_of, tokens_of, behind_of}
use Rattle.pp_text.proofs.SpacedLemmas.{IsReading, reading_begins, reading_more, reading_found, reading_only}
use Rattle.pp_text.proofs.row.read_tokens.Goals as goal

-- what is known beside a value
both_known : {X : Type 0} {P : Type 0} (Q : X → Type 0) (r : Option X) → P → IsSomeAnd r Q → IsSomeAnd r (λ x. P × Q x)
both_known Q None p q = absurd q
both_known Q (Some x) p q = (p, q)

pub loop-token-init : goal.loop-token-init
loop-token-init c =
    subst (λ l. IsReading c.args.row.now (tokens_of l) c.without_blanks-rest.result.now) (sym c.clear.ensures.items) (reading_begins c.args.row.now c.without_blanks-rest.result.now c.without_blanks-rest.ensures)

pub loop-token-preserved : goal.loop-token-preserved
loop-token-preserved c =
    let row = c.args.row.now in
    let done = c.loop-token.tokens.items in
    let token = c.in-Some.token in
    let next = c.without_blanks-rest-in-Some.result.now in
    let read = reading_more row (tokens_of done) c.loop-token.rest.now c.in-Some.behind.now next (token_of token) c.loop-token.invariant c.in-Some.ensures.token c.in-Some.ensures.ended c.in-Some.ensures.spelled c.in-Some.ensures.only c.without_blanks-rest-in-Some.ensures in
    let items : tokens_of c.push.new.self.items ≡ tokens_of done ++ token_of token ∷ [] = ap tokens_of c.in_ok-push.ensures.items ∙ map-append token_of done (token ∷ []) in
    subst (λ l. IsReading row l next) (sym items) read

pub returns-clause-found : goal.returns-clause-found
returns-clause-found c =
    IfSome_then c.behind_in.result c.behind_in.ensures.found (λ x is. reading_found c.args.row.now (tokens_of c.loop-token.tokens.items) c.loop-token.rest.now (behind_of x) c.loop-token.invariant is)

pub returns-clause-only : goal.returns-clause-only
returns-clause-only c = λ ts b begins.
    let read = reading_only c.args.row.now (tokens_of c.loop-token.tokens.items) c.loop-token.rest.now ts b c.loop-token.invariant c.in_default.ensures.only begins in
    both_known (λ behind. behind_of behind ≡ b) c.behind_in.result read.0 (c.behind_in.ensures.only b read.1)
