use Rattle.std.proofs.Common.{ap, sym, ◌∙◌}
use Rattle.pp_text.specs.steps.Shapes.{SomeKeys}
use Rattle.pp_text.specs.steps.View.{tokens_of}
use Rattle.pp_text.proofs.KeyTokenLemmas.{on-parts, none-of}
use Rattle.pp_text.proofs.statement.keys_in.Goals as goal

pub returns-then-is_empty-clause-only : goal.returns-then-is_empty-clause-only
returns-then-is_empty-clause-only c = λ shape s.
    let at = c.at_word.ensures in
    let p = on-parts (tokens_of c.args.rest.now) (tokens_of c.at_word.result.0.now) (tokens_of c.at_word.result.1.now) at.split at.keys at.word shape s in
    p.2.some (none-of c.at_word.result.0.now (sym c.is_empty.ensures ∙ c.if-is_empty.true))

pub returns-in_err-number-clause-only : goal.returns-in_err-number-clause-only
returns-in_err-number-clause-only c = λ shape s.
    let at = c.at_word.ensures in
    let p = on-parts (tokens_of c.args.rest.now) (tokens_of c.at_word.result.0.now) (tokens_of c.at_word.result.1.now) at.split at.keys at.word shape s in
    absurd (c.in_err-number.ensures.only p.0 p.1 p.2.fits p.2.form p.2.carried)

pub returns-clause-only : goal.returns-clause-only
returns-clause-only c = λ shape s.
    let keys = tokens_of c.at_word.result.0.now in
    let at = c.at_word.ensures in
    let p = on-parts (tokens_of c.args.rest.now) keys (tokens_of c.at_word.result.1.now) at.split at.keys at.word shape s in
    let same = c.in_ok-number.ensures.only p.0 p.1 p.2.fits p.2.form p.2.carried in
    ap (λ number. SomeKeys keys number c.in_ok-number.target.now) same.0 ∙ ap (SomeKeys keys p.0) same.1 ∙ p.2.is
