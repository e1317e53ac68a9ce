use Rattle.std.proofs.Common.{ap, sym, ◌∙◌}
use Rattle.pp_text.specs.steps.Shapes.{SomePeeks}
use Rattle.pp_text.specs.steps.View.{tokens_of}
use Rattle.pp_text.proofs.KeyTokenLemmas.{peek-parts, none-of}
use Rattle.pp_text.proofs.statement.peeks_in.Goals as goal

pub returns-then-is_empty-clause-only : goal.returns-then-is_empty-clause-only
returns-then-is_empty-clause-only c = λ shape s.
    let at = c.at_word.ensures in
    let p = peek-parts (tokens_of c.args.rest.now) (tokens_of c.at_word.result.0.now) (tokens_of c.at_word.result.1.now) at.split at.keys at.word shape s in
    p.1.some (none-of c.at_word.result.0.now (sym c.is_empty.ensures ∙ c.if-is_empty.true))

pub returns-in_err-target-clause-only : goal.returns-in_err-target-clause-only
returns-in_err-target-clause-only c = λ shape s.
    let at = c.at_word.ensures in
    let p = peek-parts (tokens_of c.args.rest.now) (tokens_of c.at_word.result.0.now) (tokens_of c.at_word.result.1.now) at.split at.keys at.word shape s in
    absurd (c.in_err-target.ensures.only p.0 p.1.form p.1.arrow)

pub returns-clause-only : goal.returns-clause-only
returns-clause-only c = λ shape s.
    let keys = tokens_of c.at_word.result.0.now in
    let at = c.at_word.ensures in
    let p = peek-parts (tokens_of c.args.rest.now) keys (tokens_of c.at_word.result.1.now) at.split at.keys at.word shape s in
    ap (SomePeeks keys) (c.in_ok-target.ensures.only p.0 p.1.form p.1.arrow) ∙ p.1.is
