-- The keys of tokens, one token after the other.
use Rattle.std.proofs.Common.{true, false, arith, get_or}
use Rattle.pp_text.specs.steps.View.{token_of}
use Rattle.pp_text.specs.steps.Rows.{AddsToken}
use Rattle.pp_text.proofs.DraftLemmas.{IsAnswer-same, SameEnds-trans, answer_true, answer_false, token_step, token_stop, token_end}
use Rattle.pp_text.proofs.calls.Calls.add_keys.Goals as goal

pub returns-then-not-branch-clause-answer : goal.returns-then-not-branch-clause-answer
returns-then-not-branch-clause-answer c =
    let line = c.args.line in
    let how = c.args.key_use in
    let target = c.args.target.now in
    let tokens = c.args.tokens.now in
    let i = c.loop-token.token-index in
    let a = c.loop-token.self in
    let b = c.add_token.new.self in
    let h = answer_false _ b (AddsToken line how target (token_of (get_or tokens i _)) a) c.if-not-branch.true c.in_ok-add_token.ensures.answer in
    IsAnswer-same false b _ _ c.loop-token.invariant.1 (token_stop line how target tokens i _ a b c.loop-token-test.true h)

pub loop-token-preserved : goal.loop-token-preserved
loop-token-preserved c =
    let line = c.args.line in
    let how = c.args.key_use in
    let target = c.args.target.now in
    let tokens = c.args.tokens.now in
    let i = c.loop-token.token-index in
    let a = c.loop-token.self in
    let b = c.add_token.new.self in
    let h = answer_true _ b (AddsToken line how target (token_of (get_or tokens i _)) a) c.if-not-branch.false c.in_ok-add_token.ensures.answer in (
      omega (arith, c.in_ok-add_token.ensures.count),
      SameEnds-trans _ _ _ (token_step line how target tokens i _ a b c.loop-token-test.true h) c.loop-token.invariant.1,
    )

pub returns-clause-answer : goal.returns-clause-answer
returns-clause-answer c =
    let a = c.loop-token.self in
    IsAnswer-same true a _ _ c.loop-token.invariant.1
    (token_end c.args.line c.args.key_use c.args.target.now c.args.tokens.now c.loop-token.token-index a c.loop-token-test.false)
