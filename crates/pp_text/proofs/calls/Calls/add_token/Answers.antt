-- What a token gives.
use Rattle.std.proofs.Common.{ap}
use Rattle.std.proofs.lemmas.Result.{IfOk-weaker}
use Rattle.pp_text.specs.steps.Rows.{IsAnswer, AddsKeys, AddsToken, keys_of}
use Rattle.pp_text.specs.steps.View.{token_of}
use Rattle.pp_text.proofs.DraftLemmas.{IsAnswer-same, bracketed_same, bracketed_none}
use Rattle.pp_text.proofs.calls.Calls.add_token.Goals as goal

pub returns-in-Some-clause-answer : goal.returns-in-Some-clause-answer
returns-in-Some-clause-answer c =
    let line = c.args.line in
    let how = c.args.key_use in
    let target = c.args.target.now in
    let a = c.args.self.now in
    let b = c.add_set.new.self in
    let inside = c.in-Bracketed.inside.now in
    let s = c.in-Some.set in
    let One = AddsKeys line how target (keys_of s) a in
    let Whole = AddsToken line how target (token_of c.args.token) a in
    let same = bracketed_same line how target inside (token_of c.args.token) s a (ap token_of c.in-Bracketed.is) c.in-Some.ensures.found c.in-Some.ensures.only in
    IfOk-weaker c.add_set.result (λ led. IsAnswer led b One) (λ led. IsAnswer led b Whole) (λ led h. IsAnswer-same led b One Whole same h) c.add_set.ensures.answer

pub returns-in-None-clause-answer : goal.returns-in-None-clause-answer
returns-in-None-clause-answer c =
    bracketed_none c.args.line c.args.key_use c.args.target.now c.in-Bracketed.inside.now (token_of c.args.token) c.args.self.now (ap token_of c.in-Bracketed.is) c.in-None.ensures.only
