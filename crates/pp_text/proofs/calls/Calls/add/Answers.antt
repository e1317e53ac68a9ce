-- What a statement adds, by its shape.
use Rattle.std.proofs.Common.{◌∷◌, codes, append_assoc, ◌∙◌, arith}
use Rattle.std.proofs.lemmas.Result.{IfOk-weaker}
use Rattle.pp_text.specs.declared.calls.KeyUse.TheVariants as key_use
use Rattle.pp_text.specs.steps.Shapes.{Shape, One, SomeKeys, SomePeeks, IsShape}
use Rattle.pp_text.specs.Statements.{carried_tokens, arrow_tokens}
use Rattle.pp_text.specs.Tokens.{Word}
use Rattle.pp_text.specs.steps.Rows.{IsAnswer, AddsCall, AddsTokens, AddsStatement}
use Rattle.pp_text.specs.steps.View.{tokens_of, call_of}
use Rattle.pp_text.proofs.DraftLemmas.{IsAnswer-same}
use Rattle.pp_text.proofs.AddLemmas.{none_same, one_same, keys_same, peeks_same, fewer}
use Rattle.pp_text.proofs.calls.Calls.add.Goals as goal

pub returns-in-None-clause-answer : goal.returns-in-None-clause-answer
returns-in-None-clause-answer c = none_same c.args.line (tokens_of c.args.tokens.now) c.args.self.now c.in-None.ensures.only

pub returns-in-Some-One-clause-answer : goal.returns-in-Some-One-clause-answer
returns-in-Some-One-clause-answer c =
    let line = c.args.line in
    let tokens = tokens_of c.args.tokens.now in
    let a = c.args.self.now in
    let b = c.add_call.new.self in
    let what = call_of c.in-Some-One.call in
    let found : IsShape tokens (One what) = rw c.in-Some-One.field-0-is at c.in-Some-One.ensures.found in
    let only = λ (shape : Shape) (is : IsShape tokens shape). rw c.in-Some-One.field-0-is at (c.in-Some-One.ensures.only shape is) in
    let same = one_same line tokens what a found only in
    IfOk-weaker c.add_call.result (λ led. IsAnswer led b (AddsCall line what a)) (λ led. IsAnswer led b (AddsStatement line tokens a))
    (λ led h. IsAnswer-same led b (AddsCall line what a) (AddsStatement line tokens a) same h) c.add_call.ensures.answer

pub returns-in-Some-Keys-clause-answer : goal.returns-in-Some-Keys-clause-answer
returns-in-Some-Keys-clause-answer c =
    let line = c.args.line in
    let tokens = tokens_of c.args.tokens.now in
    let a = c.args.self.now in
    let b = c.add_keys.new.self in
    let written = tokens_of c.in-Some-Keys.keys.now in
    let number = c.in-Some-Keys.number in
    let target = c.in-Some-Keys.target.now in
    let found : IsShape tokens (SomeKeys written number target) = rw c.in-Some-Keys.field-0-is at c.in-Some-Keys.ensures.found in
    let only = λ (shape : Shape) (is : IsShape tokens shape). rw c.in-Some-Keys.field-0-is at (c.in-Some-Keys.ensures.only shape is) in
    let One = AddsTokens line (key_use.Key number) target written a in
    let same = keys_same line tokens written number target a found only in
    IfOk-weaker c.add_keys.result (λ led. IsAnswer led b One) (λ led. IsAnswer led b (AddsStatement line tokens a))
    (λ led h. IsAnswer-same led b One (AddsStatement line tokens a) same h) c.add_keys.ensures.answer

pub returns-in-Some-Keys-clause-count : goal.returns-in-Some-Keys-clause-count
returns-in-Some-Keys-clause-count c =
    let tokens = tokens_of c.args.tokens.now in
    let written = tokens_of c.in-Some-Keys.keys.now in
    let found : IsShape tokens (SomeKeys written c.in-Some-Keys.number c.in-Some-Keys.target.now) = rw c.in-Some-Keys.field-0-is at c.in-Some-Keys.ensures.found in
    let few = fewer c.args.tokens.now c.in-Some-Keys.keys.now _ _ (found.0.spelled ∙ append_assoc (Word (codes "on") ∷ written) (carried_tokens c.in-Some-Keys.number) (arrow_tokens c.in-Some-Keys.target.now)) in
    IfOk-weaker c.add_keys.result _ _ (λ led h. omega (arith, few, h)) c.add_keys.ensures.count

pub returns-in-Some-Peeks-clause-answer : goal.returns-in-Some-Peeks-clause-answer
returns-in-Some-Peeks-clause-answer c =
    let line = c.args.line in
    let tokens = tokens_of c.args.tokens.now in
    let a = c.args.self.now in
    let b = c.add_keys-in-Some-Peeks.new.self in
    let written = tokens_of c.in-Some-Peeks.keys.now in
    let target = c.in-Some-Peeks.target.now in
    let found : IsShape tokens (SomePeeks written target) = rw c.in-Some-Peeks.field-0-is at c.in-Some-Peeks.ensures.found in
    let only = λ (shape : Shape) (is : IsShape tokens shape). rw c.in-Some-Peeks.field-0-is at (c.in-Some-Peeks.ensures.only shape is) in
    let One = AddsTokens line key_use.Peek target written a in
    let same = peeks_same line tokens written target a found only in
    IfOk-weaker c.add_keys-in-Some-Peeks.result (λ led. IsAnswer led b One) (λ led. IsAnswer led b (AddsStatement line tokens a))
    (λ led h. IsAnswer-same led b One (AddsStatement line tokens a) same h) c.add_keys-in-Some-Peeks.ensures.answer

pub returns-in-Some-Peeks-clause-count : goal.returns-in-Some-Peeks-clause-count
returns-in-Some-Peeks-clause-count c =
    let tokens = tokens_of c.args.tokens.now in
    let written = tokens_of c.in-Some-Peeks.keys.now in
    let found : IsShape tokens (SomePeeks written c.in-Some-Peeks.target.now) = rw c.in-Some-Peeks.field-0-is at c.in-Some-Peeks.ensures.found in
    let few = fewer c.args.tokens.now c.in-Some-Peeks.keys.now _ _ found.0.spelled in
    IfOk-weaker c.add_keys-in-Some-Peeks.result _ _ (λ led h. omega (arith, few, h)) c.add_keys-in-Some-Peeks.ensures.count
