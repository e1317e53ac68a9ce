-- A token between quotes gives one key.
use Rattle.std.proofs.Common.{◌≡◌, ℕ, List, ◌∷◌, [], sym, subst, ◌∙◌}
use Rattle.std.proofs.lemmas.Result.{IfOk-weaker}
use Rattle.pp_text.specs.Keys.{SpellsKey}
use Rattle.pp_text.specs.steps.Rows.{IsAnswer, AddsKeys, AddsToken}
use Rattle.pp_text.specs.Tokens.{Quoted as SpecQuoted}
use Rattle.pp_text.proofs.DraftLemmas.{IsAnswer-same, quoted_same, quoted_none}
use Rattle.pp_text.proofs.calls.Calls.add_quoted.Goals as goal

pub returns-in-Some-clause-answer : goal.returns-in-Some-clause-answer
returns-in-Some-clause-answer c =
    let line = c.args.line in
    let how = c.args.key_use in
    let target = c.args.target.now in
    let a = c.args.self.now in
    let b = c.add_key.new.self in
    let inside = c.args.inside.now in
    let key = c.deref.result.now in
    let is : key ≡ c.in-Some.key.items = c.deref.ensures.value in
    let One = AddsKeys line how target (key ∷ []) a in
    let Whole = AddsToken line how target (SpecQuoted inside) a in
    let spells : SpellsKey inside c.in-Some.key.items = rw c.in-Some.is at c.in_ok-key.ensures.found in
    let only = λ (k : List ℕ) (s : SpellsKey inside k). rw c.in-Some.is at (c.in_ok-key.ensures.only k s) in
    let same = quoted_same line how target inside key a (subst (SpellsKey inside) (sym is) spells) (λ k s. is ∙ only k s) in
    IfOk-weaker c.add_key.result (λ led. IsAnswer led b One) (λ led. IsAnswer led b Whole) (λ led h. IsAnswer-same led b One Whole same h) c.add_key.ensures.answer

pub returns-in-None-clause-answer : goal.returns-in-None-clause-answer
returns-in-None-clause-answer c =
    quoted_none c.args.line c.args.key_use c.args.target.now c.args.inside.now c.args.self.now
    (λ k s. rw c.in-None.is at (c.in_ok-key.ensures.only k s))
