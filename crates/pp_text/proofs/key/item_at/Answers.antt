use Rattle.std.proofs.Common.{List, ℕ, arith, inl, inr, ◌∙◌, sym, subst}
use Rattle.pp_text.specs.declared.key.Place.TheVariants as place
use Rattle.pp_text.specs.steps.Places.{BeginsByte}
use Rattle.pp_text.proofs.WrittenLemmas.{same_behind}
use Rattle.pp_text.proofs.ItemLemmas.{one_item, range_item, item_reading, no_dash}
use Rattle.pp_text.proofs.key.item_at.Goals as goal

pub returns-in_err-first-clause-only : goal.returns-in_err-first-clause-only
returns-in_err-first-clause-only c first last rest begins none = elim (item_reading c.args.text.now first last rest begins) [
  | inl one ↦ absurd (c.in_err-first.ensures.only _ _ one.front)
  | inr range ↦ absurd (c.in_err-first.ensures.only _ _ range.front)
]

pub returns-in_default-clause-found : goal.returns-in_default-clause-found
returns-in_default-clause-found c = one_item c.args.text.now c.in_ok-first.first c.in_ok-first.behind.now c.in_ok-first.ensures.found

pub returns-in_default-clause-only : goal.returns-in_default-clause-only
returns-in_default-clause-only c first last rest begins none = elim (item_reading c.args.text.now first last rest begins) [
  | inl one ↦
      let agrees = c.in_ok-first.ensures.only _ _ one.front in
      (agrees.1, λ b. rw agrees.0 (one.same b))
  | inr range ↦
      let agrees = c.in_ok-first.ensures.only _ _ range.front in
      absurd (c.in_default.ensures.none range.range agrees.1)
]

pub returns-in_err-last-clause-only : goal.returns-in_err-last-clause-only
returns-in_err-last-clause-only c first last rest begins none =
    let dash = c.in-Some.ensures.found in
    elim (item_reading c.args.text.now first last rest begins) [
      | inl one ↦
          let agrees = c.in_ok-first.ensures.only _ _ one.front in
          absurd (no_dash rest _ none (sym agrees.1 ∙ dash))
      | inr range ↦
          let agrees = c.in_ok-first.ensures.only _ _ range.front in
          let same = same_behind 45 45 _ _ (sym agrees.1 ∙ dash) in
          absurd (c.in_err-last.ensures.only _ _ (subst (λ (z : List ℕ). BeginsByte place.Set z range.high rest) same range.back))
    ]

pub returns-then-last-first-clause-only : goal.returns-then-last-first-clause-only
returns-then-last-first-clause-only c first last rest begins none =
    let dash = c.in-Some.ensures.found in
    elim (item_reading c.args.text.now first last rest begins) [
      | inl one ↦
          let agrees = c.in_ok-first.ensures.only _ _ one.front in
          no_dash rest _ none (sym agrees.1 ∙ dash)
      | inr range ↦
          let agrees = c.in_ok-first.ensures.only _ _ range.front in
          let same = same_behind 45 45 _ _ (sym agrees.1 ∙ dash) in
          let back = c.in_ok-last.ensures.only _ _ (subst (λ (z : List ℕ). BeginsByte place.Set z range.high rest) same range.back) in
          omega (arith, agrees.0, back.0, range.ordered, c.if-last-first.true)
    ]

pub returns-clause-found : goal.returns-clause-found
returns-clause-found c =
    let dash = c.in-Some.ensures.found in
    range_item c.args.text.now c.in_ok-first.first c.in_ok-last.last c.in_ok-first.behind.now c.in-Some.range.now c.in_ok-last.rest.now c.in_ok-first.ensures.found dash c.in_ok-last.ensures.found c.if-last-first.false

pub returns-clause-only : goal.returns-clause-only
returns-clause-only c first last rest begins none =
    let dash = c.in-Some.ensures.found in
    elim (item_reading c.args.text.now first last rest begins) [
      | inl one ↦
          let agrees = c.in_ok-first.ensures.only _ _ one.front in
          absurd (no_dash rest _ none (sym agrees.1 ∙ dash))
      | inr range ↦
          let agrees = c.in_ok-first.ensures.only _ _ range.front in
          let same = same_behind 45 45 _ _ (sym agrees.1 ∙ dash) in
          let back = c.in_ok-last.ensures.only _ _ (subst (λ (z : List ℕ). BeginsByte place.Set z range.high rest) same range.back) in
          (back.1, λ b. rw (agrees.0, back.0) (range.same b))
    ]
