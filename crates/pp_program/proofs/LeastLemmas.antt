-- The first of some states, and rows of elements.
use Rattle.std.proofs.Common.{subst, ◌≡◌, ℕ, zero, suc, ◌+◌, ◌-◌, ◌≤◌, ◌<◌, List, [], ◌∷◌, Some, Bool, true, false, refl, sym, ◌∙◌, ap, arith, length, get_or, drop, ◌&&◌, inl, inr}
use Rattle.std.specs.Prelude.{slice_get, not}
use Rattle.std.proofs.lemmas.Bool.{cases_lt, false≢true}
use Rattle.std.proofs.lemmas.Option.{slice_get_within, slice_get-get_or}
use Rattle.pp_program.specs.declared.program.State.{State}
use Rattle.pp_program.specs.Targets.{in_row}
use Rattle.pp_program.specs.steps.Least.{IsAt}

pub least-more : (P : State → Type 0) (items states : List State) (i : ℕ) (d : State) → items ≡ states → i < length items → ((j : ℕ) → j < i → IsAt P states j → ⊥) → (P (get_or items i d) → ⊥) →
    (j : ℕ) → j < i + 1 → IsAt P states j → ⊥
least-more P items states i d is low before here j small at = elim (cases_lt j i) [
  | inl less ↦ before j less at
  | inr more ↦
      let e : i ≡ j = omega (arith, small, more) in
      let there : slice_get states j ≡ Some (get_or items i d) = subst (λ n. slice_get states n ≡ Some (get_or items i d)) e (subst (λ (xs : List State). slice_get xs i ≡ Some (get_or items i d)) is (slice_get-get_or items i d low)) in
      let both : Some at.0 ≡ Some (get_or items i d) = sym at.1 ∙ there in
      let same : at.0 ≡ get_or items i d = cc in
      here (subst P same at.2)
]

pub least-all : (P : State → Type 0) (items states : List State) (i : ℕ) → items ≡ states → length items ≤ i → ((j : ℕ) → j < i → IsAt P states j → ⊥) → (j : ℕ) → IsAt P states j → ⊥
least-all P items states i is end before j at =
    let low : j < length states = slice_get_within states j at.0 at.1 in
    let long : length items ≡ length states = ap length is in
    before j (omega (arith, low, long, end)) at

-- what holds of each element before a place, and of the one there, holds of one more
pub each-more : {X : Type 0} (P : X → Type 0) (xs : List X) (i : ℕ) (d : X) → i < length xs → ((j : ℕ) (x : X) → j < i → slice_get xs j ≡ Some x → P x) → P (get_or xs i d) →
    (j : ℕ) (x : X) → j < i + 1 → slice_get xs j ≡ Some x → P x
each-more P xs i d low before here j x small at = elim (cases_lt j i) [
  | inl less ↦ before j x less at
  | inr more ↦
      let e : i ≡ j = omega (arith, small, more) in
      let both : Some x ≡ Some (get_or xs i d) = sym at ∙ subst (λ n. slice_get xs n ≡ Some (get_or xs i d)) e (slice_get-get_or xs i d low) in
      let same : get_or xs i d ≡ x = cc in
      subst P same here
]

module _ {X : Type 0} (follows : X → X → Bool) where
  row-step : (xs : List X) (k : ℕ) (d e : X) → suc k < length xs → in_row follows (drop k xs) ≡ (follows (get_or xs k d) (get_or xs (suc k) e) && in_row follows (drop (suc k) xs))
  row-step [] k d e h = absurd (omega (arith, h))
  row-step (x ∷ []) k d e h = absurd (omega (arith, h))
  row-step (x ∷ y ∷ ys) zero d e h = refl
  row-step (x ∷ y ∷ ys) (suc k) d e h = row-step (y ∷ ys) k d e (omega (arith, h))

  row-end : (xs : List X) (k : ℕ) → length xs ≤ suc k → in_row follows (drop k xs) ≡ true
  row-end [] zero h = refl
  row-end [] (suc k) h = refl
  row-end (x ∷ []) zero h = refl
  row-end (x ∷ y ∷ ys) zero h = absurd (omega (arith, h))
  row-end (x ∷ xs) (suc k) h = row-end xs k (omega (arith, h))

  pub row-more : (xs : List X) (i : ℕ) (d e : X) → 1 ≤ i → i < length xs → in_row follows (drop (i - 1) xs) ≡ in_row follows xs → follows (get_or xs (i - 1) d) (get_or xs i e) ≡ true →
      in_row follows (drop (i + 1 - 1) xs) ≡ in_row follows xs
  row-more xs i d e one low was here =
      let up : suc (i - 1) ≡ i = omega (arith, one) in
      let on : i + 1 - 1 ≡ i = omega arith in
      let step : in_row follows (drop (i - 1) xs) ≡ (follows (get_or xs (i - 1) d) (get_or xs i e) && in_row follows (drop i xs)) =
      subst (λ n. in_row follows (drop (i - 1) xs) ≡ (follows (get_or xs (i - 1) d) (get_or xs n e) && in_row follows (drop n xs))) up (row-step xs (i - 1) d e (omega (arith, low, up))) in
      let cut : in_row follows (drop (i - 1) xs) ≡ in_row follows (drop i xs) = step ∙ ap (λ t. t && in_row follows (drop i xs)) here in
      ap (λ n. in_row follows (drop n xs)) on ∙ (sym cut ∙ was)

  pub row-all : (xs : List X) (i : ℕ) → 1 ≤ i → length xs ≤ i → in_row follows (drop (i - 1) xs) ≡ in_row follows xs → true ≡ in_row follows xs
  row-all xs i one end was = sym (row-end xs (i - 1) (omega (arith, one, end))) ∙ was

pub not-not : (t : Bool) → not t ≡ false → t ≡ true
not-not true e = refl
not-not false e = absurd (false≢true (sym e))
