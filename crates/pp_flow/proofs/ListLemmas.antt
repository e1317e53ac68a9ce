-- Some element of a list, the fronts of lists, and elements behind others.
use Rattle.std.proofs.Common.{subst, ◌≡◌, ◌↔◌, ℕ, zero, suc, ◌+◌, ◌<◌, ◌⊎◌, List, [], ◌∷◌, ◌++◌, Some, refl, sym, ◌∙◌, ap, arith, length, take, get_or, inl, inr}
use Rattle.std.specs.Prelude.{slice_get}
use Rattle.std.specs.List.{Any}
use Rattle.std.proofs.lemmas.Option.{slice_get_within, slice_get-get_or, get_or_from_slice_get}
use Rattle.std.proofs.lemmas.List.{get_or-take, length-take-le, get_or_default}

module _ {X : Type 0} where
  -- an element that is there
  pub any-at : (P : X → Type 0) (xs : List X) (i : ℕ) (x : X) → slice_get xs i ≡ Some x → P x → Any P xs
  any-at P xs i x listed p = (i, x, slice_get_within xs i x listed, get_or_from_slice_get xs i x x listed, p)

  -- and its place
  pub any-listed : (P : X → Type 0) (xs : List X) → (a : Any P xs) → slice_get xs a.0 ≡ Some a.1
  any-listed P xs a = slice_get-get_or xs a.0 a.1 a.2 ∙ ap Some a.3

  pub any-map : (P Q : X → Type 0) (xs : List X) → ((x : X) → P x → Q x) → Any P xs → Any Q xs
  any-map P Q xs f a = (a.0, a.1, a.2, a.3, f a.1 a.4)

  -- the first is one of the front
  pub any-none : (P : X → Type 0) → Any P [] → ⊥
  any-none P a = omega (arith, a.2)

  -- with one more element in front
  pub any-first : (P : X → Type 0) (x : X) (xs : List X) → P x → Any P (x ∷ xs)
  any-first P x xs p = (0, x, omega arith, refl, p)

  pub any-later : (P : X → Type 0) (x : X) (xs : List X) → Any P xs → Any P (x ∷ xs)
  any-later P x xs a = (suc a.0, a.1, omega (arith, a.2), a.3, a.4)

  pub any-either : (P : X → Type 0) (x : X) (xs : List X) → Any P (x ∷ xs) → P x ⊎ Any P xs
  any-either P x xs (zero, y, low, at, p) = inl (subst P (sym at) p)
  any-either P x xs (suc k, y, low, at, p) = inr (k, y, omega (arith, low), at, p)

  -- with one more element behind
  pub any-more : (P : X → Type 0) (xs : List X) (i : ℕ) (x : X) → i < length xs → x ≡ get_or xs i x → Any P (take (i + 1) xs) ↔ (Any P (take i xs) ⊎ P x)
  any-more P xs i x low at = (
    (λ a.
        let size : length (take (i + 1) xs) ≡ i + 1 = length-take-le (i + 1) xs (omega (arith, low)) in
        let small : length (take i xs) ≡ i = length-take-le i xs (omega (arith, low)) in
        let here : get_or (take (i + 1) xs) a.0 a.1 ≡ get_or xs a.0 a.1 = get_or-take (i + 1) xs a.0 a.1 (omega (arith, a.2, size)) in
        elim (before-or-at a.0 i (omega (arith, a.2, size))) [
          | inl less ↦ inl (a.0, a.1, omega (arith, less, small), get_or-take i xs a.0 a.1 less ∙ (sym here ∙ a.3), a.4)
          | inr same ↦
              let read : get_or xs i a.1 ≡ a.1 = ap (λ n. get_or xs n a.1) (sym same) ∙ (sym here ∙ a.3) in
              inr (subst P (sym (at ∙ (get_or_default xs i x a.1 low ∙ read))) a.4)
        ]),
    (λ e.
        let size : length (take (i + 1) xs) ≡ i + 1 = length-take-le (i + 1) xs (omega (arith, low)) in
        let small : length (take i xs) ≡ i = length-take-le i xs (omega (arith, low)) in
        elim e [
          | inl a ↦
              let less : a.0 < i = omega (arith, a.2, small) in
              (a.0, a.1, omega (arith, less, size), get_or-take (i + 1) xs a.0 a.1 (omega (arith, less)) ∙ (sym (get_or-take i xs a.0 a.1 less) ∙ a.3), a.4)
          | inr p ↦ (i, x, omega (arith, size), get_or-take (i + 1) xs i x (omega arith) ∙ sym at, p)
        ]),
  )
    where
      before-or-at : (k i : ℕ) → k < i + 1 → (k < i) ⊎ (k ≡ i)
      before-or-at k i h = grind arith

  -- the elements with one more behind them
  pub get-pushed : (xs : List X) (x y : X) (i : ℕ) → slice_get (xs ++ x ∷ []) i ≡ Some y → (slice_get xs i ≡ Some y) ⊎ (x ≡ y)
  get-pushed [] x y zero e = inr cc
  get-pushed [] x y (suc i) e = absurd cc
  get-pushed (z ∷ xs) x y zero e = inl e
  get-pushed (z ∷ xs) x y (suc i) e = get-pushed xs x y i e

  pub get-last : (xs : List X) (x : X) → slice_get (xs ++ x ∷ []) (length xs) ≡ Some x
  get-last [] x = refl
  get-last (z ∷ xs) x = get-last xs x

  -- an element of two lists is in one of them
  pub get-either : (xs ys : List X) (k : ℕ) (x : X) → slice_get (xs ++ ys) k ≡ Some x → (slice_get xs k ≡ Some x) ⊎ ((j : ℕ) × (slice_get ys j ≡ Some x))
  get-either [] ys k x e = inr (k, e)
  get-either (z ∷ xs) ys zero x e = inl e
  get-either (z ∷ xs) ys (suc k) x e = get-either xs ys k x e

  pub get-front : (xs ys : List X) (x : X) (k : ℕ) → slice_get xs k ≡ Some x → slice_get (xs ++ ys) k ≡ Some x
  get-front [] ys x k e = absurd cc
  get-front (z ∷ xs) ys x zero e = e
  get-front (z ∷ xs) ys x (suc k) e = get-front xs ys x k e

  pub get-back : (xs ys : List X) (x : X) (j : ℕ) → slice_get ys j ≡ Some x → (k : ℕ) × (slice_get (xs ++ ys) k ≡ Some x)
  get-back [] ys x j e = (j, e)
  get-back (z ∷ xs) ys x j e = (let r : (k : ℕ) × (slice_get (xs ++ ys) k ≡ Some x) = get-back xs ys x j e in (suc r.0, r.1))
