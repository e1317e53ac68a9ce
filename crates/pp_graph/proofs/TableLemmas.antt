-- Names: the place of one among others.
use Rattle.std.proofs.Common.{◌≡◌, ℕ, ◌+◌, ◌<◌, suc, zero, List, [], ◌∷◌, Bool, true, false, not, cond, length, slice_get, Some, refl, ◌∙◌, subst, arith}
use Rattle.std.specs.Prelude.{bytes_eq}
use Rattle.std.specs.List.{list_any}
use Rattle.std.proofs.lemmas.Bool.{false≢true}
use Rattle.pp_graph.specs.Built.{place_of}
use Rattle.pp_rules.proofs.ListLemmas.{bytes_eq-comm}

-- it holds of each element
abbrev pub Each : {X : Type 0} → (X → Type 0) → List X → Type 0
Each P [] = Unit {0}
Each P (x ∷ xs) = P x × Each P xs

-- so it holds of the element at a place
pub each-at : {X : Type 0} (P : X → Type 0) (xs : List X) → Each P xs → (i : ℕ) (x : X) → slice_get xs i ≡ Some x → P x
each-at P [] s i x e = absurd cc
each-at P (y ∷ ys) s zero x e = let same : y ≡ x = cc in subst P same s.0
each-at P (y ∷ ys) s (suc i) x e = each-at P ys s.1 i x e

-- whether one of these names is equal to the name
abbrev pub has_name : List (List ℕ) → List ℕ → Bool
has_name names name = list_any (λ (other : List ℕ). bytes_eq other name) names

place-step : (b : Bool) (n m : ℕ) → (b ≡ false → n < m) → cond (not b) (1 + n) 0 < suc m
place-step true n m f = omega arith
place-step false n m f = let below : n < m = f refl in omega arith

-- a name that is there has its place below their count
pub place_of-below : (names : List (List ℕ)) (name : List ℕ) → has_name names name ≡ true → place_of names name < length names
place_of-below [] name h = absurd (false≢true h)
place_of-below (other ∷ names) name h =
    place-step (bytes_eq name other) (place_of names name) (length names) (λ e. place_of-below names name (let apart : bytes_eq other name ≡ false = bytes_eq-comm other name ∙ e in rw apart at h))
