-- What holds of each element of a list, told place by place.
use Rattle.std.proofs.Common.{◌≡◌, ℕ, ◌+◌, ◌<◌, ◌≤◌, List, Some, Bool, true, false, refl, ◌∙◌, subst, arith, length, get_or, eqb}
use Rattle.std.specs.Prelude.{slice_get}
use Rattle.std.proofs.lemmas.Bool.{eqb-true, eqb-false}
use Rattle.std.proofs.lemmas.Option.{get_or_from_slice_get, slice_get_within}

-- P holds of each element whose place is below n
abbrev pub HoldsBelow : {X : Type 0} → (X → Type 0) → List X → ℕ → Type 0
HoldsBelow {X} P xs n = (i : ℕ) (x : X) → i < n → slice_get xs i ≡ Some x → P x

-- and of the next one
pub holds_more : {X : Type 0} (P : X → Type 0) (xs : List X) (n : ℕ) (d : X) → HoldsBelow P xs n → d ≡ get_or xs n d → P d → HoldsBelow P xs (n + 1)
holds_more {X} P xs n d h e p i x below at = go (eqb i n) refl
  where
    go : (b : Bool) → eqb i n ≡ b → P x
    go true t =
        let here : slice_get xs n ≡ Some x = subst (λ (k : ℕ). slice_get xs k ≡ Some x) (eqb-true i n t) at in
        subst P (e ∙ get_or_from_slice_get xs n x d here) p
    go false f = (let other : i ≡ n → ⊥ = eqb-false i n f in h i x (grind arith) at)

-- up to the length it holds of all
pub holds_each : {X : Type 0} (P : X → Type 0) (xs : List X) (n : ℕ) → HoldsBelow P xs n → length xs ≤ n → (i : ℕ) (x : X) → slice_get xs i ≡ Some x → P x
holds_each P xs n h long i x at = (let inside : i < length xs = slice_get_within xs i x at in h i x (omega arith) at)
