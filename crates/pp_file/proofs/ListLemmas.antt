-- What holds of each item of a list.
use Rattle.std.proofs.Common.{◌≡◌, ℕ, zero, suc, List, [], ◌∷◌, All, Some, refl, subst}
use Rattle.std.specs.Prelude.{slice_get}
use Rattle.std.proofs.lemmas.List.Elements.{All-nil, All-cons, All-head, All-tail}

-- two facts of each give a third
pub All-both : (A : Type 0) (P Q R : A → Type 0) → ((a : A) → P a → Q a → R a) → (us : List A) → All P us → All Q us → All R us
All-both A P Q R h [] p q = All-nil R
All-both A P Q R h (a ∷ us) p q = All-cons R a us (h a (All-head P a us p) (All-head Q a us q)) (All-both A P Q R h us (All-tail P a us p) (All-tail Q a us q))

-- what holds at each place
pub All-from_places : (A : Type 0) (P : A → Type 0) (us : List A) → ((i : ℕ) (a : A) → slice_get us i ≡ Some a → P a) → All P us
All-from_places A P [] h = All-nil P
All-from_places A P (a ∷ us) h = All-cons P a us (h 0 a refl) (All-from_places A P us (λ i b at. h (suc i) b at))

-- the item at a place
pub All-place : (A : Type 0) (P : A → Type 0) (us : List A) (i : ℕ) (a : A) → All P us → slice_get us i ≡ Some a → P a
All-place A P [] i a all at = absurd cc
All-place A P (b ∷ us) zero a all at = (let same : b ≡ a = cc in subst P same (All-head P b us all))
All-place A P (b ∷ us) (suc i) a all at = All-place A P us i a (All-tail P b us all) at
