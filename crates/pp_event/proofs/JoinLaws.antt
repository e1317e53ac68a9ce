-- Logs in a row join in a row.
use Rattle.std.proofs.Common.{◌≡◌, ℕ, zero, suc, ◌+◌, ◌<◌, List, [], ◌∷◌, ◌++◌, Option, Some, None, true, false, refl, ap, arith, length, set}
use Rattle.std.specs.Prelude.{slice_set}
use Rattle.pp_event.specs.declared.item.Item.{Item}
use Rattle.pp_event.specs.declared.item.Item.TheVariants as item
use Rattle.pp_event.specs.Told.{Told, Called, Pieced}
use Rattle.pp_event.specs.Turns.{slot}
use Rattle.pp_event.specs.Joined.{first_at, begun_after, joined_from, besides_pauses}

-- the items of a log and more behind it
pub joined_from-more : (begun : List (Option ℕ)) (xs ys : List Told) → joined_from begun (xs ++ ys) ≡ joined_from begun xs ++ joined_from (begun_after begun xs) ys
joined_from-more begun [] ys = refl
joined_from-more begun (Called code value at values answer ∷ xs) ys = ap (λ (l : List Item). item.Call code value at values answer ∷ l) (joined_from-more begun xs ys)
joined_from-more begun (Pieced span at part true answer ∷ xs) ys =
    ap (λ (l : List Item). item.Span span (first_at begun span at) (at + length part) ∷ l) (joined_from-more (slice_set begun span None) xs ys)
joined_from-more begun (Pieced span at part false answer ∷ xs) ys =
    joined_from-more (slice_set begun span (Some (first_at begun span at))) xs ys

-- what has begun after a log and more behind it
pub begun_after-more : (begun : List (Option ℕ)) (xs ys : List Told) → begun_after begun (xs ++ ys) ≡ begun_after (begun_after begun xs) ys
begun_after-more begun [] ys = refl
begun_after-more begun (Called code value at values answer ∷ xs) ys = begun_after-more begun xs ys
begun_after-more begun (Pieced span at part true answer ∷ xs) ys = begun_after-more (slice_set begun span None) xs ys
begun_after-more begun (Pieced span at part false answer ∷ xs) ys = begun_after-more (slice_set begun span (Some (first_at begun span at))) xs ys

-- items in a row, besides their pauses
pub besides-more : (xs ys : List Item) → besides_pauses (xs ++ ys) ≡ besides_pauses xs ++ besides_pauses ys
besides-more [] ys = refl
besides-more (item.Call code value at values answer ∷ xs) ys = ap (λ (l : List Item). item.Call code value at values answer ∷ l) (besides-more xs ys)
besides-more (item.Span span from to ∷ xs) ys = ap (λ (l : List Item). item.Span span from to ∷ l) (besides-more xs ys)
besides-more (item.Pause code at ∷ xs) ys = besides-more xs ys

-- a slot that was written
pub slot-same : (xs : List (Option ℕ)) (s : ℕ) (v : Option ℕ) → s < length xs → slot (set xs s v) s ≡ v
slot-same [] s v h = absurd (omega arith)
slot-same (x ∷ xs) zero v h = refl
slot-same (x ∷ xs) (suc s) v h = slot-same xs s v (omega arith)

-- another slot than the one that was written
pub slot-other : (xs : List (Option ℕ)) (s t : ℕ) (v : Option ℕ) → (s ≡ t → ⊥) → slot (set xs s v) t ≡ slot xs t
slot-other [] s t v h = refl
slot-other (x ∷ xs) zero zero v h = absurd (h refl)
slot-other (x ∷ xs) zero (suc t) v h = refl
slot-other (x ∷ xs) (suc s) zero v h = refl
slot-other (x ∷ xs) (suc s) (suc t) v h = slot-other xs s t v (λ e. h (ap suc e))
