-- Words compared without regard to case.
use Rattle.std.proofs.Common.{◌≡◌, ℕ, ◌+◌, ◌<◌, ◌≤◌, ◌≢◌, Bool, true, false, ◌&&◌, eqb, List, [], ◌∷◌, length, get_or, drop, map, sym, ap, ◌∙◌, arith}
use Rattle.std.proofs.lemmas.Bool.{false_from_ne_true, and_left, ne_eqb, eq-eqb}
use Rattle.std.proofs.lemmas.List.{drop_more, drop_all, length-map}
use Rattle.std.proofs.lemmas.Slice.Eq.{bytes_eq-Decides}
use Rattle.pp_bytes.specs.Fold.{folded}
use Rattle.pp_bytes.specs.declared.fold.Fold.TheVariants.{Lower}
use Rattle.pp_frame.specs.Bytes.{folds_to}

-- bytes of another length fold to other bytes
pub folds_to-lengths : (lower bytes : List ℕ) → length bytes ≢ length lower → folds_to lower bytes ≡ false
folds_to-lengths lower bytes other =
    false_from_ne_true _ (λ same. other (sym (length-map bytes (folded Lower)) ∙ ap length ((bytes_eq-Decides (map (folded Lower) bytes) lower).0 same)))

-- the bytes from a place on are compared there, and then from the next place on
pub folds_to-more : (lower bytes : List ℕ) (i : ℕ) → length bytes ≡ length lower → i < length bytes →
    folds_to (drop i lower) (drop i bytes) ≡ (eqb (folded Lower (get_or bytes i 0)) (get_or lower i 0) && folds_to (drop (i + 1) lower) (drop (i + 1) bytes))
folds_to-more lower bytes i same within =
    let first : drop i bytes ≡ get_or bytes i 0 ∷ drop (i + 1) bytes = drop_more bytes i 0 within in
    let second : drop i lower ≡ get_or lower i 0 ∷ drop (i + 1) lower = drop_more lower i 0 (omega arith) in
    ap (λ (xs : List ℕ). folds_to (drop i lower) xs) first ∙ ap (λ (ys : List ℕ). folds_to ys (get_or bytes i 0 ∷ drop (i + 1) bytes)) second

-- nothing is left to compare
pub folds_to-all : (lower bytes : List ℕ) (i : ℕ) → length bytes ≡ length lower → length bytes ≤ i → folds_to (drop i lower) (drop i bytes) ≡ true
folds_to-all lower bytes i same past =
    ap (λ (xs : List ℕ). folds_to (drop i lower) xs) (drop_all i bytes past) ∙ ap (λ (ys : List ℕ). folds_to ys []) (drop_all i lower (omega arith))

-- a byte that folds to another ends the comparison
pub folds_to-stops : (lower bytes : List ℕ) (i : ℕ) → length bytes ≡ length lower → i < length bytes → folded Lower (get_or bytes i 0) ≢ get_or lower i 0 →
    folds_to (drop i lower) (drop i bytes) ≡ false
folds_to-stops lower bytes i same within other = folds_to-more lower bytes i same within ∙ and_left (eqb (folded Lower (get_or bytes i 0)) (get_or lower i 0)) (folds_to (drop (i + 1) lower) (drop (i + 1) bytes)) (ne_eqb (folded Lower (get_or bytes i 0)) (get_or lower i 0) other)

-- a byte that folds to the one wanted leaves the rest to compare
pub folds_to-goes_on : (lower bytes : List ℕ) (i : ℕ) → length bytes ≡ length lower → i < length bytes → folded Lower (get_or bytes i 0) ≡ get_or lower i 0 →
    folds_to (drop i lower) (drop i bytes) ≡ folds_to (drop (i + 1) lower) (drop (i + 1) bytes)
folds_to-goes_on lower bytes i same within equal = folds_to-more lower bytes i same within ∙ ap (λ (b : Bool). b && folds_to (drop (i + 1) lower) (drop (i + 1) bytes)) (eq-eqb (folded Lower (get_or bytes i 0)) (get_or lower i 0) equal)
