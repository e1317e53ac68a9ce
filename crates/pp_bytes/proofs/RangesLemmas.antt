-- Pairs that have the form of ranges.
use Rattle.std.proofs.Common.{◌≡◌, Bool, true, ◌||◌, get_or, ℕ, ◌+◌, ◌-◌, ◌<◌, ◌≤◌, List, [], ◌∷◌, ◌++◌, length, take, drop, replicate, ap, sym, ◌∙◌, subst, arith}
use Rattle.std.proofs.Math.Bool.{or-false}
use Rattle.std.proofs.Math.ListN.{set}
use Rattle.std.proofs.lemmas.List.{take_more_set, drop-set-lt, drop-drop, drop-replicate, length-set, length_push}
use Rattle.std.proofs.lemmas.Bool.{and_from, and_parts, le-leb, leb-true}
use Rattle.std.proofs.lemmas.List.Folds.{list_any_at, list_any-append, Any-from_list_any}
use Rattle.std.proofs.lemmas.List.Elements.{All-push}
use Rattle.std.proofs.lemmas.List.Quantifiers.{all_pairs_push}
use Rattle.pp_bytes.specs.steps.Pairs.{HoldsRanges}
use Rattle.pp_bytes.specs.Ranges.{IsRanges, CanFollow, in_pair, in_ranges}

-- a pair that can follow ranges makes ranges with them
pub IsRanges-push : (pairs : List (ℕ × ℕ)) (lo hi : ℕ) → IsRanges pairs → CanFollow pairs lo hi → hi < 256 → IsRanges (pairs ++ (lo, hi) ∷ [])
IsRanges-push pairs lo hi form follows byte = record {
  few = omega (arith, length_push pairs (lo, hi), follows.room);
  bytes = All-push (λ pair. pair.1 < 256) pairs (lo, hi) form.bytes byte;
  ordered = All-push (λ pair. pair.0 ≤ pair.1) pairs (lo, hi) form.ordered follows.ordered;
  apart = all_pairs_push (λ pair later. pair.1 + 1 < later.0) pairs (lo, hi) form.apart follows.apart;
}

-- a byte that stands in the pair at a place is in the ranges
pub in_ranges-from_pair : (pairs : List (ℕ × ℕ)) (b k : ℕ) (d : ℕ × ℕ) → k < length pairs → (get_or pairs k d).0 ≤ b → b ≤ (get_or pairs k d).1 → in_ranges pairs b ≡ true
in_ranges-from_pair pairs b k d within low high =
    list_any_at (in_pair b) pairs k d within (and_from _ _ (le-leb _ _ low) (le-leb _ _ high))

-- a byte in the ranges stands in the pair at some place
pub pair_of_byte : (pairs : List (ℕ × ℕ)) (b : ℕ) → in_ranges pairs b ≡ true →
    (k : ℕ) × (d : ℕ × ℕ) × (k < length pairs) × ((get_or pairs k d).0 ≤ b) × (b ≤ (get_or pairs k d).1)
pair_of_byte pairs b inside =
    let found = Any-from_list_any (in_pair b) pairs inside in
    let tests = and_parts _ _ found.4 in
    let at : get_or pairs found.0 found.1 ≡ found.1 = found.3 in
    (found.0, found.1, found.2, rw at (leb-true _ _ tests.0), rw at (leb-true _ _ tests.1))

-- a byte in the pairs and one more is in the pairs or in that one
pub in_ranges-push : (pairs : List (ℕ × ℕ)) (pair : ℕ × ℕ) (b : ℕ) → in_ranges (pairs ++ pair ∷ []) b ≡ (in_ranges pairs b || in_pair b pair)
in_ranges-push pairs pair b = list_any-append (in_pair b) pairs (pair ∷ []) ∙ ap (λ (t : Bool). in_ranges pairs b || t) (or-false _)

-- the fields hold ranges after a pair was written to the first free place
pub HoldsRanges-push : (pairs : List (ℕ × ℕ)) (count lo hi : ℕ) → length pairs ≡ 8 → count < 8 → drop count pairs ≡ replicate (8 - count) (0, 0) →
    IsRanges (take count pairs) → CanFollow (take count pairs) lo hi → hi < 256 → HoldsRanges record { pairs = set pairs count (lo, hi); count = count + 1 }
HoldsRanges-push pairs count lo hi places room rest form follows byte = record {
  places = length-set pairs count (lo, hi) ∙ places;
  within = omega arith;
  form = subst IsRanges (sym (take_more_set pairs count (lo, hi) (omega arith))) (IsRanges-push (take count pairs) lo hi form follows byte);
  rest =
      drop-set-lt (count + 1) pairs count (lo, hi) (omega arith)
      ∙ sym (drop-drop 1 count pairs)
      ∙ ap (λ (free : List (ℕ × ℕ)). drop 1 free) rest
      ∙ drop-replicate 1 (8 - count) (0, 0)
      ∙ ap (λ (n : ℕ). replicate n (0, 0)) (omega arith);
}
