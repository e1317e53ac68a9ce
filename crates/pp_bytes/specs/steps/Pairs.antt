-- What the fields of `Ranges` hold.
use Rattle.std.specs.Prelude.{◌≡◌, ℕ, ◌-◌, ◌≤◌, List, ◌++◌, length, take, drop, replicate}
use Rattle.std.proofs.Common.{ap, ◌∙◌, sym, length-take, take-append-drop, arith}
use Rattle.pp_bytes.specs.Ranges.{IsRanges}
use Rattle.pp_bytes.specs.declared.ranges.Ranges.TheInside.{Inside}

-- the pairs in use, which stand first
abbrev pub pairs_in_use : Inside → List (ℕ × ℕ)
pairs_in_use a = take a.count a.pairs

-- there are 8 places, the pairs in use have the form of ranges, and the places after them are (0, 0)
pub record HoldsRanges (a : Inside) : Type 0 where
  pub places : length a.pairs ≡ 8
  pub within : a.count ≤ 8
  pub form : IsRanges (pairs_in_use a)
  pub rest : drop a.count a.pairs ≡ replicate (8 - a.count) (0, 0)

-- the fields with these values
abbrev fields : List (ℕ × ℕ) → ℕ → Inside
fields pairs count = record { pairs = pairs; count = count }

-- the fields that hold these pairs
abbrev pub padded : List (ℕ × ℕ) → Inside
padded pairs = record { pairs = pairs ++ replicate (8 - length pairs) (0, 0); count = length pairs }

-- the pairs in use are all that the fields hold
pub padded-in_use : (a : Inside) → HoldsRanges a → padded (pairs_in_use a) ≡ a
padded-in_use a h =
    let front : List (ℕ × ℕ) = take a.count a.pairs in
    let count_is : length front ≡ a.count = omega (arith, length-take a.count a.pairs, h.places, h.within) in
    let pairs_is : front ++ replicate (8 - length front) (0, 0) ≡ a.pairs =
    ap (λ (n : ℕ). front ++ replicate (8 - n) (0, 0)) count_is
    ∙ ap (λ (rest : List (ℕ × ℕ)). front ++ rest) (sym h.rest)
    ∙ take-append-drop a.count a.pairs in
    ap (λ (pairs : List (ℕ × ℕ)). fields pairs (length front)) pairs_is ∙ ap (λ (n : ℕ). fields a.pairs n) count_is
