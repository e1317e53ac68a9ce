-- The bits of a number as tests of the bytes of a block.
use Rattle.std.proofs.Common.{◌≡◌, ℕ, ◌+◌, ◌*◌, ◌%◌, ◌^◌, ◌<◌, ◌≤◌, Bool, true, false, cond, ◌&&◌, ◌||◌, max, inl, inr, List, [], ◌∷◌, map, length, get_or, take, replicate, bit_and, bit_or, w64, refl, sym, ap, ◌∙◌, arith, zero-add}
use Rattle.std.proofs.lemmas.Bool.{both_ways, cases_lt}
use Rattle.std.proofs.lemmas.List.{length-map, get_or-map, get_or_past}
use Rattle.std.proofs.lemmas.List.Folds.{list_any_more}
use Rattle.std.proofs.lemmas.List.Sums.{prefix_len_is}
use Rattle.std.proofs.lemmas.Nat.Bits.{bit_at_or, bit_at-trailing_ones, same_from_bits}
use Rattle.std.proofs.lemmas.Simd.{zip2_splat, zip2_splat_left, zip2_of_maps, map-map, mask_l-mod, mask_l-lt, bit_mask_l}
use Rattle.std.specs.Bool.{nat_le}
use Rattle.std.specs.Int.{bit_at, trailing_ones}
use Rattle.std.specs.List.{prefix_len}
use Rattle.std.specs.Simd.Lanes.{mask_l, top, zip2}
use Rattle.pp_bytes.specs.Ranges.{in_pair, in_ranges}
use Rattle.pp_scan.specs.steps.Lanes.{bits_of}

-- two tests that agree at each byte have the same bits
bits_agree : (p q : ℕ → Bool) (block : List ℕ) → ((b : ℕ) → p b ≡ q b) → map p block ≡ map q block
bits_agree p q [] same = refl
bits_agree p q (b ∷ block) same = ap (λ (t : Bool). t ∷ map p block) (same b) ∙ ap (λ (ts : List Bool). q b ∷ ts) (bits_agree p q block same)

-- a lane of a comparison
abbrev lane : Bool → ℕ
lane t = cond t 255 0

-- the top bit of two lanes that are both ones
top_of_both : (s t : Bool) → top 7 (bit_and (lane s) (lane t)) ≡ (s && t)
top_of_both true true = refl
top_of_both true false = refl
top_of_both false true = refl
top_of_both false false = refl

-- the bits of two comparisons with the ends of a pair, both at once
pub bits_of_pair : (block : List ℕ) (lo hi : ℕ) → length block ≡ 32 →
    mask_l (map (top 7) (zip2 bit_and (zip2 (λ a b. lane (nat_le a b)) (replicate 32 lo) block) (zip2 (λ a b. lane (nat_le a b)) block (replicate 32 hi)))) % 2 ^ 64
    ≡ bits_of (λ b. in_pair b (lo, hi)) block
bits_of_pair block lo hi long =
    let compared = zip2_of_maps bit_and (λ b. lane (nat_le lo b)) (λ b. lane (nat_le b hi)) block
    (zip2_splat_left (λ a b. lane (nat_le a b)) lo 32 block long) (zip2_splat (λ a b. lane (nat_le a b)) block 32 hi long) in
    let tests : map (top 7) (zip2 bit_and (zip2 (λ a b. lane (nat_le a b)) (replicate 32 lo) block) (zip2 (λ a b. lane (nat_le a b)) block (replicate 32 hi))) ≡ map (λ b. in_pair b (lo, hi)) block =
    ap (map (top 7)) compared
    ∙ map-map (top 7) (λ b. bit_and (lane (nat_le lo b)) (lane (nat_le b hi))) block
    ∙ bits_agree _ _ block (λ b. top_of_both (nat_le lo b) (nat_le b hi)) in
    ap (λ (ts : List Bool). mask_l ts % 2 ^ 64) tests
    ∙ mask_l-mod (map (λ b. in_pair b (lo, hi)) block) 64 (omega (arith, length-map block (λ b. in_pair b (lo, hi))))

-- a bit of the tests of a block
bit_of : (p : ℕ → Bool) (block : List ℕ) (i : ℕ) → bit_at (bits_of p block) i ≡ cond (get_or (map p block) i false) 1 0
bit_of p block i = bit_mask_l (map p block) i

greater_bit : (s t : Bool) → max (cond s 1 0) (cond t 1 0) ≡ cond (s || t) 1 0
greater_bit true true = refl
greater_bit true false = refl
greater_bit false true = refl
greater_bit false false = refl

-- one test or the other, at a place of the block or past it
either_at : (p q : ℕ → Bool) (block : List ℕ) (i : ℕ) → (get_or (map p block) i false || get_or (map q block) i false) ≡ get_or (map (λ b. p b || q b) block) i false
either_at p q block i = elim (cases_lt i (length block)) [
  | inl within ↦ rw (get_or-map p block i 0 false within, get_or-map q block i 0 false within, get_or-map (λ b. p b || q b) block i 0 false within) refl
  | inr past ↦ rw (
    get_or_past (map p block) i false (omega (arith, length-map block p)),
    get_or_past (map q block) i false (omega (arith, length-map block q)),
    get_or_past (map (λ b. p b || q b) block) i false (omega (arith, length-map block (λ b. p b || q b))),
  ) refl
]

-- the bits of one test or the other
bits_or : (p q : ℕ → Bool) (block : List ℕ) → bit_or (bits_of p block) (bits_of q block) ≡ bits_of (λ b. p b || q b) block
bits_or p q block = same_from_bits _ _ (λ i.
    bit_at_or (bits_of p block) (bits_of q block) i
    ∙ ap (λ (n : ℕ). max n (bit_at (bits_of q block) i)) (bit_of p block i)
    ∙ ap (λ (n : ℕ). max (cond (get_or (map p block) i false) 1 0) n) (bit_of q block i)
    ∙ greater_bit _ _
    ∙ ap (λ (t : Bool). cond t 1 0) (either_at p q block i)
    ∙ sym (bit_of (λ b. p b || q b) block i))

-- no test passes in no pair
pub bits_of_none : (block : List ℕ) → 0 ≡ bits_of (in_ranges []) block
bits_of_none [] = refl
bits_of_none (b ∷ block) = ap (λ (n : ℕ). 2 * n) (bits_of_none block) ∙ sym (zero-add _)

-- the bits of one pair more
pub bits_of_more : (pairs : List (ℕ × ℕ)) (i : ℕ) (d : ℕ × ℕ) (block : List ℕ) → i < length pairs →
    bit_or (bits_of (in_ranges (take i pairs)) block) (bits_of (λ b. in_pair b (get_or pairs i d)) block) ≡ bits_of (in_ranges (take (i + 1) pairs)) block
bits_of_more pairs i d block within =
    bits_or (in_ranges (take i pairs)) (λ b. in_pair b (get_or pairs i d)) block
    ∙ ap mask_l (bits_agree _ _ block (λ b. sym (list_any_more (in_pair b) pairs i d within)))

-- a bit that is set tells that the test passes
set_when : (t : Bool) (bit : ℕ) → bit ≡ cond t 1 0 → bit ≡ 1 → t ≡ true
set_when true bit is set = refl
set_when false bit is set = absurd (omega arith)

-- and one that is not set, that it does not
clear_when : (t : Bool) (bit : ℕ) → bit ≡ cond t 1 0 → bit ≡ 0 → t ≡ false
clear_when true bit is clear = absurd (omega arith)
clear_when false bit is clear = refl

set_bit : (p : ℕ → Bool) (block : List ℕ) (i : ℕ) → bit_at (bits_of p block) i ≡ 1 → get_or (map p block) i false ≡ true
set_bit p block i = set_when _ _ (bit_of p block i)

clear_bit : (p : ℕ → Bool) (block : List ℕ) (i : ℕ) → bit_at (bits_of p block) i ≡ 0 → get_or (map p block) i false ≡ false
clear_bit p block i = clear_when _ _ (bit_of p block i)

-- the lowest bits that are set are the prefix that passes
pub trailing_ones-bits_of : (p : ℕ → Bool) (block : List ℕ) → length block ≡ 32 → trailing_ones w64 (bits_of p block) ≡ prefix_len p block
trailing_ones-bits_of p block long =
    let ms = map p block in
    let many : length ms ≡ 32 = length-map block p ∙ long in
    let small : bits_of p block < 2 ^ 32 = omega (arith, mask_l-lt ms, ap (λ (n : ℕ). 2 ^ n) many) in
    let r : ℕ = trailing_ones w64 (bits_of p block) in
    let found = bit_at-trailing_ones w64 (bits_of p block) (omega arith) in
    let within : r ≤ length block = elim (cases_lt (length block) r) [
      | inl past ↦ absurd (both_ways _ (get_or_past ms (length block) false (omega arith)) (set_bit p block (length block) (found.2 (length block) past)))
      | inr inside ↦ inside
    ] in
    sym (prefix_len_is p block r 0 within
    (λ k before. sym (get_or-map p block k 0 false (omega arith)) ∙ set_bit p block k (found.2 k before))
    (λ short. sym (get_or-map p block r 0 false short) ∙ clear_bit p block r found.1))
