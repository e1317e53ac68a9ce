-- A bit of the table, read and set.
use Rattle.std.proofs.Common.{◌≡◌, ◌≢◌, ℕ, ◌+◌, ◌*◌, ◌/◌, ◌%◌, ◌^◌, ◌<◌, ◌≤◌, ◌⊎◌, Bool, true, false, List, length, get_or, replicate, take, drop, ◌++◌, bit_and, bit_or, ap, sym, ◌∙◌, arith, nat_eq, eq-eqb, w64, w32, inl, inr}
use Rattle.std.proofs.Math.ListN.{set}
use Rattle.std.proofs.lemmas.Bool.{cases_eq, cases_lt}
use Rattle.std.proofs.lemmas.Grind.{common_steps}
use Rattle.std.proofs.lemmas.List.{get_or-set_same, get_or-set_other, get_or-replicate, get_or_past, length-replicate}
use Rattle.std.proofs.lemmas.Nat.Bits.{bit_at_set_same, bit_at_set_other, shr_and_one, bit_at-zero}
use Rattle.std.specs.Int.{bit_at}
use Rattle.pp_flow.specs.steps.Bits.{has_pair, Has, has_low}

pub bit_tested : (words : List ℕ) (node b : ℕ) →
    nat_eq (bit_and (get_or words (node * 4 + b / 64) 0 / 2 ^ (b % 64)) 1) 1 ≡ has_pair words node b
unfolding has_pair
bit_tested words node b = ap (λ (bit : ℕ). nat_eq bit 1) (shr_and_one (get_or words (node * 4 + b / 64) 0) (b % 64))

-- the table after a pair's bit was set
abbrev pub with_bit : List ℕ → ℕ → ℕ → List ℕ
with_bit words node b = set words (node * 4 + b / 64) (bit_or (get_or words (node * 4 + b / 64) 0) (1 * 2 ^ (b % 64) % 2 ^ 64))

pub bit_here : (words : List ℕ) (node b : ℕ) → b < 256 → node * 4 + 4 ≤ length words → Has (with_bit words node b) node b
unfolding has_pair
bit_here words node b h n =
    eq-eqb _ _ (ap (λ (word : ℕ). bit_at word (b % 64)) (get_or-set_same words (node * 4 + b / 64) _ 0 (omega arith)) ∙ bit_at_set_same w64 (get_or words (node * 4 + b / 64) 0) (b % 64) (omega arith))

pub bit_elsewhere : (words : List ℕ) (node b : ℕ) → b < 256 → node * 4 + 4 ≤ length words → (x c : ℕ) → c < 256 → (x ≢ node) ⊎ (c ≢ b) →
    has_pair (with_bit words node b) x c ≡ has_pair words x c
unfolding has_pair
bit_elsewhere words node b h n x c hc other =
    elim (cases_eq (x * 4 + c / 64) (node * 4 + b / 64)) [
      | inl same ↦ ap (λ (bit : ℕ). nat_eq bit 1) (
          ap (λ (word : ℕ). bit_at word (c % 64)) (ap (λ (i : ℕ). get_or (with_bit words node b) i 0) same ∙ get_or-set_same words (node * 4 + b / 64) _ 0 (omega arith))
          ∙ bit_at_set_other w64 (get_or words (node * 4 + b / 64) 0) (b % 64) (omega arith) (c % 64) (λ e. elim other [ inl p ↦ p (omega arith) | inr p ↦ p (omega arith) ])
          ∙ ap (λ (i : ℕ). bit_at (get_or words i 0) (c % 64)) (sym same))
      | inr apart ↦ ap (λ (word : ℕ). nat_eq (bit_at word (c % 64)) 1) (get_or-set_other words (node * 4 + b / 64) (x * 4 + c / 64) _ 0 apart)
    ]

-- a table of zeros has no pair
pub zeros_at : (n k : ℕ) → get_or {A = ℕ} (replicate n 0) k 0 ≡ 0
zeros_at n k = elim (cases_lt k n) [
  | inl h ↦ get_or-replicate n k 0 0 h
  | inr h ↦ get_or_past (replicate n 0) k 0 (omega (arith, length-replicate {A = ℕ} n 0))
]

pub none_set : (n x b : ℕ) → has_pair (replicate n 0) x b ≡ false
unfolding has_pair
none_set n x b =
    ap (λ (word : ℕ). nat_eq (bit_at word (b % 64)) 1) (zeros_at n (x * 4 + b / 64)) ∙ ap (λ (bit : ℕ). nat_eq bit 1) (bit_at-zero (b % 64))

pub flags_at : (n k : ℕ) → get_or {A = Bool} (replicate n false) k false ≡ false
flags_at n k = elim (cases_lt k n) [
  | inl h ↦ get_or-replicate n k false false h
  | inr h ↦ get_or_past (replicate n false) k false (omega (arith, length-replicate {A = Bool} n false))
]

-- what is written back to a Vec of as many items
pub written_back : {A : Type 0} (n : ℕ) (new old : List A) → n ≡ length old → length new ≡ length old → take n (new ++ drop (length new) old) ≡ new
written_back n new old e f = grind (arith, common_steps)

-- the first 64 bits of a point
pub low_is : (words : List ℕ) (node b : ℕ) → b < 64 → has_low (get_or words (node * 4) 0) b ≡ has_pair words node b
unfolding has_pair has_low
low_is words node b h =
    let place : node * 4 ≡ node * 4 + b / 64 = omega arith in
    let bit : b ≡ b % 64 = omega arith in
    ap (λ (word : ℕ). nat_eq (bit_at word b) 1) (ap (λ (i : ℕ). get_or words i 0) place) ∙ ap (λ (i : ℕ). nat_eq (bit_at (get_or words (node * 4 + b / 64) 0) i) 1) bit

pub low_tested : (word b : ℕ) → nat_eq (bit_and (word / 2 ^ b) 1) 1 ≡ has_low word b
unfolding has_low
low_tested word b = ap (λ (bit : ℕ). nat_eq bit 1) (shr_and_one word b)

-- a word after one of its bits was set
pub low_set : (word k : ℕ) → k < 32 → has_low (bit_or word (1 * 2 ^ k % 2 ^ 32)) k ≡ true
unfolding has_low
low_set word k h = eq-eqb _ _ (bit_at_set_same w32 word k h)

pub low_other : (word k i : ℕ) → k < 32 → i ≢ k → has_low (bit_or word (1 * 2 ^ k % 2 ^ 32)) i ≡ has_low word i
unfolding has_low
low_other word k i h o = ap (λ (bit : ℕ). nat_eq bit 1) (bit_at_set_other w32 word k h i o)

pub low_zero : (i : ℕ) → has_low 0 i ≡ false
unfolding has_low
low_zero i = ap (λ (bit : ℕ). nat_eq bit 1) (bit_at-zero i)

-- the spans told so far
pub record Told (words : List ℕ) (node s bits : ℕ) : Type 0 where
  pub told : (t : ℕ) → t < s → has_low bits t ≡ has_pair words node (t * 2 + 1)
  pub rest : (t : ℕ) → s ≤ t → has_low bits t ≡ false

pub told_first : (words : List ℕ) (node : ℕ) → Told words node 0 0
told_first words node = record { told = λ t h. absurd (omega arith); rest = λ t h. low_zero t }

pub told_set : (words : List ℕ) (node s bits : ℕ) → s < 32 → has_pair words node (s * 2 + 1) ≡ true → Told words node s bits → Told words node (s + 1) (bit_or bits (1 * 2 ^ s % 2 ^ 32))
told_set words node s bits h e p = record {
  told = λ t lt. elim (cases_eq t s) [
    | inl same ↦ ap (λ (x : ℕ). has_low (bit_or bits (1 * 2 ^ s % 2 ^ 32)) x) same ∙ (low_set bits s h ∙ sym (ap (λ (x : ℕ). has_pair words node (x * 2 + 1)) same ∙ e))
    | inr o ↦ low_other bits s t h o ∙ p.told t (omega arith)
  ];
  rest = λ t le. low_other bits s t h (λ e. omega arith) ∙ p.rest t (omega arith);
}

pub told_left : (words : List ℕ) (node s bits : ℕ) → has_pair words node (s * 2 + 1) ≡ false → Told words node s bits → Told words node (s + 1) bits
told_left words node s bits e p = record {
  told = λ t lt. elim (cases_eq t s) [
    | inl same ↦ p.rest t (omega arith) ∙ sym (ap (λ (x : ℕ). has_pair words node (x * 2 + 1)) same ∙ e)
    | inr o ↦ p.told t (omega arith)
  ];
  rest = λ t le. p.rest t (omega arith);
}
