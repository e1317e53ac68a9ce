-- A table of 256 bits as the set of the bytes whose bits it has.
use Rattle.std.proofs.Common.{◌≡◌, ◌≢◌, ℕ, ◌*◌, ◌/◌, ◌%◌, ◌^◌, ◌<◌, Bool, true, false, ◌&&◌, ◌||◌, List, [], ◌∷◌, length, get_or, replicate, bit_and, refl, sym, ap, zero-add, ◌∙◌, arith, nat_eq, eq-eqb, bit_or, w64, inl, inr}
use Rattle.std.proofs.Math.Bool.{and-true}
use Rattle.std.proofs.Math.ListN.{set}
use Rattle.std.proofs.lemmas.Bool.{eqb-true, ne_eqb, cases_eq, cases_lt}
use Rattle.std.proofs.lemmas.List.{get_or-set_same, get_or-set_other, get_or-replicate, length-replicate, get_or_past}
use Rattle.std.proofs.lemmas.List.Folds.{list_any_at}
use Rattle.std.proofs.lemmas.List.FromFn.{length-range_with_len, get_or-range_with_len}
use Rattle.std.proofs.lemmas.Map.Views.{any-filter_same}
use Rattle.std.proofs.lemmas.Nat.Bits.{bit_at_set_same, bit_at_set_other, bit_at-zero, shr_and_one}
use Rattle.std.proofs.lemmas.Cmp.{nat_cmp_total}
use Rattle.std.specs.Int.{bit_at}
use Rattle.std.specs.List.{list_any, range_with_len, filter}
use Rattle.std.specs.Ordering.{nat_cmp, eq_by_cmp}
use Rattle.std.specs.Cmp.{unsigned_tied}
use Rattle.std.specs.FinSet.{empty, insert, contains, same_set, contains-from_list_nat, contains-insert, contains-empty, nat_cmp-IsAntisymmetric}
use Rattle.pp_bytes.specs.Bytes.{all_bytes, has_bit, set_of_table}

-- there are 256 bytes
pub length-all_bytes : length all_bytes ≡ 256
unfolding all_bytes
length-all_bytes = length-range_with_len 0 256

-- each of them stands at its own place
pub get_or-all_bytes : (b : ℕ) → b < 256 → get_or all_bytes b 0 ≡ b
unfolding all_bytes
get_or-all_bytes b byte = get_or-range_with_len 0 256 b 0 byte ∙ zero-add b

-- a number below n is one of the first n numbers
any_in_range : (q n : ℕ) → q < n → list_any (λ y. nat_eq y q) (range_with_len 0 n) ≡ true
any_in_range q n h =
    list_any_at (λ y. nat_eq y q) (range_with_len 0 n) q 0 (omega (arith, length-range_with_len 0 n)) (eq-eqb _ _ (get_or-range_with_len 0 n q 0 h ∙ zero-add q))

-- every byte is one of them all
any_byte : (q : ℕ) → q < 256 → list_any (λ y. nat_eq y q) all_bytes ≡ true
unfolding all_bytes
any_byte q h = any_in_range q 256 h

-- a number is in the set where the table has its bit and it is a byte
contains_table : (words : List ℕ) (q : ℕ) → contains (set_of_table words) q ≡ (has_bit words q && list_any (λ y. nat_eq y q) all_bytes)
contains_table words q =
    contains-from_list_nat (filter (has_bit words) all_bytes) q
    ∙ any-filter_same (λ y. nat_eq y q) (has_bit words) (has_bit words q) (λ k e. ap (has_bit words) (eqb-true k q e)) all_bytes

-- equal numbers compare as equal, and others do not
tied : (q b : ℕ) → q ≡ b → eq_by_cmp nat_cmp q b ≡ true
tied q b e = unsigned_tied q b ∙ eq-eqb q b e

untied : (q b : ℕ) → q ≢ b → eq_by_cmp nat_cmp q b ≡ false
untied q b other = unsigned_tied q b ∙ ne_eqb q b other

-- a byte is in the set where the table has its bit
pub contains-set_of_table : (words : List ℕ) (b : ℕ) → b < 256 → contains (set_of_table words) b ≡ has_bit words b
contains-set_of_table words b h =
    contains_table words b ∙ ap (λ (t : Bool). has_bit words b && t) (any_byte b h) ∙ and-true _

-- a shift and a mask test a byte's bit
pub bit_tested : (words : List ℕ) (b : ℕ) → b < 256 → nat_eq (bit_and (get_or words (b / 64) 0 / 2 ^ (b % 64)) 1) 1 ≡ contains (set_of_table words) b
bit_tested words b h =
    ap (λ (bit : ℕ). nat_eq bit 1) (shr_and_one (get_or words (b / 64) 0) (b % 64)) ∙ sym (contains-set_of_table words b h)

-- the table after a byte's bit was set
abbrev with_bit : List ℕ → ℕ → List ℕ
with_bit words b = set words (b / 64) (bit_or (get_or words (b / 64) 0) (1 * 2 ^ (b % 64) % 2 ^ 64))

-- the word that was written
written : (words : List ℕ) (b q : ℕ) → b / 64 < length words → q / 64 ≡ b / 64 →
    get_or (with_bit words b) (q / 64) 0 ≡ bit_or (get_or words (b / 64) 0) (1 * 2 ^ (b % 64) % 2 ^ 64)
written words b q within same = ap (λ (i : ℕ). get_or (with_bit words b) i 0) same ∙ get_or-set_same words (b / 64) _ 0 within

-- the byte's bit is set
bit_here : (words : List ℕ) (b : ℕ) → b / 64 < length words → has_bit (with_bit words b) b ≡ true
bit_here words b within =
    eq-eqb _ _ (ap (λ (word : ℕ). bit_at word (b % 64)) (written words b b within refl) ∙ bit_at_set_same w64 (get_or words (b / 64) 0) (b % 64) (omega arith))

-- every other bit is as it was
bit_elsewhere : (words : List ℕ) (b q : ℕ) → b / 64 < length words → q ≢ b → has_bit (with_bit words b) q ≡ has_bit words q
bit_elsewhere words b q within other =
    elim (cases_eq (q / 64) (b / 64)) [
      | inl same ↦ ap (λ (bit : ℕ). nat_eq bit 1) (
          ap (λ (word : ℕ). bit_at word (q % 64)) (written words b q within same)
          ∙ bit_at_set_other w64 (get_or words (b / 64) 0) (b % 64) (omega arith) (q % 64) (λ e. other (omega arith))
          ∙ ap (λ (i : ℕ). bit_at (get_or words i 0) (q % 64)) (sym same))
      | inr apart ↦ ap (λ (word : ℕ). nat_eq (bit_at word (q % 64)) 1) (get_or-set_other words (b / 64) (q / 64) _ 0 apart)
    ]

-- membership after a byte's bit was set
contains_with_bit : (words : List ℕ) (b : ℕ) → b < 256 → b / 64 < length words → (q : ℕ) →
    contains (set_of_table (with_bit words b)) q ≡ contains (insert (set_of_table words) b) q
contains_with_bit words b byte within q =
    contains_table (with_bit words b) q
    ∙ elim (cases_eq q b) [
      | inl same ↦
          let here : has_bit (with_bit words b) q ≡ true = ap (has_bit (with_bit words b)) same ∙ bit_here words b within in
          let known : list_any (λ y. nat_eq y q) all_bytes ≡ true = any_byte q (omega arith) in
          rw (here, known) (sym (contains-insert nat_cmp_total (set_of_table words) b q ∙ ap (λ (t : Bool). t || contains (set_of_table words) q) (tied q b same)))
      | inr other ↦
          ap (λ (t : Bool). t && list_any (λ y. nat_eq y q) all_bytes) (bit_elsewhere words b q within other)
          ∙ sym (contains_table words q)
          ∙ sym (contains-insert nat_cmp_total (set_of_table words) b q ∙ ap (λ (t : Bool). t || contains (set_of_table words) q) (untied q b other))
    ]

-- setting a byte's bit adds the byte
pub set_of_table-with_bit : (words : List ℕ) (b : ℕ) → b < 256 → b / 64 < length words →
    set_of_table (set words (b / 64) (bit_or (get_or words (b / 64) 0) (1 * 2 ^ (b % 64) % 2 ^ 64))) ≡ insert (set_of_table words) b
set_of_table-with_bit words b byte within =
    same_set nat_cmp_total nat_cmp-IsAntisymmetric _ _ (contains_with_bit words b byte within)

-- a table of zeros is the empty set
no_bit : (n q : ℕ) → has_bit (replicate n 0) q ≡ false
no_bit n q = elim (cases_lt (q / 64) n) [
  | inl in' ↦ ap (λ (word : ℕ). nat_eq (bit_at word (q % 64)) 1) (get_or-replicate n (q / 64) 0 0 in') ∙ ap (λ (bit : ℕ). nat_eq bit 1) (bit_at-zero (q % 64))
  | inr past ↦ ap (λ (word : ℕ). nat_eq (bit_at word (q % 64)) 1) (get_or_past (replicate n 0) (q / 64) 0 (omega (arith, length-replicate {A = ℕ} n 0))) ∙ ap (λ (bit : ℕ). nat_eq bit 1) (bit_at-zero (q % 64))
]

pub set_of_table-zeros : set_of_table (0 ∷ 0 ∷ 0 ∷ 0 ∷ []) ≡ empty
set_of_table-zeros =
    same_set nat_cmp_total nat_cmp-IsAntisymmetric _ _ (λ q.
    contains_table (0 ∷ 0 ∷ 0 ∷ 0 ∷ []) q
    ∙ ap (λ (t : Bool). t && list_any (λ y. nat_eq y q) all_bytes) (no_bit 4 q)
    ∙ sym (contains-empty nat_cmp q))
