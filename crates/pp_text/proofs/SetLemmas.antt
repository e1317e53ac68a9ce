-- Sets filled by ranges, and the bytes that items have.
use Rattle.std.proofs.Common.{◌≡◌, ℕ, ◌+◌, ◌<◌, ◌≤◌, Bool, true, false, ◌&&◌, ◌||◌, nat_le, nat_lt, ◌==◌, eq-eqb, inl, inr, refl, sym, ap, zero-add, ◌∙◌, arith, filter}
use Rattle.std.proofs.lemmas.Bool.{eqb-true, ne_eqb, and_from, and_parts, le-leb, leb-true, lt-ltb, ltb-true, or_right, cases_eq, false_from_ne_true}
use Rattle.std.proofs.lemmas.List.Folds.{list_any_at}
use Rattle.std.proofs.lemmas.List.FromFn.{length-range_with_len, get_or-range_with_len}
use Rattle.std.proofs.lemmas.Map.Views.{any-filter_same}
use Rattle.std.proofs.lemmas.Cmp.{nat_cmp_total}
use Rattle.std.specs.List.{list_any, range_with_len}
use Rattle.std.specs.Ordering.{nat_cmp}
use Rattle.std.specs.Cmp.{unsigned_tied, both_ways}
use Rattle.std.specs.FinSet.{FinSet, contains, insert, contains-insert}
use Rattle.pp_text.specs.steps.Places.{is_between}

-- the set has what it had at the start, and the bytes from the first on that are below this one
abbrev pub HasBelow : FinSet nat_cmp → FinSet nat_cmp → ℕ → ℕ → Type 0
HasBelow start now first byte = (b : ℕ) → contains now b ≡ (contains start b || (nat_le first b && nat_lt b byte))

or-nothing : (t u : Bool) → u ≡ false → (t || u) ≡ t
or-nothing true u none = refl
or-nothing false u none = none

-- at the start no byte is below the first
pub none_below : (start : FinSet nat_cmp) (first : ℕ) → HasBelow start start first first
none_below start first b =
    let none : (nat_le first b && nat_lt b first) ≡ false =
    false_from_ne_true _ (λ within. let parts = and_parts (nat_le first b) (nat_lt b first) within in omega (arith, leb-true first b parts.0, ltb-true b first parts.1)) in
    sym (or-nothing (contains start b) _ none)

-- the byte itself joins them
pub one_more_below : (start now : FinSet nat_cmp) (first byte : ℕ) → first ≤ byte → HasBelow start now first byte → HasBelow start (insert now byte) first (byte + 1)
one_more_below start now first byte ordered has b = contains-insert nat_cmp_total now byte b ∙ elim (cases_eq b byte) [
  | inl same ↦
      ap (λ (t : Bool). t || contains now b) (unsigned_tied b byte ∙ eq-eqb b byte same)
      ∙ sym (or_right (contains start b) _ (and_from _ _ (le-leb first b (omega (arith, same))) (lt-ltb b (byte + 1) (omega (arith, same)))))
  | inr other ↦
      ap (λ (t : Bool). t || contains now b) (unsigned_tied b byte ∙ ne_eqb b byte other)
      ∙ has b
      ∙ ap (λ (t : Bool). contains start b || t) (both_ways (nat_le first b && nat_lt b byte) (nat_le first b && nat_lt b (byte + 1))
      (λ h. let parts = and_parts (nat_le first b) (nat_lt b byte) h in and_from _ _ parts.0 (lt-ltb b (byte + 1) (omega (arith, ltb-true b byte parts.1))))
      (λ h. let parts = and_parts (nat_le first b) (nat_lt b (byte + 1)) h in and_from _ _ parts.0 (lt-ltb b byte (omega (arith, other, ltb-true b (byte + 1) parts.1)))))
]

-- the bytes below the one behind the last are those up to the last
pub all_below : (start now : FinSet nat_cmp) (first last byte : ℕ) → HasBelow start now first byte → ((b : ℕ) → first ≤ b → b < byte → b ≤ last) → ((b : ℕ) → first ≤ b → b ≤ last → b < byte) →
    (b : ℕ) → contains now b ≡ (contains start b || is_between first last b)
all_below start now first last byte has up down b =
    has b
    ∙ ap (λ (t : Bool). contains start b || t) (both_ways (nat_le first b && nat_lt b byte) (is_between first last b)
    (λ h. let parts = and_parts (nat_le first b) (nat_lt b byte) h in and_from _ _ parts.0 (le-leb b last (up b (leb-true first b parts.0) (ltb-true b byte parts.1))))
    (λ h. let parts = and_parts (nat_le first b) (nat_le b last) h in and_from _ _ parts.0 (lt-ltb b byte (down b (leb-true first b parts.0) (leb-true b last parts.1)))))

any_in_range : (b n : ℕ) → b < n → list_any (λ c. b == c) (range_with_len 0 n) ≡ true
any_in_range b n h =
    list_any_at (λ c. b == c) (range_with_len 0 n) b 0 (omega (arith, length-range_with_len 0 n)) (eq-eqb _ _ (sym (get_or-range_with_len 0 n b 0 h ∙ zero-add b)))

and-true : (a : Bool) → (a && true) ≡ a
and-true true = refl
and-true false = refl

-- a number below n is among those that a test leaves of the first n where it passes the test
pub any_of_kept : (p : ℕ → Bool) (n b : ℕ) → b < n → list_any (λ c. b == c) (filter p (range_with_len 0 n)) ≡ p b
any_of_kept p n b h =
    any-filter_same (λ c. b == c) p (p b) (λ k e. ap p (sym (eqb-true b k e))) (range_with_len 0 n)
    ∙ ap (λ (t : Bool). p b && t) (any_in_range b n h)
    ∙ and-true (p b)
