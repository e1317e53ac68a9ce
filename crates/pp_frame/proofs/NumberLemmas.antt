-- Numbers of digits.
use Rattle.std.proofs.Common.{◌≡◌, ℕ, zero, suc, ◌+◌, ◌*◌, ◌<◌, ◌≤◌, ◌^◌, Bool, true, false, ◌&&◌, ltb, List, [], ◌∷◌, length, get_or, take, Some, None, sym, ap, ◌∙◌, refl, arith}
use Rattle.std.specs.List.{list_all}
use Rattle.std.specs.Char.{digit_value}
use Rattle.std.specs.Str.Parse.{AllDigits, digits_value}
use Rattle.std.proofs.lemmas.Bool.{and_from, and_parts, lt-ltb, ltb-true, false_from_ne_true, cond-true, cond-false}
use Rattle.std.proofs.lemmas.Int.Digits.{digits_value_more}
use Rattle.std.proofs.lemmas.Str.Parse.{digits_value-take-le}
use Rattle.pp_frame.specs.Framing.{length_in}

-- a digit at a place of digits
pub digit_at : (radix : ℕ) (bytes : List ℕ) (i : ℕ) → AllDigits radix bytes → i < length bytes → digit_value (get_or bytes i 0) < radix
digit_at radix [] i all within = absurd (omega arith)
digit_at radix (b ∷ bytes) zero all within = all.0
digit_at radix (b ∷ bytes) (suc i) all within = digit_at radix bytes i all.1 (omega arith)

-- where the next byte cannot follow the digits so far, all the bytes are no digits or their value is too great
pub digits_stop : (radix : ℕ) (bytes : List ℕ) (i number : ℕ) → 1 ≤ radix → i < length bytes → number ≡ digits_value radix (take i bytes) →
    ¬ ((digit_value (get_or bytes i 0) < radix) × (number * radix + digit_value (get_or bytes i 0) < 2 ^ 64)) → ¬ (AllDigits radix bytes × (digits_value radix bytes < 2 ^ 64))
digits_stop radix bytes i number base within so_far stop (all, small) =
    let more : digits_value radix (take (i + 1) bytes) ≡ number * radix + digit_value (get_or bytes i 0) = digits_value_more radix bytes i within ∙ ap (λ (n : ℕ). n * radix + digit_value (get_or bytes i 0)) (sym so_far) in
    stop (digit_at radix bytes i all within, omega (arith, more, digits_value-take-le radix bytes (i + 1) base, small))

-- the test of digits
digits_from_test : (bytes : List ℕ) → list_all (λ b. ltb (digit_value b) 10) bytes ≡ true → AllDigits 10 bytes
digits_from_test [] pass = tt
digits_from_test (b ∷ bytes) pass =
    let both = and_parts (ltb (digit_value b) 10) (list_all (λ x. ltb (digit_value x) 10) bytes) pass in
    (ltb-true (digit_value b) 10 both.0, digits_from_test bytes both.1)

test_from_digits : (bytes : List ℕ) → AllDigits 10 bytes → list_all (λ b. ltb (digit_value b) 10) bytes ≡ true
test_from_digits [] all = refl
test_from_digits (b ∷ bytes) all = and_from (ltb (digit_value b) 10) (list_all (λ x. ltb (digit_value x) 10) bytes) (lt-ltb (digit_value b) 10 all.0) (test_from_digits bytes all.1)

-- the test of `length_in`
abbrev is_length : List ℕ → Bool
is_length value = ltb 0 (length value) && list_all (λ b. ltb (digit_value b) 10) value && ltb (digits_value 10 value) (2 ^ 64)

-- one or more digits below 2 ^ 64 are a length
pub length_from_digits : (value : List ℕ) (n : ℕ) → 0 < length value → AllDigits 10 value → n < 2 ^ 64 → n ≡ digits_value 10 value → Some n ≡ length_in value
unfolding length_in
length_from_digits value n some all small is =
    let pass : is_length value ≡ true = and_from (ltb 0 (length value) && list_all (λ b. ltb (digit_value b) 10) value) (ltb (digits_value 10 value) (2 ^ 64))
    (and_from (ltb 0 (length value)) (list_all (λ b. ltb (digit_value b) 10) value) (lt-ltb 0 (length value) some) (test_from_digits value all)) (lt-ltb (digits_value 10 value) (2 ^ 64) (omega arith)) in
    ap Some is ∙ sym (cond-true (is_length value) (Some (digits_value 10 value)) None pass)

-- other bytes are none
pub no_length : (value : List ℕ) → ¬ ((0 < length value) × AllDigits 10 value × (digits_value 10 value < 2 ^ 64)) → None ≡ length_in value
unfolding length_in
no_length value none =
    let fails : is_length value ≡ false = false_from_ne_true (is_length value) (λ pass.
    let outer = and_parts (ltb 0 (length value) && list_all (λ b. ltb (digit_value b) 10) value) (ltb (digits_value 10 value) (2 ^ 64)) pass in
    let inner = and_parts (ltb 0 (length value)) (list_all (λ b. ltb (digit_value b) 10) value) outer.0 in
    none (ltb-true 0 (length value) inner.0, digits_from_test value inner.1, ltb-true (digits_value 10 value) (2 ^ 64) outer.1)) in
    sym (cond-false (is_length value) (Some (digits_value 10 value)) None fails)
