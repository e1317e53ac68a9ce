-- Texts that write a number, and texts that do not.
use Rattle.std.proofs.Common.{◌≡◌, ℕ, zero, suc, ◌+◌, ◌*◌, ◌<◌, ◌^◌, List, [], ◌∷◌, inl, inr, length, get_or, take, ap, sym, ◌∙◌, subst, arith, Option, Some, None, IfSome, IfNone}
use Rattle.std.proofs.lemmas.Bool.{cases_lt}
use Rattle.std.proofs.lemmas.Fmt.{decimal_digit, decimal_nonempty, first_decimal, decimal_is_IsNumeral, decimal-digits_value, decimal_injective}
use Rattle.std.proofs.lemmas.Int.Digits.{digits_value_more}
use Rattle.std.proofs.lemmas.Str.Parse.{numerals_by_value, tells_digits, digits_value-take-le}
use Rattle.std.specs.Option.{SomeIff}
use Rattle.std.specs.Char.{digit_value}
use Rattle.std.specs.Fmt.{decimal}
use Rattle.std.specs.Str.Parse.{AllDigits, digits_value}
use Rattle.pp_bytes.specs.Number.{IsNumber, IsNoNumber}

-- bytes write at most one number
pub number_unique : (bytes : List ℕ) (m n : ℕ) → IsNumber bytes m → IsNumber bytes n → m ≡ n
number_unique bytes m n first second = decimal_injective m n first.0 second.0 (sym first.1 ∙ second.1)

-- the printed form of a number is read as that number
pub read_back : (bytes : List ℕ) (n : ℕ) (r : Option ℕ) → n < 2 ^ 64 → bytes ≡ decimal n → IfSome r (IsNumber bytes) → IfNone r (IsNoNumber bytes) → r ≡ Some n
read_back bytes n None small printed some none = absurd (none n small printed)
read_back bytes n (Some m) small printed some none = ap Some (number_unique bytes m n some (small, printed))

-- no bytes write no number
pub no_number_empty : IsNoNumber []
no_number_empty n small e = absurd (omega (arith, decimal_nonempty n small, ap length e))

-- a zero in front of another byte begins no number
pub no_number_zero : (bytes : List ℕ) → get_or bytes 0 0 ≡ 48 → 1 < length bytes → IsNoNumber bytes
no_number_zero bytes zero_first long n small e = elim (cases_lt 0 n) [
  | inl positive ↦ absurd (omega (arith, first_decimal n positive small, ap (λ (text : List ℕ). get_or text 0 0) e))
  | inr none ↦ absurd (omega (arith, ap length e, ap length (decimal_digit n (omega arith))))
]

-- what is printed of a number is its digits
pub no_number_else : (bytes : List ℕ) → ¬ (AllDigits 10 bytes × (digits_value 10 bytes < 2 ^ 64)) → IsNoNumber bytes
no_number_else bytes other n small e =
    let numeral = decimal_is_IsNumeral n small in
    let digits : AllDigits 10 bytes = subst (AllDigits 10) (sym e) numeral.0.1 in
    let value : digits_value 10 bytes ≡ n = ap (digits_value 10) e ∙ numeral.1 in
    other (digits, omega arith)

-- digits without a zero in front, or just a zero, are printed of their value
pub number_from_digits : (bytes : List ℕ) (n : ℕ) → AllDigits 10 bytes → 0 < length bytes → (get_or bytes 0 0 ≡ 48 → length bytes ≡ 1) →
    digits_value 10 bytes < 2 ^ 64 → n ≡ digits_value 10 bytes → IsNumber bytes n
number_from_digits bytes n digits some lead small value =
    (omega arith, sym (ap decimal value ∙ decimal-digits_value (numerals_by_value (AllDigits 10) tells_digits) bytes digits some lead small))

-- what was read of the digits is what was read of the bytes, where they are some and no zero leads them
pub read_from_digits : (bytes : List ℕ) (r : Option ℕ) → 0 < length bytes → ¬ ((get_or bytes 0 0 ≡ 48) × (1 < length bytes)) →
    SomeIff r (AllDigits 10 bytes × (digits_value 10 bytes < 2 ^ 64)) (digits_value 10 bytes) → IfSome r (IsNumber bytes) × IfNone r (IsNoNumber bytes)
read_from_digits bytes None some lead none = (tt, no_number_else bytes none)
read_from_digits bytes (Some n) some lead ((digits, small), value) =
    (number_from_digits bytes n digits some (λ zero_first. elim (cases_lt 1 (length bytes)) [ inl long ↦ absurd (lead (zero_first, long)) | inr short ↦ omega arith ]) small value, tt)

-- each of the digits is one
digit_at : (bytes : List ℕ) (i : ℕ) → AllDigits 10 bytes → i < length bytes → digit_value (get_or bytes i 0) < 10
digit_at [] i all within = absurd (omega arith)
digit_at (b ∷ bytes) zero all within = all.0
digit_at (b ∷ bytes) (suc i) all within = digit_at bytes i all.1 (omega arith)

-- where the next byte cannot follow the digits so far, all the bytes are no digits or their value is too great
pub digits_stop : (bytes : List ℕ) (i number : ℕ) → i < length bytes → number ≡ digits_value 10 (take i bytes) →
    ¬ ((digit_value (get_or bytes i 0) < 10) × (number * 10 + digit_value (get_or bytes i 0) < 2 ^ 64)) → ¬ (AllDigits 10 bytes × (digits_value 10 bytes < 2 ^ 64))
digits_stop bytes i number within so_far stop (all, small) =
    stop (digit_at bytes i all within, omega (arith, digits_value_more 10 bytes i within, digits_value-take-le 10 bytes (i + 1) (omega arith)))
