-- How one byte is written: no writing goes on to be another one, so what was read is the only reading.
use Rattle.std.proofs.Common.{◌≡◌, ◌≢◌, ℕ, ◌+◌, ◌*◌, ◌-◌, ◌≤◌, false, inl, inr, ◌⊎◌, ◌&&◌, List, [], ◌∷◌, ◌++◌, length, get_or, take, drop, refl, sym, ap, ◌∙◌, subst, arith, IsTrue}
use Rattle.std.specs.Char.{digit_value}
use Rattle.std.proofs.lemmas.Bool.{both_ways}
use Rattle.std.proofs.lemmas.List.{take_rest}
use Rattle.pp_text.specs.declared.key.Place.{Place}
use Rattle.pp_text.specs.declared.key.Place.TheVariants as place
use Rattle.pp_text.specs.Keys.{Written, Raw, Escape, Hex, written_text, byte_of, escaped_byte, is_hex}
use Rattle.pp_text.specs.steps.Places.{BeginsByte, is_byte_in}

-- equal texts that are not empty have equal first bytes and equal rests
pub same_first : (a b : ℕ) (xs ys : List ℕ) → a ∷ xs ≡ b ∷ ys → a ≡ b
same_first a b xs ys e = ap (λ (z : List ℕ). get_or z 0 0) e

pub same_behind : (a b : ℕ) (xs ys : List ℕ) → a ∷ xs ≡ b ∷ ys → xs ≡ ys
same_behind a b xs ys e = ap (λ (z : List ℕ). drop 1 z) e

three_and_rest : (text : List ℕ) → 3 ≤ length text → text ≡ get_or text 0 0 ∷ get_or text 1 0 ∷ get_or text 2 0 ∷ drop 3 text
three_and_rest [] long = absurd (omega arith)
three_and_rest (a ∷ []) long = absurd (omega arith)
three_and_rest (a ∷ b ∷ []) long = absurd (omega arith)
three_and_rest (a ∷ b ∷ c ∷ text) long = refl

-- `x` is no single escape
pub no_escape_x : (where_it_stands : Place) → IsTrue (is_byte_in where_it_stands (Escape 120)) → ⊥
no_escape_x place.Key is = both_ways false refl is
no_escape_x place.Set is = both_ways false refl is

-- no backslash stands for itself
pub no_raw_backslash : (where_it_stands : Place) → IsTrue (is_byte_in where_it_stands (Raw 92)) → ⊥
no_raw_backslash place.Key is = both_ways false refl is
no_raw_backslash place.Set is = both_ways false refl is

-- hexadecimal digits are digits wherever they stand
hex_is : (where_it_stands : Place) (high low : ℕ) → IsTrue (is_byte_in where_it_stands (Hex high low)) → IsTrue (is_hex high && is_hex low)
hex_is place.Key high low is = is
hex_is place.Set high low is = is

is_hex_in : (where_it_stands : Place) (high low : ℕ) → IsTrue (is_hex high && is_hex low) → IsTrue (is_byte_in where_it_stands (Hex high low))
is_hex_in place.Key high low is = is
is_hex_in place.Set high low is = is

-- two hexadecimal digits behind `\x`, and the rest
pub has_hex : (where_it_stands : Place) (text : List ℕ) (byte : ℕ) → 3 ≤ length text → get_or text 0 0 ≡ 120 →
    IsTrue (is_hex (get_or text 1 0) && is_hex (get_or text 2 0)) → byte ≡ digit_value (get_or text 1 0) * 16 + digit_value (get_or text 2 0) →
    BeginsByte where_it_stands (92 ∷ text) byte (take (length text - 3) (drop 3 text))
has_hex where_it_stands text byte long x digits is = record {
  written = Hex (get_or text 1 0) (get_or text 2 0);
  is = is_hex_in where_it_stands _ _ digits;
  spelled =
      ap (λ (z : List ℕ). 92 ∷ z) (three_and_rest text long)
      ∙ ap (λ (b : ℕ). 92 ∷ b ∷ get_or text 1 0 ∷ get_or text 2 0 ∷ drop 3 text) x
      ∙ ap (λ (z : List ℕ). 92 ∷ 120 ∷ get_or text 1 0 ∷ get_or text 2 0 ∷ z) (sym (take_rest text 3));
  means = is;
}

-- the only way to read two digits behind a backslash
pub record IsHexBehind (text : List ℕ) (byte : ℕ) (rest : List ℕ) : Type 0 where
  pub long : 3 ≤ length text
  pub x : get_or text 0 0 ≡ 120
  pub digits : IsTrue (is_hex (get_or text 1 0) && is_hex (get_or text 2 0))
  pub means : digit_value (get_or text 1 0) * 16 + digit_value (get_or text 2 0) ≡ byte
  pub rest_is : drop 3 text ≡ rest

-- the only way to read one character behind a backslash
pub record IsEscapeBehind (where_it_stands : Place) (text : List ℕ) (byte : ℕ) (rest : List ℕ) : Type 0 where
  pub some : 1 ≤ length text
  pub no_x : get_or text 0 0 ≢ 120
  pub escape : IsTrue (is_byte_in where_it_stands (Escape (get_or text 0 0)))
  pub means : escaped_byte (get_or text 0 0) ≡ byte
  pub rest_is : drop 1 text ≡ rest

escape_as : (where_it_stands : Place) (text : List ℕ) (byte : ℕ) (rest : List ℕ) (character : ℕ) →
    IsTrue (is_byte_in where_it_stands (Escape character)) → byte ≡ escaped_byte character → text ≡ character ∷ rest → IsEscapeBehind where_it_stands text byte rest
escape_as where_it_stands text byte rest character is means spelled =
    let first : get_or text 0 0 ≡ character = ap (λ (z : List ℕ). get_or z 0 0) spelled in
    record {
      some = omega (arith, ap length spelled);
      no_x = λ x. no_escape_x where_it_stands (subst (λ (c : ℕ). IsTrue (is_byte_in where_it_stands (Escape c))) (sym first ∙ x) is);
      escape = subst (λ (c : ℕ). IsTrue (is_byte_in where_it_stands (Escape c))) (sym first) is;
      means = ap escaped_byte first ∙ sym means;
      rest_is = ap (λ (z : List ℕ). drop 1 z) spelled;
    }

hex_as : (text : List ℕ) (byte : ℕ) (rest : List ℕ) (high low : ℕ) →
    IsTrue (is_hex high && is_hex low) → byte ≡ digit_value high * 16 + digit_value low → text ≡ 120 ∷ high ∷ low ∷ rest → IsHexBehind text byte rest
hex_as text byte rest high low is means spelled = subst (λ (z : List ℕ). IsHexBehind z byte rest) (sym spelled) record {
  long = omega arith;
  x = refl;
  digits = is;
  means = sym means;
  rest_is = refl;
}

behind_as : (where_it_stands : Place) (text : List ℕ) (byte : ℕ) (rest : List ℕ) (written : Written) → IsTrue (is_byte_in where_it_stands written) →
    byte ≡ byte_of written → 92 ∷ text ≡ written_text written ++ rest → IsHexBehind text byte rest ⊎ IsEscapeBehind where_it_stands text byte rest
behind_as where_it_stands text byte rest (Raw b) is means spelled =
    absurd (no_raw_backslash where_it_stands (subst (λ (c : ℕ). IsTrue (is_byte_in where_it_stands (Raw c))) (sym (same_first 92 b text rest spelled)) is))
behind_as where_it_stands text byte rest (Escape character) is means spelled =
    inr (escape_as where_it_stands text byte rest character is means (same_behind 92 92 text (character ∷ rest) spelled))
behind_as where_it_stands text byte rest (Hex high low) is means spelled =
    inl (hex_as text byte rest high low (hex_is where_it_stands high low is) means (same_behind 92 92 text (120 ∷ high ∷ low ∷ rest) spelled))

-- what stands behind a backslash has one reading
pub behind_backslash : (where_it_stands : Place) (text : List ℕ) (byte : ℕ) (rest : List ℕ) → BeginsByte where_it_stands (92 ∷ text) byte rest →
    IsHexBehind text byte rest ⊎ IsEscapeBehind where_it_stands text byte rest
behind_backslash where_it_stands text byte rest begins = behind_as where_it_stands text byte rest begins.written begins.is begins.means begins.spelled
