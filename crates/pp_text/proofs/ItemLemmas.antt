-- The items of a set: one byte, or a range of two with a `-` between them.
use Rattle.std.proofs.Common.{◌≡◌, ℕ, ◌≤◌, false, ◌&&◌, ◌==◌, nat_le, eq-eqb, inl, inr, ◌⊎◌, List, ◌∷◌, ◌++◌, refl, sym, ap, ◌∙◌, subst, arith, IsTrue, append_assoc}
use Rattle.std.proofs.lemmas.Bool.{both_ways, ne_eqb, false_from_ne_true, and_from, and_parts, le-leb, leb-true, cases_eq}
use Rattle.pp_text.specs.declared.key.Place.TheVariants as place
use Rattle.pp_text.specs.Keys.{written_text, byte_of, Item, One, Range, item_text, is_item, item_has}
use Rattle.pp_text.specs.steps.Places.{BeginsByte, BeginsItem, is_between, is_no_range}

-- one byte is a range from itself to itself
pub is_between_same : (first b : ℕ) → (b == first) ≡ is_between first first b
is_between_same first b = elim (cases_eq b first) [
  | inl same ↦ eq-eqb b first same ∙ sym (and_from _ _ (le-leb first b (omega (arith, same))) (le-leb b first (omega (arith, same))))
  | inr other ↦ ne_eqb b first other ∙ sym (false_from_ne_true _ (λ within. let parts = and_parts (nat_le first b) (nat_le b first) within in other (omega (arith, leb-true first b parts.0, leb-true b first parts.1))))
]

-- one byte is an item
pub one_item : (text : List ℕ) (first : ℕ) (behind : List ℕ) → BeginsByte place.Set text first behind → BeginsItem text first first behind
one_item text first behind begins = record {
  item = One begins.written;
  is = begins.is;
  spelled = begins.spelled;
  has = λ b. ap (λ (byte : ℕ). b == byte) (sym begins.means) ∙ is_between_same first b;
}

-- two bytes with a `-` between them are an item, where the second is not below the first
pub range_item : (text : List ℕ) (first last : ℕ) (behind range rest : List ℕ) → BeginsByte place.Set text first behind → behind ≡ 45 ∷ range →
    BeginsByte place.Set range last rest → first ≤ last → BeginsItem text first last rest
range_item text first last behind range rest front dash back ordered = record {
  item = Range front.written back.written;
  is = and_from _ _ (and_from _ _ front.is back.is) (le-leb _ _ (omega (arith, front.means, back.means)));
  spelled =
      front.spelled
      ∙ ap (λ (z : List ℕ). written_text front.written ++ z) (dash ∙ ap (λ (z : List ℕ). 45 ∷ z) back.spelled)
      ∙ sym (append_assoc (written_text front.written) (45 ∷ written_text back.written) rest);
  has = λ b. ap (λ (low : ℕ). nat_le low b && nat_le b (byte_of back.written)) (sym front.means)
      ∙ ap (λ (high : ℕ). nat_le first b && nat_le b high) (sym back.means);
}

-- an item of one byte
pub record ReadsOne (text : List ℕ) (first last : ℕ) (rest : List ℕ) : Type 0 where
  pub byte : ℕ
  pub front : BeginsByte place.Set text byte rest
  pub same : (b : ℕ) → is_between byte byte b ≡ is_between first last b

-- an item of two bytes
pub record ReadsRange (text : List ℕ) (first last : ℕ) (rest : List ℕ) : Type 0 where
  pub low : ℕ
  pub high : ℕ
  pub range : List ℕ
  pub front : BeginsByte place.Set text low (45 ∷ range)
  pub back : BeginsByte place.Set range high rest
  pub ordered : low ≤ high
  pub same : (b : ℕ) → is_between low high b ≡ is_between first last b

item_as : (text : List ℕ) (first last : ℕ) (rest : List ℕ) (item : Item) → IsTrue (is_item item) → text ≡ item_text item ++ rest →
    ((b : ℕ) → item_has b item ≡ is_between first last b) → ReadsOne text first last rest ⊎ ReadsRange text first last rest
item_as text first last rest (One byte) is spelled has = inl record {
  byte = byte_of byte;
  front = record { written = byte; is = is; spelled = spelled; means = refl };
  same = λ b. sym (is_between_same (byte_of byte) b) ∙ has b;
}
item_as text first last rest (Range low high) is spelled has =
    let parts = and_parts _ _ is in
    let bytes = and_parts _ _ parts.0 in
    inr record {
      low = byte_of low;
      high = byte_of high;
      range = written_text high ++ rest;
      front = record { written = low; is = bytes.0; spelled = spelled ∙ append_assoc (written_text low) (45 ∷ written_text high) rest; means = refl };
      back = record { written = high; is = bytes.1; spelled = refl; means = refl };
      ordered = leb-true _ _ parts.1;
      same = has;
    }

-- an item is read as one byte or as two
pub item_reading : (text : List ℕ) (first last : ℕ) (rest : List ℕ) → BeginsItem text first last rest → ReadsOne text first last rest ⊎ ReadsRange text first last rest
item_reading text first last rest begins = item_as text first last rest begins.item begins.is begins.spelled begins.has

-- a text with a `-` in front begins a range
pub no_dash : (text range : List ℕ) → IsTrue (is_no_range text) → text ≡ 45 ∷ range → ⊥
no_dash text range none dash = both_ways false refl (subst (λ (z : List ℕ). IsTrue (is_no_range z)) dash none)
