-- The steps of the reader of keys and sets.
use Rattle.std.specs.Prelude.{◌≡◌, ℕ, List, [], ◌∷◌, ◌++◌, Bool, true, not, ◌&&◌, nat_le, ◌==◌, IsTrue}
use Rattle.pp_text.specs.declared.key.Place.{Place}
use Rattle.pp_text.specs.declared.key.Place.TheVariants as place
use Rattle.pp_text.specs.Keys.{Written, written_text, byte_of, is_key_byte, is_set_byte, Item, item_text, is_item, item_has}

-- whether a byte may be written so
abbrev pub is_byte_in : Place → Written → Bool
is_byte_in place.Key written = is_key_byte written
is_byte_in place.Set written = is_set_byte written

-- the text begins with a byte as it is written, and then goes on with the rest
pub record BeginsByte (where_it_stands : Place) (text : List ℕ) (byte : ℕ) (rest : List ℕ) : Type 0 where
  pub written : Written
  pub is : IsTrue (is_byte_in where_it_stands written)
  pub spelled : text ≡ written_text written ++ rest
  pub means : byte ≡ byte_of written

-- a byte from the first to the last
abbrev pub is_between : ℕ → ℕ → ℕ → Bool
is_between first last b = nat_le first b && nat_le b last

-- the text begins with an item of the bytes from the first to the last, and then goes on with the rest
pub record BeginsItem (text : List ℕ) (first last : ℕ) (rest : List ℕ) : Type 0 where
  pub item : Item
  pub is : IsTrue (is_item item)
  pub spelled : text ≡ item_text item ++ rest
  pub has : (b : ℕ) → item_has b item ≡ is_between first last b

-- no `-` stands in front
abbrev pub is_no_range : List ℕ → Bool
is_no_range [] = true
is_no_range (b ∷ bytes) = not (b == 45)
