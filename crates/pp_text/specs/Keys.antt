-- How keys and sets are written.
use Rattle.std.specs.Prelude.{◌≡◌, ◌≢◌, ℕ, ◌+◌, ◌*◌, List, [], ◌∷◌, ◌++◌, Bool, ◌&&◌, ◌||◌, not, nat_le, nat_lt, ◌==◌, IsTrue, map, filter, flat_map, if◌then◌else◌}
use Rattle.std.specs.List.{list_all, list_any, range_with_len}
use Rattle.std.specs.Char.{digit_value}
use Rattle.pp_rules.specs.Names.{is_plain_byte}
use Rattle.pp_text.specs.Tokens.{Token, Word, Quoted, Bracketed, is_printed}

-- One byte as it is written: raw, by a character behind a backslash, or by two hexadecimal digits behind `\x`.
pub data Written : Type 0 where
  Raw : (byte : ℕ) → Written
  Escape : (character : ℕ) → Written
  Hex : (high low : ℕ) → Written

abbrev pub written_text : Written → List ℕ
written_text (Raw byte) = byte ∷ []
written_text (Escape character) = 92 ∷ character ∷ []
written_text (Hex high low) = 92 ∷ 120 ∷ high ∷ low ∷ []

-- `\r`, `\n` and `\t` are CR, LF and the tab; any other character stands for itself
abbrev pub escaped_byte : ℕ → ℕ
escaped_byte c = if c == 114 then 13 else if c == 110 then 10 else if c == 116 then 9 else c

-- the byte that is written
abbrev pub byte_of : Written → ℕ
byte_of (Raw byte) = byte
byte_of (Escape character) = escaped_byte character
byte_of (Hex high low) = digit_value high * 16 + digit_value low

-- a digit of either case
abbrev pub is_hex : ℕ → Bool
is_hex c = nat_lt (digit_value c) 16

-- `r`, `n`, `t` and the backslash, in keys and sets alike
abbrev pub is_escape : ℕ → Bool
is_escape c = c == 114 || c == 110 || c == 116 || c == 92

-- in a key: raw bytes from 0x20 to 0x7e other than the double quote and the backslash, and `\"` too
abbrev pub is_key_byte : Written → Bool
is_key_byte (Raw byte) = is_plain_byte byte
is_key_byte (Escape character) = is_escape character || character == 34
is_key_byte (Hex high low) = is_hex high && is_hex low

-- what stands between the quotes spells this key
pub record SpellsKey (inside key : List ℕ) : Type 0 where
  pub written : List Written
  pub each : IsTrue (list_all is_key_byte written)
  pub spelled : inside ≡ flat_map written_text written
  pub bytes : key ≡ map byte_of written

-- in a set: raw bytes from 0x20 to 0x7e other than the backslash, `]` and `-`, and `\]` and `\-` too
abbrev pub is_set_byte : Written → Bool
is_set_byte (Raw byte) = is_printed byte && not (byte == 92) && not (byte == 93) && not (byte == 45)
is_set_byte (Escape character) = is_escape character || character == 93 || character == 45
is_set_byte (Hex high low) = is_hex high && is_hex low

-- an item of a set: one byte, or the bytes from the first to the last, which is not below the first
pub data Item : Type 0 where
  One : (byte : Written) → Item
  Range : (first last : Written) → Item

abbrev pub item_text : Item → List ℕ
item_text (One byte) = written_text byte
item_text (Range first last) = written_text first ++ 45 ∷ written_text last

abbrev pub is_item : Item → Bool
is_item (One byte) = is_set_byte byte
is_item (Range first last) = is_set_byte first && is_set_byte last && nat_le (byte_of first) (byte_of last)

abbrev pub item_has : ℕ → Item → Bool
item_has b (One byte) = b == byte_of byte
item_has b (Range first last) = nat_le (byte_of first) b && nat_le b (byte_of last)

-- the bytes of a set, ascending, each once
abbrev pub set_bytes : List Item → List ℕ
set_bytes items = filter (λ b. list_any (item_has b) items) (range_with_len 0 256)

-- what stands between the brackets spells a set of these bytes
pub record SpellsSet (inside bytes : List ℕ) : Type 0 where
  pub items : List Item
  pub some : items ≢ []
  pub each : IsTrue (list_all is_item items)
  pub spelled : inside ≡ flat_map item_text items
  pub are : bytes ≡ set_bytes items

-- a key, or the one-byte keys of a set
abbrev pub GivesKeys : Token → List (List ℕ) → Type 0
GivesKeys (Word bytes) keys = ⊥
GivesKeys (Quoted inside) keys = (key : List ℕ) × SpellsKey inside key × (keys ≡ key ∷ [])
GivesKeys (Bracketed inside) keys = (bytes : List ℕ) × SpellsSet inside bytes × (keys ≡ map (λ b. b ∷ []) bytes)

-- the tokens give these keys, in order
abbrev pub GiveKeys : List Token → List (List ℕ) → Type 0
GiveKeys [] keys = keys ≡ []
GiveKeys (token ∷ tokens) keys = (first others : List (List ℕ)) × GivesKeys token first × GiveKeys tokens others × (keys ≡ first ++ others)
