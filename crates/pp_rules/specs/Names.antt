-- The form of names and reasons.
use Rattle.std.specs.Prelude.{ℕ, List, [], ◌∷◌, Bool, false, ◌&&◌, ◌||◌, not, length, nat_le, ◌==◌, IsTrue}
use Rattle.std.specs.List.{list_all}
use Rattle.std.specs.Char.{is_ascii_alphabetic, is_ascii_alphanumeric}

-- a letter or an underscore
abbrev pub begins_name : ℕ → Bool
begins_name b = is_ascii_alphabetic b || b == 95

-- a letter, a digit or an underscore
abbrev pub continues_name : ℕ → Bool
continues_name b = is_ascii_alphanumeric b || b == 95

-- 1 to 32 bytes: a letter or an underscore, then letters, digits or underscores
abbrev pub is_name : List ℕ → Bool
is_name [] = false
is_name (b ∷ bytes) = begins_name b && list_all continues_name bytes && nat_le (length bytes) 31

abbrev pub IsName : List ℕ → Type 0
IsName bytes = IsTrue (is_name bytes)

-- a byte from 0x20 to 0x7e other than the double quote and the backslash
abbrev pub is_plain_byte : ℕ → Bool
is_plain_byte b = nat_le 32 b && nat_le b 126 && not (b == 34) && not (b == 92)

-- 1 to 80 such bytes
abbrev pub is_reason : List ℕ → Bool
is_reason bytes = nat_le 1 (length bytes) && nat_le (length bytes) 80 && list_all is_plain_byte bytes

abbrev pub IsReason : List ℕ → Type 0
IsReason bytes = IsTrue (is_reason bytes)
