-- The byte sets of the graph, ascending.
use Rattle.std.specs.Prelude.{ℕ, zero, suc, ◌-◌, if◌then◌else◌, List, [], ◌∷◌, ◌++◌}
use Rattle.std.specs.List.{range_with_len}
use Rattle.pp_bytes.specs.Ranges.{in_ranges}

-- the bytes from the first to the last, both included
abbrev pub span : ℕ → ℕ → List ℕ
span lo hi = range_with_len lo (suc hi - lo)

-- the bytes that end a line: LF and CR
unfoldable pub ends : List ℕ
ends = 10 ∷ 13 ∷ []

-- tab and space
unfoldable pub blanks : List ℕ
blanks = 9 ∷ 32 ∷ []

-- the bytes that end an element of a list in a field: LF, CR and the comma
unfoldable pub marks : List ℕ
marks = 10 ∷ 13 ∷ 44 ∷ []

-- the bytes between the elements of such a list: tab, space and the comma
unfoldable pub list_bytes : List ℕ
list_bytes = 9 ∷ 32 ∷ 44 ∷ []

-- the bytes of a token (RFC 9110, section 5.6.2)
unfoldable pub token_bytes : List ℕ
token_bytes = 33 ∷ span 35 39 ++ 42 ∷ 43 ∷ 45 ∷ 46 ∷ span 48 57 ++ span 65 90 ++ span 94 122 ++ 124 ∷ 126 ∷ []

-- the bytes of a field value (RFC 9110, section 5.5)
unfoldable pub value_bytes : List ℕ
value_bytes = 9 ∷ span 32 126 ++ span 128 255

-- these without the comma
unfoldable pub value_bytes_no_comma : List ℕ
value_bytes_no_comma = 9 ∷ span 32 43 ++ span 45 126 ++ span 128 255

-- and without the double quote
unfoldable pub plain_value_bytes : List ℕ
plain_value_bytes = 9 ∷ span 32 33 ++ span 35 43 ++ span 45 126 ++ span 128 255

-- the bytes of a request target
unfoldable pub target_bytes : List ℕ
target_bytes = span 33 126

-- all bytes
unfoldable pub every_byte : List ℕ
every_byte = span 0 255

-- the bytes below n that are in the ranges, descending
abbrev pub down : ℕ → List (ℕ × ℕ) → List ℕ
down zero ranges = []
down (suc n) ranges = if in_ranges ranges n then n ∷ down n ranges else down n ranges
