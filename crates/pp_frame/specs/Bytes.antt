-- The bytes that HTTP/1 names, and sets of them. RFC 9110, sections 5.5 and 5.6; RFC 9112, sections 2 to 4.
use Rattle.std.specs.Prelude.{ℕ, ◌||◌, ◌&&◌, ◌==◌, nat_le, Bool, List, [], ◌∷◌, map, codes}
use Rattle.std.specs.List.{list_any}
use Rattle.std.specs.Char.{is_ascii_alphanumeric}
use Rattle.std.specs.Str.{bytes_eq}
use Rattle.pp_bytes.specs.Fold.{folded}
use Rattle.pp_bytes.specs.declared.fold.Fold.TheVariants.{Lower}

-- b'\r'
abbrev pub carriage_return : ℕ
carriage_return = 13

-- b'\n'
abbrev pub line_feed : ℕ
line_feed = 10

-- the two bytes that end a line
abbrev pub crlf : List ℕ
crlf = carriage_return ∷ line_feed ∷ []

-- b':'
abbrev pub colon : ℕ
colon = 58

-- b','
abbrev pub comma : ℕ
comma = 44

-- b';'
abbrev pub semicolon : ℕ
semicolon = 59

-- a space or a tab
abbrev pub is_blank : ℕ → Bool
is_blank b = b == 32 || b == 9

-- whether a byte lies from lo to hi, both included
abbrev pub in_run : ℕ → ℕ → ℕ → Bool
in_run lo hi b = nat_le lo b && nat_le b hi

-- a byte of a field's value, of a reason or of a chunk's extension: a tab, or a byte from the space on but for 7f
unfoldable pub is_text_byte : ℕ → Bool
is_text_byte b = b == 9 || in_run 0x20 0x7e b || in_run 0x80 0xff b

-- a byte of a request's target: a visible one of ASCII
unfoldable pub is_target_byte : ℕ → Bool
is_target_byte b = in_run 0x21 0x7e b

-- a byte of a token, as a field's name is one
unfoldable pub is_token_byte : ℕ → Bool
is_token_byte b = is_ascii_alphanumeric b || list_any (λ c. c == b) (codes "!#$%&'*+-.^_`|~")

-- whether the bytes, with A to Z read as a to z, are these
abbrev pub folds_to : List ℕ → List ℕ → Bool
folds_to lower bytes = bytes_eq (map (folded Lower) bytes) lower
