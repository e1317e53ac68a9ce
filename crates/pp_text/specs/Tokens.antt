-- Tokens, and how they spell the statements of a line.
use Rattle.std.specs.Prelude.{◌≡◌, ℕ, List, [], ◌∷◌, ◌++◌, Bool, true, false, ◌&&◌, ◌||◌, not, nat_le, ◌==◌, IsTrue}
use Rattle.std.specs.List.{list_all}
use Rattle.std.specs.Char.{is_ascii_alphanumeric}

-- A token: a word, a text between double quotes, or a set between brackets. Of the last two it is what stands between
-- them, as it is written.
pub data Token : Type 0 where
  Word : (bytes : List ℕ) → Token
  Quoted : (inside : List ℕ) → Token
  Bracketed : (inside : List ℕ) → Token

-- a space or a tab
abbrev pub is_blank : ℕ → Bool
is_blank b = b == 32 || b == 9

-- a letter, a digit, `_`, `-`, `=` or `>`
abbrev pub is_word_byte : ℕ → Bool
is_word_byte b = is_ascii_alphanumeric b || b == 95 || b == 45 || b == 61 || b == 62

abbrev pub is_word : List ℕ → Bool
is_word [] = false
is_word (b ∷ bytes) = is_word_byte b && list_all is_word_byte bytes

-- a byte from 0x20 to 0x7e
abbrev pub is_printed : ℕ → Bool
is_printed b = nat_le 32 b && nat_le b 126

-- What may stand between quotes or brackets, the last of which is `close`: printed bytes, where a backslash takes the
-- next byte with it, and `close` stands only behind a backslash. `escaped` says that a backslash stands in front.
abbrev pub is_inside : ℕ → Bool → List ℕ → Bool
is_inside close escaped [] = not escaped
is_inside close true (b ∷ bytes) = is_printed b && is_inside close false bytes
is_inside close false (b ∷ bytes) = is_printed b && not (b == close) && is_inside close (b == 92) bytes

abbrev pub is_token : Token → Bool
is_token (Word bytes) = is_word bytes
is_token (Quoted inside) = is_inside 34 false inside
is_token (Bracketed inside) = is_inside 93 false inside

-- a token as it is written
abbrev pub token_text : Token → List ℕ
token_text (Word bytes) = bytes
token_text (Quoted inside) = 34 ∷ inside ++ 34 ∷ []
token_text (Bracketed inside) = 91 ∷ inside ++ 93 ∷ []

-- nothing, or a blank in front
abbrev pub is_apart : List ℕ → Bool
is_apart [] = true
is_apart (b ∷ bytes) = is_blank b

-- behind blanks, or none, the text begins with this token, and then goes on with the rest
pub record BeginsWith (text : List ℕ) (token : Token) (rest : List ℕ) : Type 0 where
  pub gap : List ℕ
  pub blank : IsTrue (list_all is_blank gap)
  pub is : IsTrue (is_token token)
  pub spelled : text ≡ gap ++ token_text token ++ rest
  pub apart : IsTrue (is_apart rest)

-- the text is these tokens, with blanks between them; blanks may stand before and behind
abbrev pub IsSpaced : List ℕ → List Token → Type 0
IsSpaced text [] = IsTrue (list_all is_blank text)
IsSpaced text (token ∷ tokens) = (rest : List ℕ) × BeginsWith text token rest × IsSpaced rest tokens

-- nothing, or a comment
abbrev pub is_comment : List ℕ → Bool
is_comment [] = true
is_comment (b ∷ bytes) = b == 35

-- what stands behind a statement in its row: another one behind a `;`, or the end of the row, before which a comment
-- may stand
pub data Behind : Type 0 where
  GoesOn : (rest : List ℕ) → Behind
  Ends : Behind

abbrev pub IsBehind : List ℕ → Behind → Type 0
IsBehind after (GoesOn rest) = after ≡ 59 ∷ rest
IsBehind after Ends = IsTrue (is_comment after)

-- the row begins with a statement of these tokens
pub record BeginsRow (row : List ℕ) (tokens : List Token) (behind : Behind) : Type 0 where
  pub text : List ℕ
  pub after : List ℕ
  pub split : row ≡ text ++ after
  pub spaced : IsSpaced text tokens
  pub end : IsBehind after behind

-- The row, a line without its end, is this statement and those behind it, each told by its tokens. One without tokens
-- is a statement too.
abbrev pub IsRow : List ℕ → List Token → List (List Token) → Type 0
IsRow row statement [] = BeginsRow row statement Ends
IsRow row statement (next ∷ others) = (rest : List ℕ) × BeginsRow row statement (GoesOn rest) × IsRow rest next others
