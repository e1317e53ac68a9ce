-- The fields of a file: what the next ones are, and which is the first that is wrong. Numbers have their high byte first.
use Rattle.std.specs.Prelude.{ℕ, zero, suc, ◌-◌, Bool, ◌&&◌, nat_le, nat_lt, Option, Some, None, List, [], ◌∷◌, length, take, drop, Result, Ok, Err, if◌then◌else◌}
use Rattle.std.specs.Int.{Width, w8, w16, w32, w64, byte_len, from_be_bytes}

-- the length of the file, and those of its bytes that no field before has taken
pub record Left : Type 0 where
  pub limit : ℕ
  pub bytes : List ℕ

-- the place in the file of the first of these bytes
abbrev pub place : Left → ℕ
place left = left.limit - length left.bytes

-- what is left behind so many bytes
abbrev pub behind : ℕ → Left → Left
behind count left = record { limit = left.limit; bytes = drop count left.bytes }

-- What the next fields are: a value, and what is left behind them; or the place of the first of them that is wrong.
abbrev pub Next : Type 0 → Type 0
Next X = Result (X × Left) ℕ

-- the fields behind others, which depend on these
infixl 10 ◌>>=◌
abbrev pub ◌>>=◌ : {A B : Type 0} → Result A ℕ → (A → Result B ℕ) → Result B ℕ
(Ok x) >>= f = f x
(Err place) >>= f = Err place

-- A field of so many bytes. One that runs past the end of the file is wrong there.
abbrev pub bytes_at : ℕ → Left → Next (List ℕ)
bytes_at count left = if nat_lt (length left.bytes) count then Err left.limit else Ok (take count left.bytes, behind count left)

-- a number of a width
abbrev pub field_at : Width → Left → Next ℕ
field_at w left =
    if nat_lt (length left.bytes) (byte_len w) then Err left.limit
    else Ok (from_be_bytes w (take (byte_len w) left.bytes), behind (byte_len w) left)

-- a number that has to be right, and else is wrong at its first byte
abbrev pub number_at : Width → (ℕ → Bool) → Left → Next ℕ
number_at w is_right left = do
  n ← field_at w left
  if is_right n.0 then Ok n else Err (place left)

-- the numbers from one to another, both included
abbrev pub within : ℕ → ℕ → ℕ → Bool
within least most n = nat_le least n && nat_le n most

-- a text: a byte of length, and that many bytes
unfoldable pub text_at : Left → Next (List ℕ)
text_at left = do
  count ← field_at w8 left
  bytes_at count.0 count.1

-- So many items, one behind another. What an item may be depends on the one before it, if there is one.
unfoldable pub items_at : {X : Type 0} → (Option X → Left → Next X) → ℕ → Option X → Left → Next (List X)
items_at item_at zero before left = Ok ([], left)
items_at item_at (suc count) before left = do
  first ← item_at before left
  others ← items_at item_at count (Some first.0) first.1
  Ok (first.0 ∷ others.0, others.1)

-- items that may stand in any order
abbrev pub any_at : {X : Type 0} → (Left → Next X) → ℕ → Left → Next (List X)
any_at item_at count left = items_at (λ before. item_at) count None left
