-- The steps of the reader.
use Rattle.std.specs.Prelude.{◌≡◌, ℕ, ◌<◌, List, Bool, Option, Some, length}
use Rattle.std.specs.Prelude.{None as none}
use Rattle.std.specs.List.{list_any}
use Rattle.std.specs.FinSet as set
use Rattle.std.specs.Ordering.{nat_cmp}
use Rattle.pp_text.specs.Tokens.{is_blank}
use Rattle.pp_text.specs.Text.{Told}
use Rattle.std.specs.Prelude.{◌||◌, ◌==◌, [], ◌∷◌, true}

-- what may stand directly behind a token in a row: a blank, a `;`, a comment, or nothing
abbrev pub ends_token : List ℕ → Bool
ends_token [] = true
ends_token (b ∷ bytes) = is_blank b || b == 59 || b == 35

-- a set has the bytes of this list
abbrev pub HasBytes : set.FinSet nat_cmp → List ℕ → Type 0
HasBytes s bytes = (b : ℕ) → b < 256 → set.contains s b ≡ list_any (λ c. b == c) bytes

-- how many calls are told
abbrev pub count_told : Option Told → ℕ
count_told none = 0
count_told (Some told) = length told.calls
