-- What a read does to the bytes that a source has left. A source may tell its bytes (Some) or not (None).
use Rattle.std.specs.Prelude.{◌≡◌, ◌≤◌, ℕ, List, [], length, take, drop, min, Option, None, Some}

-- told: there were n bytes, they stand in the front of the buffer, and the rest is left
pub record Gives (bytes : List ℕ) (left : Option (List ℕ)) (n : ℕ) (buffer : List ℕ) : Type 0 where
  pub enough : n ≤ length bytes
  pub same : take n buffer ≡ take n bytes
  pub rest : left ≡ Some (drop n bytes)

-- n bytes of what was left were moved into the front of the buffer; a source that tells nothing goes on telling nothing
abbrev pub Moves : Option (List ℕ) → Option (List ℕ) → ℕ → List ℕ → Type 0
Moves None left n buffer = left ≡ None
Moves (Some bytes) left n buffer = Gives bytes left n buffer

-- some front of what was left was moved into the front of the buffer
abbrev pub MovesSome : Option (List ℕ) → Option (List ℕ) → List ℕ → Type 0
MovesSome old new buffer = (n : ℕ) × (n ≤ length buffer) × Moves old new n buffer

-- n is all that the buffer holds, or all that was left where that is less
abbrev pub IsMost : Option (List ℕ) → ℕ → ℕ → Type 0
IsMost None room n = Unit {0}
IsMost (Some bytes) room n = n ≡ min room (length bytes)

-- no told byte is left
abbrev pub IsAtEnd : Option (List ℕ) → Type 0
IsAtEnd None = Unit {0}
IsAtEnd (Some bytes) = bytes ≡ []
