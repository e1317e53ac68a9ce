-- What a write does to the bytes that a sink has written. A sink may tell its bytes (Some) or not (None).
use Rattle.std.specs.Prelude.{◌≡◌, ◌≤◌, ℕ, List, ◌++◌, length, take, Option, None, Some}

-- the bytes that a sink tells after this part was added
abbrev pub with_added : Option (List ℕ) → List ℕ → Option (List ℕ)
with_added None part = None
with_added (Some bytes) part = Some (bytes ++ part)

-- the part was added after what was written; a sink that tells nothing goes on telling nothing
abbrev pub Adds : Option (List ℕ) → Option (List ℕ) → List ℕ → Type 0
Adds old new part = new ≡ with_added old part

-- some front of the part was added
abbrev pub AddsSome : Option (List ℕ) → Option (List ℕ) → List ℕ → Type 0
AddsSome old new part = (n : ℕ) × (n ≤ length part) × Adds old new (take n part)
