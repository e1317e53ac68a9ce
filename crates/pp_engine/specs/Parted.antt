-- The pieces of a span in a log, since its last one.
use Rattle.std.specs.Prelude.{◌≡◌, ℕ, ◌+◌, ◌<◌, List, [], ◌∷◌, ◌++◌, Option, Some, None, true, false, ◌==◌, length, slice_range, if◌then◌else◌}
use Rattle.pp_event.specs.Told.{Told, Called, Pieced}

-- the places and bytes of a span's pieces since its last last one
abbrev pub parts_after : ℕ → List (ℕ × List ℕ) → List Told → List (ℕ × List ℕ)
parts_after s held [] = held
parts_after s held (Called code value at values answer ∷ log) = parts_after s held log
parts_after s held (Pieced span at part true answer ∷ log) = parts_after s (if span == s then [] else held) log
parts_after s held (Pieced span at part false answer ∷ log) = parts_after s (if span == s then held ++ (at, part) ∷ [] else held) log

-- adjacent parts, none empty, that are the bytes of a string from one place to another
abbrev pub Tiles : List ℕ → ℕ → ℕ → List (ℕ × List ℕ) → Type 0
Tiles s from to [] = from ≡ to
Tiles s from to (x ∷ parts) = (x.0 ≡ from) × (0 < length x.1) × (x.1 ≡ slice_range s from (from + length x.1)) × Tiles s (from + length x.1) to parts

-- the parts of an open span are the bytes from its start to a place; a shut span has none
abbrev pub IsParted : List ℕ → Option ℕ → ℕ → List (ℕ × List ℕ) → Type 0
IsParted s None at parts = parts ≡ []
IsParted s (Some from) at parts = Tiles s from at parts
