-- The values of properties that a run begins with.
use Rattle.std.specs.Prelude.{ℕ, List, [], ◌∷◌, replicate, slice_set}

-- values with these set in turn, each by the place of its property: the last of one property stays
abbrev pub with_sets : List (ℕ × ℕ) → List ℕ → List ℕ
with_sets [] values = values
with_sets (set ∷ sets) values = with_sets sets (slice_set values set.0 set.1)

-- 0 for each of so many properties, and then these sets
abbrev pub values_of : ℕ → List (ℕ × ℕ) → List ℕ
values_of count sets = with_sets sets (replicate count 0)
