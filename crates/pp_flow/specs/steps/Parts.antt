-- Numbers for points that never rise along a free move: those of a cycle are all the same.
use Rattle.std.specs.Prelude.{◌≡◌, ℕ, ◌<◌, ◌≤◌, Bool, true, false, List, Some, length, slice_get, slice_index, slice_index_or}
use Rattle.pp_flow.specs.declared.moves.Move.{Move}
use Rattle.pp_flow.specs.steps.Round.{IsOnNoCycle}
use Rattle.pp_flow.specs.steps.Search.{IsFreeAt}

-- none of the first moves is free and leads to a greater number, and where one leads to the same the point that it is from is marked
abbrev pub Marks : List Move → ℕ → List ℕ → ℕ → List Bool → Type 0
Marks moves b numbers n inside = (k : ℕ) (m : Move) → k < n → slice_get moves k ≡ Some m → IsFreeAt m b →
    (slice_index numbers m.to ≤ slice_index numbers m.from) ×
    (slice_index numbers m.to ≡ slice_index numbers m.from → slice_index_or inside m.from false ≡ true)

-- a point that is not marked is on no cycle
pub record HoldsAll (moves : List Move) (b count : ℕ) (inside : List Bool) : Type 0 where
  pub long : length inside ≡ count
  pub others : (x : ℕ) → x < count → slice_index_or inside x false ≡ false → IsOnNoCycle moves b x
