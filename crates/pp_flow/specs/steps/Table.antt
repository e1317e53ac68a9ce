-- How the moves of a point are found.
use Rattle.std.specs.Prelude.{◌≡◌, ℕ, suc, ◌^◌, ◌<◌, ◌≤◌, List, Some, length, slice_get, slice_index}
use Rattle.pp_flow.specs.declared.moves.Move.{Move}
use Rattle.pp_flow.specs.declared.moves.Act.{Act}
use Rattle.pp_flow.specs.Spans.{HaveSpans}

-- The moves stand in order of their points: those of point n from place starts[n] on, up to starts[n + 1].
pub record IsTable (moves : List Move) (starts : List ℕ) (count : ℕ) : Type 0 where
  pub long : length starts ≡ suc count
  pub within : (x : ℕ) → x < count → slice_index starts (suc x) ≤ length moves
  pub ordered : (x : ℕ) → x < count → slice_index starts x ≤ slice_index starts (suc x)
  pub own : (x k : ℕ) (m : Move) → x < count → slice_index starts x ≤ k → k < slice_index starts (suc x) → slice_get moves k ≡ Some m → m.from ≡ x
  pub all : (k : ℕ) (m : Move) → slice_get moves k ≡ Some m → (slice_index starts m.from ≤ k) × (k < slice_index starts (suc m.from))
  pub points : (k : ℕ) (m : Move) → slice_get moves k ≡ Some m → (m.from < count) × (m.to < count)

-- The same so far: the moves of the first points stand there, and those behind the last start are of the next point.
pub record IsPart (moves : List Move) (starts : List ℕ) (count : ℕ) : Type 0 where
  pub some : 0 < length starts
  pub room : length starts ≤ suc count
  pub upto : (x : ℕ) → x < length starts → slice_index starts x ≤ length moves
  pub rising : (x : ℕ) → suc x < length starts → slice_index starts x ≤ slice_index starts (suc x)
  pub own : (x k : ℕ) (m : Move) → suc x < length starts → slice_index starts x ≤ k → k < slice_index starts (suc x) → slice_get moves k ≡ Some m → m.from ≡ x
  pub all : (k : ℕ) (m : Move) → slice_get moves k ≡ Some m → (slice_index starts m.from ≤ k) × (suc m.from ≤ length starts) × (suc m.from < length starts → k < slice_index starts (suc m.from))
  pub points : (k : ℕ) (m : Move) → slice_get moves k ≡ Some m → (m.from < count) × (m.to < count)

-- the form that a builder keeps: the moves of the first points stand in order, and the entry and the spans are in their ranges
pub record IsBuilt (acts : List Act) (entry : ℕ) (moves : List Move) (starts : List ℕ) : Type 0 where
  pub part : IsPart moves starts (length acts)
  pub few : length acts < 2 ^ 32
  pub entry_in : entry < length acts
  pub spans : HaveSpans acts
