-- A search for a cycle of free moves through one point.
use Rattle.std.specs.Prelude.{◌≡◌, ◌≢◌, ℕ, suc, ◌<◌, ◌≤◌, ◌⊎◌, List, Some, length, slice_get, slice_index}
use Rattle.pp_flow.specs.declared.moves.Move.{Move}
use Rattle.pp_flow.specs.steps.Bits.{Has}
use Rattle.pp_flow.specs.Loops.{IsCycle}
use Rattle.pp_flow.specs.Flow.{IsFree, FreeWay}
use Rattle.pp_flow.specs.steps.Search.{IsFreeAt}

-- A search that has come this far. Of each point that was met the moves before next lead to points that
-- were met, and not to the root; all of its moves are seen unless it is on the path.
pub record Rounding (moves : List Move) (starts : List ℕ) (count b root : ℕ) (color next path : List ℕ) : Type 0 where
  pub long_color : length color ≡ count
  pub long_next : count ≤ length next
  pub from : (x : ℕ) → x < count → slice_index starts x ≤ slice_index next x
  pub upto : (x : ℕ) → x < count → slice_index next x ≤ slice_index starts (suc x)
  pub seen : (x k : ℕ) (m : Move) → x < count → slice_index starts x ≤ k → k < slice_index next x → slice_get moves k ≡ Some m → IsFreeAt m b → (0 < slice_index color m.to) × (m.to ≢ root)
  pub done : (x : ℕ) → x < count → 0 < slice_index color x → ((i : ℕ) × (i < length path) × (slice_index path i ≡ x)) ⊎ (slice_index next x ≡ slice_index starts (suc x))
  pub path_in : (i : ℕ) → i < length path → slice_index path i < count
  pub links : (i : ℕ) → suc i < length path → IsFree moves b (slice_index path i) (slice_index path (suc i))
  pub first : 0 < length path → slice_index path 0 ≡ root
  pub met : 0 < slice_index color root

-- no way of free moves leads from the point back to it
abbrev pub IsOnNoCycle : List Move → ℕ → ℕ → Type 0
IsOnNoCycle moves b node = (n : ℕ) → FreeWay moves b node (suc n) node → ⊥

-- a point that has a pair is on a cycle
pub record HasRound (moves : List Move) (count : ℕ) (words : List ℕ) (b : ℕ) : Type 0 where
  pub node : ℕ
  pub inside : node < count
  pub has : Has words node b
  pub size : ℕ
  pub way : FreeWay moves b node (suc size) node

-- a cycle through the least point that has a pair and is on one
pub record IsLeastRound (moves : List Move) (words : List ℕ) (b : ℕ) (cycle : List ℕ) : Type 0 where
  pub round : IsCycle moves b cycle
  pub has : Has words (slice_index cycle 0) b
  pub least : (x : ℕ) → x < slice_index cycle 0 → Has words x b → IsOnNoCycle moves b x
