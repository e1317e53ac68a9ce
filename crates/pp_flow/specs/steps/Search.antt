-- A search in depth along the free moves at one byte, which ranks points.
use Rattle.std.specs.Prelude.{◌≡◌, ◌≢◌, ℕ, zero, suc, ◌+◌, ◌-◌, ◌<◌, ◌≤◌, List, [], Some, length, slice_get, slice_index, IsTrue}
use Rattle.pp_flow.specs.declared.moves.Move.{Move}
use Rattle.pp_flow.specs.Flow.{IsFree, FreeWay}

-- a free move at b
pub record IsFreeAt (m : Move) (b : ℕ) : Type 0 where
  pub free : IsTrue m.free
  pub low : m.lo ≤ b
  pub high : b ≤ m.hi

-- Steps that are left: for each point its moves from next on, one where it is on the path or ranked, one where it is ranked.
-- A color is 0 at first, 1 on the path and 2 once the point is ranked.
abbrev pub steps_left : (starts color next : List ℕ) → ℕ → ℕ
steps_left starts color next zero = 0
steps_left starts color next (suc n) =
    (slice_index starts (suc n) - slice_index next n) + (2 - slice_index color n) + steps_left starts color next n

-- how many of the first points are not ranked
abbrev pub unranked : (color : List ℕ) → ℕ → ℕ
unranked color zero = 0
unranked color (suc n) = (1 - (slice_index color n - 1)) + unranked color n

-- A search that has come this far. The path leads from its root to where it stands. Of each point the
-- moves before next are seen: they lead to ranked points, and its rank so far is the least above theirs.
pub record Searching (moves : List Move) (starts : List ℕ) (count b : ℕ) (color next rank path : List ℕ) : Type 0 where
  pub long_color : length color ≡ count
  pub long_next : count ≤ length next
  pub long_rank : length rank ≡ count
  pub from : (x : ℕ) → x < count → slice_index starts x ≤ slice_index next x
  pub upto : (x : ℕ) → x < count → slice_index next x ≤ slice_index starts (suc x)
  pub seen : (x k : ℕ) (m : Move) → x < count → slice_index starts x ≤ k → k < slice_index next x → slice_get moves k ≡ Some m → IsFreeAt m b → (slice_index color m.to ≡ 2) × (slice_index rank m.to < slice_index rank x)
  pub tight : (x : ℕ) → x < count → 0 < slice_index rank x → (t : ℕ) × IsFree moves b x t × (slice_index color t ≡ 2) × (slice_index rank x ≡ suc (slice_index rank t))
  pub ranked : (x : ℕ) → x < count → slice_index color x ≡ 2 → slice_index next x ≡ slice_index starts (suc x)
  pub colors : (x : ℕ) → slice_index color x ≤ 2
  pub path_in : (i : ℕ) → i < length path → slice_index path i < count
  pub path_color : (i : ℕ) → i < length path → slice_index color (slice_index path i) ≡ 1
  pub on_path : (x : ℕ) → slice_index color x ≡ 1 → (i : ℕ) × (i < length path) × (slice_index path i ≡ x)
  pub links : (i : ℕ) → suc i < length path → IsFree moves b (slice_index path i) (slice_index path (suc i))
  pub apart : (i j : ℕ) → i < j → j < length path → slice_index path i ≢ slice_index path j
  pub below : (x : ℕ) → slice_index color x ≡ 2 → suc (slice_index rank x) + unranked color count ≤ count

-- nothing is on the path
abbrev pub IsSearched : List Move → List ℕ → ℕ → ℕ → List ℕ → List ℕ → List ℕ → Type 0
IsSearched moves starts count b color next rank = Searching moves starts count b color next rank []

-- a point on a cycle, and the way to it
pub record ComesRound (moves : List Move) (b root node : ℕ) : Type 0 where
  pub before : ℕ
  pub to : FreeWay moves b root before node
  pub size : ℕ
  pub round : FreeWay moves b node (suc size) node
