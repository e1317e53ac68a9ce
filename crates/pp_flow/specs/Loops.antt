-- What is told of the loops of a flow.
use Rattle.std.specs.Prelude.{ℕ, suc, ◌-◌, ◌<◌, ◌≤◌, List, Option, Some, None, length, slice_index}
use Rattle.pp_flow.specs.declared.moves.Move.{Move}
use Rattle.pp_flow.specs.declared.loops.Judged.{Judged}
use Rattle.pp_flow.specs.declared.loops.Judged.TheVariants.{Loop, Gap}
use Rattle.pp_flow.specs.Flow.{IsFree, IsReachable, IsOnCycle, IsLoopFree, IsGap, IsRanking}

-- free moves lead from each point to the next, and from the last to the first
pub record IsCycle (moves : List Move) (b : ℕ) (cycle : List ℕ) : Type 0 where
  pub some : 0 < length cycle
  pub links : (i : ℕ) → suc i < length cycle → IsFree moves b (slice_index cycle i) (slice_index cycle (suc i))
  pub closes : IsFree moves b (slice_index cycle (length cycle - 1)) (slice_index cycle 0)

-- the least byte at which a reachable pair is on a cycle, and a cycle there that begins at the least such point
pub record IsLeastLoop (moves : List Move) (entry byte : ℕ) (cycle : List ℕ) : Type 0 where
  pub in_bytes : byte < 256
  pub round : IsCycle moves byte cycle
  pub reachable : IsReachable moves entry byte (slice_index cycle 0)
  pub least_byte : (a x : ℕ) → a < byte → IsOnCycle moves entry a x → ⊥
  pub least_point : (x : ℕ) → x < slice_index cycle 0 → IsOnCycle moves entry byte x → ⊥

-- at each byte there is a ranking, and no reachable point's rank is above the gap
abbrev pub HasRanks : List Move → ℕ → ℕ → Type 0
HasRanks moves entry gap = (b : ℕ) → b < 256 →
    (rank : ℕ → ℕ) × IsRanking moves entry b rank × ((node : ℕ) → IsReachable moves entry b node → rank node ≤ gap)

-- no reachable pair is on a cycle; the gap, which is below the count of points; and ranks to measure by
pub record IsWithoutLoop (moves : List Move) (entry count gap : ℕ) : Type 0 where
  pub free : IsLoopFree moves entry
  pub exact : IsGap moves entry gap
  pub below : gap < count
  pub ranks : HasRanks moves entry gap

-- the least loop, or the exact gap where there is none
abbrev pub IsJudged : List Move → ℕ → ℕ → Judged → Type 0
IsJudged moves entry count (Loop byte cycle) = IsLeastLoop moves entry byte cycle.items
IsJudged moves entry count (Gap gap) = IsWithoutLoop moves entry count gap

-- the point is on a cycle at some byte, and no lesser point is at any
pub record IsLeastLooping (moves : List Move) (entry least : ℕ) : Type 0 where
  pub met : (b : ℕ) × IsOnCycle moves entry b least
  pub least_point : (b x : ℕ) → x < least → IsOnCycle moves entry b x → ⊥

-- that point, or none where there is no loop
abbrev pub IsLeastOnCycles : List Move → ℕ → Option ℕ → Type 0
IsLeastOnCycles moves entry None = IsLoopFree moves entry
IsLeastOnCycles moves entry (Some least) = IsLeastLooping moves entry least
