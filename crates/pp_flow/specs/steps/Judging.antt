-- Byte by byte: what is known of the bytes that were judged.
use Rattle.std.specs.Prelude.{ℕ, ◌<◌, ◌≤◌, List, Option, Some, None, min}
use Rattle.pp_flow.specs.declared.moves.Move.{Move}
use Rattle.pp_flow.specs.Flow.{IsReachable, FreeWay, IsOnCycle, IsRanking}

-- the bytes below b are free of cycles, and gap is the greatest number of free moves in a row at them
pub record Judging (moves : List Move) (entry b gap : ℕ) : Type 0 where
  pub free : (a x : ℕ) → a < b → IsOnCycle moves entry a x → ⊥
  pub most : (a x n end : ℕ) → a < b → IsReachable moves entry a x → FreeWay moves a x n end → n ≤ gap
  pub met : (a x end : ℕ) × IsReachable moves entry a x × FreeWay moves a x gap end
  pub ranked : (a : ℕ) → a < b → (rank : ℕ → ℕ) × IsRanking moves entry a rank

-- the least point that is on a cycle at a byte below b, where there is one
abbrev pub IsLeastSoFar : List Move → ℕ → ℕ → Option ℕ → Type 0
IsLeastSoFar moves entry b None = (a x : ℕ) → a < b → IsOnCycle moves entry a x → ⊥
IsLeastSoFar moves entry b (Some least) =
    ((a : ℕ) × IsOnCycle moves entry a least) × ((a x : ℕ) → a < b → x < least → IsOnCycle moves entry a x → ⊥)

-- the least point that is on a cycle at b, where there is one
abbrev pub IsLeastAt : List Move → ℕ → ℕ → Option ℕ → Type 0
IsLeastAt moves entry b None = (x : ℕ) → IsOnCycle moves entry b x → ⊥
IsLeastAt moves entry b (Some least) = IsOnCycle moves entry b least × ((x : ℕ) → x < least → IsOnCycle moves entry b x → ⊥)

-- the lesser of two numbers, or the one that there is
unfoldable pub lesser : Option ℕ → Option ℕ → Option ℕ
lesser None b = b
lesser (Some x) None = Some x
lesser (Some x) (Some y) = Some (min x y)
