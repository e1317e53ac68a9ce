-- Pairs of a point and the next byte, and the moves between them that take no byte.
use Rattle.std.specs.Prelude.{◌≡◌, ℕ, zero, suc, ◌<◌, ◌≤◌, List, Some, slice_get, IsTrue}
use Rattle.pp_flow.specs.declared.moves.Move.{Move}

-- one of the moves is from node to next, keeps the place, and is made where b comes next
pub record IsFree (moves : List Move) (b node next : ℕ) : Type 0 where
  pub place : ℕ
  pub made : Move
  pub listed : slice_get moves place ≡ Some made
  pub from : made.from ≡ node
  pub to : made.to ≡ next
  pub free : IsTrue made.free
  pub low : made.lo ≤ b
  pub high : b ≤ made.hi

-- one of the moves is from node to next, is made where b comes next, and any byte may come behind it
pub record IsOnward (moves : List Move) (b node next : ℕ) : Type 0 where
  pub place : ℕ
  pub made : Move
  pub listed : slice_get moves place ≡ Some made
  pub from : made.from ≡ node
  pub to : made.to ≡ next
  pub onward : IsTrue made.onward
  pub low : made.lo ≤ b
  pub high : b ≤ made.hi

-- node can be come to with b next
pub data IsReachable (moves : List Move) (entry : ℕ) : ℕ → ℕ → Type 0 where
  at_entry : {b : ℕ} → b < 256 → IsReachable moves entry b entry
  by_free : {b node next : ℕ} → IsReachable moves entry b node → IsFree moves b node next → IsReachable moves entry b next
  by_onward : {a b node next : ℕ} → b < 256 → IsReachable moves entry a node → IsOnward moves a node next → IsReachable moves entry b next

-- so many free moves in a row, with b next
pub data FreeWay (moves : List Move) (b : ℕ) : ℕ → ℕ → ℕ → Type 0 where
  stay : {node : ℕ} → FreeWay moves b node zero node
  onward : {node next end n : ℕ} → IsFree moves b node next → FreeWay moves b next n end → FreeWay moves b node (suc n) end

-- a reachable pair is on a cycle of free moves
pub record IsOnCycle (moves : List Move) (entry b node : ℕ) : Type 0 where
  pub reachable : IsReachable moves entry b node
  pub size : ℕ
  pub way : FreeWay moves b node (suc size) node

-- no reachable pair is
abbrev pub IsLoopFree : List Move → ℕ → Type 0
IsLoopFree moves entry = (b node : ℕ) → IsOnCycle moves entry b node → ⊥

-- the greatest number of free moves in a row between reachable pairs
pub record IsGap (moves : List Move) (entry gap : ℕ) : Type 0 where
  pub most : (b node n end : ℕ) → IsReachable moves entry b node → FreeWay moves b node n end → n ≤ gap
  pub met : (b node end : ℕ) × IsReachable moves entry b node × FreeWay moves b node gap end

-- A number for each reachable point at one byte: more than at the end of each free move, and one more
-- than at one of them where it is not 0.
pub record IsRanking (moves : List Move) (entry b : ℕ) (rank : ℕ → ℕ) : Type 0 where
  pub falls : (node next : ℕ) → IsReachable moves entry b node → IsFree moves b node next → rank next < rank node
  pub tight : (node : ℕ) → IsReachable moves entry b node → 0 < rank node → (next : ℕ) × IsFree moves b node next × (rank node ≡ suc (rank next))

-- all moves lead to points below a number
abbrev pub StaysBelow : List Move → ℕ → Type 0
StaysBelow moves count = (k : ℕ) (m : Move) → slice_get moves k ≡ Some m → m.to < count
