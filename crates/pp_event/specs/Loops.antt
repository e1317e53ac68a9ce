-- Moves that take no byte, and machines in which they form no cycle.
use Rattle.std.specs.Prelude.{◌≡◌, ℕ, zero, suc, ◌-◌, ◌<◌, ◌≤◌, ◌^◌, List, [], ◌∷◌, ◌⊎◌, length, slice_index}
use Rattle.std.specs.List.{Contains}
use Rattle.pp_event.specs.Run.{Config, Turn, Goes, Asks, Rests, Stops, Fails, Machine, Stage}

-- the turn leads to a node, having taken so many bytes
abbrev pub LeadsTo : Turn → ℕ → ℕ → Type 0
LeadsTo (Goes d k items) taken node = (k ≡ taken) × (d.node ≡ node)
LeadsTo (Asks code value next) taken node = (taken ≡ 0) × (answer : ℕ) × (answer < 2 ^ 32) × ((next answer).node ≡ node)
LeadsTo (Rests d) taken node = ⊥
LeadsTo (Stops code d) taken node = (taken ≡ 0) × (d.node ≡ node)
LeadsTo (Fails code) taken node = ⊥

-- a list of bytes
abbrev pub AreBytes : List ℕ → Type 0
AreBytes bytes = (i : ℕ) → slice_index bytes i < 256

-- on some string of bytes with the byte b at the place, and for some values, a node leads to another one, taking so many bytes
abbrev pub Leads : Machine → ℕ → ℕ → ℕ → ℕ → Type 0
Leads turn node b taken next =
    (c : Config) × (bytes : List ℕ) × AreBytes bytes × (c.node ≡ node) × LeadsTo (turn c (b ∷ bytes)) taken next

-- a machine, its entry, and the edges that count as free moves whatever a code answers
pub record Moves : Type 1 where
  pub entry : ℕ
  pub turn : Machine
  pub edge : ℕ → ℕ → Type 0

-- a move that takes no byte, where this byte comes next
abbrev pub FreeMove : Moves → ℕ → ℕ → ℕ → Type 0
FreeMove m b node next = Leads m.turn node b 0 next ⊎ m.edge node next

-- a move that takes bytes
abbrev pub TakingMove : Moves → ℕ → ℕ → ℕ → Type 0
TakingMove m b node next = (k : ℕ) × Leads m.turn node b (suc k) next

-- the move of a pause
abbrev pub PauseMove : Moves → ℕ → ℕ → Type 0
PauseMove m node next = (c d : Config) × (rest : List ℕ) × (code : ℕ) × (c.node ≡ node) × (m.turn c rest ≡ Stops code d) × (d.node ≡ next)

-- the node can be come to with this byte next
pub data Reaches (m : Moves) : ℕ → ℕ → Type 0 where
  at_entry : {b : ℕ} → b < 256 → Reaches m b m.entry
  by_free : {b node next : ℕ} → Reaches m b node → FreeMove m b node next → Reaches m b next
  by_taking : {a b node next : ℕ} → b < 256 → Reaches m a node → TakingMove m a node next → Reaches m b next
  by_pause : {a b node next : ℕ} → b < 256 → Reaches m a node → PauseMove m node next → Reaches m b next

-- so many free moves in a row, with this byte next
pub data FreeWay (m : Moves) (b : ℕ) : ℕ → ℕ → ℕ → Type 0 where
  stay : {node : ℕ} → FreeWay m b node zero node
  onward : {node next end n : ℕ} → FreeMove m b node next → FreeWay m b next n end → FreeWay m b node (suc n) end

-- free moves between nodes that can be come to form no cycle
abbrev pub LoopFree : Moves → Type 0
LoopFree m = (b node n : ℕ) → Reaches m b node → FreeWay m b node (suc n) node → ⊥

-- a node that can be come to with b next is on a cycle of free moves there
pub record IsOnCycle (m : Moves) (b node : ℕ) : Type 0 where
  pub reached : Reaches m b node
  pub size : ℕ
  pub way : FreeWay m b node (suc size) node

-- free moves lead from each node to the next, and from the last to the first
pub record IsCycle (m : Moves) (b : ℕ) (cycle : List ℕ) : Type 0 where
  pub some : 0 < length cycle
  pub links : (i : ℕ) → suc i < length cycle → FreeMove m b (slice_index cycle i) (slice_index cycle (suc i))
  pub closes : FreeMove m b (slice_index cycle (length cycle - 1)) (slice_index cycle 0)

-- the least byte that has a loop, and a cycle there that begins at the least node that is on any at that byte
pub record IsLeastLoop (m : Moves) (byte : ℕ) (cycle : List ℕ) : Type 0 where
  pub in_bytes : byte < 256
  pub round : IsCycle m byte cycle
  pub reached : Reaches m byte (slice_index cycle 0)
  pub least_byte : (a node : ℕ) → a < byte → IsOnCycle m a node → ⊥
  pub least_node : (node : ℕ) → node < slice_index cycle 0 → IsOnCycle m byte node → ⊥

-- the greatest number of free moves in a row
pub record IsGap (m : Moves) (gap : ℕ) : Type 0 where
  pub most : (b node n end : ℕ) → Reaches m b node → FreeWay m b node n end → n ≤ gap
  pub met : (b node end : ℕ) × Reaches m b node × FreeWay m b node gap end

-- a number for each node and byte: more than at the end of each free move, and one more than at one of them where it isn't 0.
pub record IsRankTable (m : Moves) (rank : ℕ → ℕ → ℕ) : Type 0 where
  pub falls : (b node next : ℕ) → Reaches m b node → FreeMove m b node next → rank b next < rank b node
  pub tight : (b node : ℕ) → Reaches m b node → 0 < rank b node → (next : ℕ) × FreeMove m b node next × (rank b node ≡ suc (rank b next))

-- the node can be come to with these bytes left
abbrev pub Reached : Moves → ℕ → List ℕ → Type 0
Reached m node [] = (b : ℕ) → b < 256 → Reaches m b node
Reached m node (b ∷ bytes) = Reaches m b node

-- where a run stands: the node and the place
abbrev pub stand : Stage → ℕ × ℕ
stand s = (s.config.node, s.config.at)

-- no element stands twice
abbrev pub NoneTwice : {X : Type 0} → List X → Type 0
NoneTwice [] = Unit {0}
NoneTwice (x ∷ xs) = (Contains xs x → ⊥) × NoneTwice xs
