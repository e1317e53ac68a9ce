-- What moves of a flow tell, as rows: where the points whose moves are told lead.
use Rattle.std.specs.Prelude.{◌≡◌, ℕ, ◌<◌, ◌≤◌, List, Some, ◌⊎◌, ◌↔◌, slice_get, IsTrue}
use Rattle.pp_flow.specs.Chart.{Chart}
use Rattle.pp_flow.specs.declared.moves.Move.{Move}

-- how a point leads to another: by a move that keeps the place, by one behind which any byte may come, or by an edge
-- that perhaps no string takes
pub data Way : Type 0 where
  free : Way
  onward : Way
  edge : Way

-- a relation between bytes and points for each way
abbrev pub Ends : Type 1
Ends = Way → ℕ → ℕ → Type 0

-- nowhere
abbrev pub NoEnds : Ends
NoEnds way b next = ⊥

-- one of two
abbrev pub OrEnds : Ends → Ends → Ends
OrEnds P Q way b next = P way b next ⊎ Q way b next

-- on every byte to one point, without taking a byte
abbrev pub FreeEnds : ℕ → Ends
FreeEnds n free b next = n ≡ next
FreeEnds n onward b next = ⊥
FreeEnds n edge b next = n ≡ next

-- on every byte to one point, whether a byte is taken or not
abbrev pub BothEnds : ℕ → Ends
BothEnds n free b next = n ≡ next
BothEnds n onward b next = n ≡ next
BothEnds n edge b next = n ≡ next

-- to one point, on no byte
abbrev pub DeadEnds : ℕ → Ends
DeadEnds n free b next = ⊥
DeadEnds n onward b next = ⊥
DeadEnds n edge b next = n ≡ next

-- a row leads this way on this byte
abbrev pub IsOn : Way → Move → ℕ → Type 0
IsOn free m b = IsTrue m.free × (m.lo ≤ b) × (b ≤ m.hi)
IsOn onward m b = IsTrue m.onward × (m.lo ≤ b) × (b ≤ m.hi)
IsOn edge m b = Unit {0}

-- one of the rows leads so from a point to the next
pub record Has (rows : List Move) (way : Way) (b node next : ℕ) : Type 0 where
  pub place : ℕ
  pub made : Move
  pub listed : slice_get rows place ≡ Some made
  pub from : made.from ≡ node
  pub to : made.to ≡ next
  pub on : IsOn way made b

-- where one row leads
abbrev pub RowEnds : Move → Ends
RowEnds m way b next = (m.to ≡ next) × IsOn way m b

-- the rows afterwards tell what the rows before tell, and these ends of a point
abbrev pub Adds : ℕ → List Move → List Move → Ends → Type 0
Adds node before after P =
    (way : Way) (b from next : ℕ) → b < 256 → Has after way b from next ↔ (Has before way b from next ⊎ ((from ≡ node) × P way b next))

-- the rows tell the ends of the points before a place
abbrev pub TellsBelow : (ℕ → Ends) → ℕ → List Move → Type 0
TellsBelow ends count rows =
    (way : Way) (b from next : ℕ) → b < 256 → Has rows way b from next ↔ ((from < count) × ends from way b next)

-- rows for these ends of the point whose rows are told are added
pub record Rowed (before after : Chart) (P : Ends) : Type 0 where
  pub acts : after.acts ≡ before.acts
  pub entry : after.entry ≡ before.entry
  pub told : after.told ≡ before.told
  pub adds : Adds before.told before.moves after.moves P
