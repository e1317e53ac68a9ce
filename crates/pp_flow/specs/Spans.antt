-- Which spans may be open or shut at a point, by the edges from the entry. The number 2 s + 1 stands for
-- "span s is open", and 2 s for "span s is shut".
use Rattle.std.specs.Prelude.{◌≡◌, ℕ, ◌+◌, ◌*◌, ◌/◌, ◌<◌, ◌⊎◌, ◌↔◌, List, Some, length, slice_get, slice_index, slice_index_or, ◌==◌, if◌then◌else◌}
use Rattle.std.specs.Int.{bit_at}
use Rattle.pp_flow.specs.declared.moves.Move.{Move}
use Rattle.pp_flow.specs.declared.moves.Act.{Act}
use Rattle.pp_flow.specs.declared.moves.Act.TheVariants.{Goes, Opens, Closes, Fails}

-- what a point makes of the standing of a span
abbrev pub leads : Act → ℕ → ℕ
leads Goes b = b
leads (Opens s) b = if b / 2 == s then s * 2 + 1 else b
leads (Closes s) b = if b / 2 == s then s * 2 else b
leads Fails b = b

-- what the point at a place does to spans
abbrev pub act_at : List Act → ℕ → Act
act_at acts x = slice_index_or acts x Goes

-- a move of any kind, whether a byte takes it or not
pub record IsEdge (moves : List Move) (node next : ℕ) : Type 0 where
  pub place : ℕ
  pub made : Move
  pub listed : slice_get moves place ≡ Some made
  pub from : made.from ≡ node
  pub to : made.to ≡ next

-- some way of edges from the entry leads to the point with this standing of a span
pub data MayStand (moves : List Move) (acts : List Act) (entry : ℕ) : ℕ → ℕ → Type 0 where
  at_entry : {s : ℕ} → s < 32 → MayStand moves acts entry (s * 2) entry
  along : {b node next : ℕ} → MayStand moves acts entry b node → IsEdge moves node next → MayStand moves acts entry (leads (act_at acts node) b) next

-- some way leaves the span open
abbrev pub MayBeOpen : List Move → List Act → ℕ → ℕ → ℕ → Type 0
MayBeOpen moves acts entry s node = MayStand moves acts entry (s * 2 + 1) node

-- some way leaves the span shut
abbrev pub MayBeShut : List Move → List Act → ℕ → ℕ → ℕ → Type 0
MayBeShut moves acts entry s node = MayStand moves acts entry (s * 2) node

-- the spans that the acts name are below 32
abbrev pub HaveSpans : List Act → Type 0
HaveSpans acts = (x s : ℕ) → (act_at acts x ≡ Opens s) ⊎ (act_at acts x ≡ Closes s) → s < 32

-- For each of so many points a mask: bit s is 1 exactly where span s may be open there.
pub record TellsOpen (moves : List Move) (acts : List Act) (entry count : ℕ) (opened : List ℕ) : Type 0 where
  pub long : length opened ≡ count
  pub exact : (x s : ℕ) → x < count → s < 32 → (bit_at (slice_index opened x) s ≡ 1) ↔ MayBeOpen moves acts entry s x
