-- Which spans may be open or shut at a point, by the ways of edges from the entry, and the faults of spans.
use Rattle.std.specs.Prelude.{◌≡◌, ◌≢◌, ◌⊎◌, ◌↔◌, ℕ, ◌<◌, Bool, true, false, ◌==◌, if◌then◌else◌, List, length, slice_index}
use Rattle.std.specs.Int.{bit_at}
use Rattle.pp_flow.specs.declared.moves.Act.{Act}
use Rattle.pp_flow.specs.declared.moves.Act.TheVariants.{Goes, Opens, Closes, Fails}
use Rattle.pp_flow.specs.declared.faults.SpanFault.{SpanFault}
use Rattle.pp_flow.specs.declared.faults.SpanFault.TheVariants.{Reopened, NotOpen, Mixed}

-- the point where ways begin, what each point does to spans, and the edges between points
pub record Ways : Type 1 where
  pub entry : ℕ
  pub act : ℕ → Act
  pub Edge : ℕ → ℕ → Type 0

-- what a point makes of a span that is open or not: an open opens its own, and a close shuts its own
abbrev pub behind : Act → ℕ → Bool → Bool
behind Goes s is_open = is_open
behind (Opens span) s is_open = if s == span then true else is_open
behind (Closes span) s is_open = if s == span then false else is_open
behind Fails s is_open = is_open

-- some way of edges from the entry comes to the point with the span open, or not; at the entry none is open
pub data MayStand (w : Ways) (s : ℕ) : Bool → ℕ → Type 0 where
  at_entry : MayStand w s false w.entry
  along : {is_open : Bool} {node next : ℕ} → MayStand w s is_open node → w.Edge node next → MayStand w s (behind (w.act node) s is_open) next

-- some way to the point leaves the span open, before the point acts
abbrev pub MayBeOpen : Ways → ℕ → ℕ → Type 0
MayBeOpen w s node = MayStand w s true node

-- some way to the point leaves it shut
abbrev pub MayBeShut : Ways → ℕ → ℕ → Type 0
MayBeShut w s node = MayStand w s false node

-- the point opens a span that may be open there
abbrev pub Reopens : Ways → ℕ → ℕ → Type 0
Reopens w node s = (w.act node ≡ Opens s) × MayBeOpen w s node

-- the point closes a span that may be shut there
abbrev pub ClosesShut : Ways → ℕ → ℕ → Type 0
ClosesShut w node s = (w.act node ≡ Closes s) × MayBeShut w s node

-- a span may be open and may be shut at the point, which does not fail
abbrev pub Mixes : Ways → ℕ → ℕ → Type 0
Mixes w node s = (w.act node ≢ Fails) × MayBeOpen w s node × MayBeShut w s node

-- no span has it
abbrev pub HasNo : (ℕ → Type 0) → Type 0
HasNo P = (s : ℕ) → P s → ⊥

-- this span has it, and no lesser one
abbrev pub IsLeast : (ℕ → Type 0) → ℕ → Type 0
IsLeast P s = P s × ((t : ℕ) → t < s → P t → ⊥)

-- the point has no fault of spans
pub record HasNoFault (w : Ways) (node : ℕ) : Type 0 where
  pub reopens : HasNo (Reopens w node)
  pub closes : HasNo (ClosesShut w node)
  pub mixes : HasNo (Mixes w node)

-- the point has a fault
abbrev pub HasFault : Ways → ℕ → Type 0
HasFault w node = ((s : ℕ) × Reopens w node s) ⊎ (((s : ℕ) × ClosesShut w node s) ⊎ ((s : ℕ) × Mixes w node s))

-- spans fit: no point has a fault
abbrev pub SpansFit : Ways → Type 0
SpansFit w = (node : ℕ) → HasNoFault w node

-- no point before this one has a fault
abbrev pub NoneBefore : Ways → ℕ → Type 0
NoneBefore w node = (m : ℕ) → m < node → HasNoFault w m

-- The first fault of the least point that has one: there a span is first reopened, then closed though shut, then mixed,
-- and of each the least span is told.
abbrev pub IsFirstFault : Ways → SpanFault → Type 0
IsFirstFault w (Reopened node span) = NoneBefore w node × IsLeast (Reopens w node) span
IsFirstFault w (NotOpen node span) = NoneBefore w node × HasNo (Reopens w node) × IsLeast (ClosesShut w node) span
IsFirstFault w (Mixed node span) =
    NoneBefore w node × HasNo (Reopens w node) × HasNo (ClosesShut w node) × IsLeast (Mixes w node) span

-- the point of a fault
abbrev pub node_of : SpanFault → ℕ
node_of (Reopened node span) = node
node_of (NotOpen node span) = node
node_of (Mixed node span) = node

-- A mask for each of so many points: bit s is 1 exactly where span s may be open there.
pub record TellsOpen (w : Ways) (count : ℕ) (opened : List ℕ) : Type 0 where
  pub long : length opened ≡ count
  pub exact : (node s : ℕ) → node < count → s < 32 → (bit_at (slice_index opened node) s ≡ 1) ↔ MayBeOpen w s node
