-- Faults of spans. stands tells which standings of spans there may be at a point.
use Rattle.std.specs.Prelude.{◌≡◌, ◌≢◌, ℕ, ◌+◌, ◌*◌, ◌<◌, List}
use Rattle.pp_flow.specs.declared.faults.SpanFault.{SpanFault}
use Rattle.pp_flow.specs.declared.faults.SpanFault.TheVariants.{Reopened, NotOpen, Mixed}
use Rattle.pp_flow.specs.declared.faults.Fitting.{Fitting}
use Rattle.pp_flow.specs.declared.faults.Fitting.TheVariants.{Fit, Fault}
use Rattle.pp_flow.specs.declared.moves.Act.{Act}
use Rattle.pp_flow.specs.declared.moves.Act.TheVariants.{Opens, Closes, Fails}
use Rattle.pp_flow.specs.declared.moves.Move.{Move}
use Rattle.pp_flow.specs.Spans.{act_at, MayStand, TellsOpen}

-- the point opens a span that may be open there
abbrev pub Reopens : (ℕ → ℕ → Type 0) → List Act → ℕ → ℕ → Type 0
Reopens stands acts n s = (act_at acts n ≡ Opens s) × stands (s * 2 + 1) n

-- the point closes a span that may be shut there
abbrev pub ClosesShut : (ℕ → ℕ → Type 0) → List Act → ℕ → ℕ → Type 0
ClosesShut stands acts n s = (act_at acts n ≡ Closes s) × stands (s * 2) n

-- a span may be open and may be shut at the point, which does not fail
abbrev pub Mixes : (ℕ → ℕ → Type 0) → List Act → ℕ → ℕ → Type 0
Mixes stands acts n s = (s < 32) × (act_at acts n ≢ Fails) × stands (s * 2 + 1) n × stands (s * 2) n

-- P of no number
abbrev pub HasNo : (ℕ → Type 0) → Type 0
HasNo P = (s : ℕ) → P s → ⊥

-- the point has no fault
pub record HasNoFault (stands : ℕ → ℕ → Type 0) (acts : List Act) (n : ℕ) : Type 0 where
  pub reopens : HasNo (Reopens stands acts n)
  pub closes : HasNo (ClosesShut stands acts n)
  pub mixes : HasNo (Mixes stands acts n)

-- the point has this fault, and none of a kind that comes before it, nor of its kind at a lesser span
abbrev pub IsFirstAt : (ℕ → ℕ → Type 0) → List Act → ℕ → SpanFault → Type 0
IsFirstAt stands acts n (Reopened m s) = (m ≡ n) × Reopens stands acts n s × ((t : ℕ) → t < s → Reopens stands acts n t → ⊥)
IsFirstAt stands acts n (NotOpen m s) = (m ≡ n) × ClosesShut stands acts n s × HasNo (Reopens stands acts n) × ((t : ℕ) → t < s → ClosesShut stands acts n t → ⊥)
IsFirstAt stands acts n (Mixed m s) = (m ≡ n) × Mixes stands acts n s × HasNo (Reopens stands acts n) × HasNo (ClosesShut stands acts n) × ((t : ℕ) → t < s → Mixes stands acts n t → ⊥)

-- the first fault of the least point that has one
pub record IsFirstFault (stands : ℕ → ℕ → Type 0) (acts : List Act) (fault : SpanFault) : Type 0 where
  pub node : ℕ
  pub first : IsFirstAt stands acts node fault
  pub before : (m : ℕ) → m < node → HasNoFault stands acts m

-- What is told of the spans of so many points: a mask for each, where no point has a fault; else the first fault.
abbrev pub IsFitting : List Move → List Act → ℕ → ℕ → Fitting → Type 0
IsFitting moves acts entry count (Fit opened) =
    ((x : ℕ) → x < count → HasNoFault (MayStand moves acts entry) acts x) × TellsOpen moves acts entry count opened.items
IsFitting moves acts entry count (Fault fault) = IsFirstFault (MayStand moves acts entry) acts fault
