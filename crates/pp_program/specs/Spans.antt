-- Which spans may be open or shut at a state, by the ways of edges from the entry, and the faults of spans.
use Rattle.std.specs.Prelude.{◌≡◌, ℕ, Bool, List, Option, Some, None, length, slice_get}
use Rattle.pp_flow.specs.declared.moves.Act.{Act}
use Rattle.pp_flow.specs.declared.moves.Act.TheVariants as act
use Rattle.pp_flow.specs.Standing as standing
use Rattle.pp_program.specs.declared.program.Instr.{Instr}
use Rattle.pp_program.specs.declared.program.Instr.TheVariants.{Branch, Invoke, Consume, SpanOpen, SpanClose, Pause, Fail}
use Rattle.pp_program.specs.declared.program.State.{State}
use Rattle.pp_program.specs.declared.program.Program.{Program}
use Rattle.pp_program.specs.Edges.{IsEdge}

-- what a state does to spans
abbrev pub act_of : Instr → Act
act_of (Branch fold stay edges rest) = act.Goes
act_of (Invoke what answers other) = act.Goes
act_of (Consume prop n) = act.Goes
act_of (SpanOpen span n) = act.Opens span
act_of (SpanClose span n) = act.Closes span
act_of (Pause code reason n) = act.Goes
act_of (Fail code reason) = act.Fails

-- of a state that is there
abbrev pub act_by : Option State → Act
act_by None = act.Goes
act_by (Some s) = act_of s.instr

-- the ways of a program
abbrev pub ways : Program → standing.Ways
ways p = record { entry = p.entry; act = λ state. act_by (slice_get p.states state); Edge = IsEdge p }

-- what a state that is there makes of a span that is open or not
abbrev pub behind : Option State → ℕ → Bool → Bool
behind o s is_open = standing.behind (act_by o) s is_open

-- the state is there, and is an error
abbrev pub Fails : Option State → Type 0
Fails o = act_by o ≡ act.Fails

-- some way of edges from the entry comes to the state with the span open, or not; at the entry none is open
abbrev pub MayStand : Program → ℕ → Bool → ℕ → Type 0
MayStand p s is_open state = standing.MayStand (ways p) s is_open state

-- some way to the state leaves the span open, before the state acts
abbrev pub MayBeOpen : Program → ℕ → ℕ → Type 0
MayBeOpen p s state = standing.MayBeOpen (ways p) s state

-- some way to the state leaves it shut
abbrev pub MayBeShut : Program → ℕ → ℕ → Type 0
MayBeShut p s state = standing.MayBeShut (ways p) s state

-- the state opens a span that may be open there
abbrev pub Reopens : Program → ℕ → ℕ → Type 0
Reopens p state s = standing.Reopens (ways p) state s

-- the state closes a span that may be shut there
abbrev pub ClosesShut : Program → ℕ → ℕ → Type 0
ClosesShut p state s = standing.ClosesShut (ways p) state s

-- a span may be open and may be shut at the state, which is no error
abbrev pub Mixes : Program → ℕ → ℕ → Type 0
Mixes p state s = standing.Mixes (ways p) state s

-- the state has no fault of spans
abbrev pub HasNoFault : Program → ℕ → Type 0
HasNoFault p state = standing.HasNoFault (ways p) state

-- the state has a fault
abbrev pub HasFault : Program → ℕ → Type 0
HasFault p state = standing.HasFault (ways p) state

-- the spans of a program fit: no state has a fault
abbrev pub SpansFit : Program → Type 0
SpansFit p = standing.SpansFit (ways p)

-- A mask for each state: bit s is 1 exactly where span s may be open there.
abbrev pub TellsOpen : Program → List ℕ → Type 0
TellsOpen p opened = standing.TellsOpen (ways p) (length p.states) opened
