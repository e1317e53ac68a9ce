-- What a check tells of a graph.
use Rattle.std.specs.Prelude.{◌≡◌, ℕ, List, slice_index}
use Rattle.pp_flow.specs.Standing as standing
use Rattle.pp_graph.specs.Plan.{Plan, IsWellFormed}
use Rattle.pp_event.specs.Loops.{IsGap}
use Rattle.pp_mean.specs.Loops.{graph_moves, IsLoopFree}
use Rattle.pp_check.specs.declared.checked.CheckFault.{CheckFault}
use Rattle.pp_check.specs.declared.checked.CheckFault.TheVariants.{Loop, SpanReopened, SpanNotOpen, SpanMixed, NoMemory}
use Rattle.pp_check.specs.Loops.{IsLeastLoop}
use Rattle.pp_check.specs.Spans.{Reopens, ClosesShut, Mixes, HasNo, IsLeast, ways, SpansFit, TellsOpen}

-- what is found of a graph: its gap, and a mask for each node of the spans that may be open there
pub record Found : Type 0 where
  pub gap : ℕ
  pub opened : List ℕ

-- a graph, its gap, and a mask for each node of the spans that may be open there
pub record Told : Type 0 where
  pub graph : Plan
  pub gap : ℕ
  pub opened : List ℕ

-- a graph with what is found of it
abbrev pub told : Plan → Found → Told
told g f = record { graph = g; gap = f.gap; opened = f.opened }

-- the graph is well-formed, it has no loop, its spans fit, and what is told is exact
pub record IsChecked (c : Told) : Type 0 where
  pub well_formed : IsWellFormed c.graph
  pub loop_free : IsLoopFree c.graph
  pub spans_fit : SpansFit c.graph
  pub exact_gap : IsGap (graph_moves c.graph) c.gap
  pub exact_spans : TellsOpen c.graph c.opened

-- no node before this one has a fault of spans
abbrev pub NoneBefore : Plan → ℕ → Type 0
NoneBefore g node = standing.NoneBefore (ways g) node

-- Why a graph is refused: its least loop; else the first fault of spans of the least node that has one, where a span is
-- first reopened, then closed though shut, then mixed, and of each the least span is told.
abbrev pub IsFault : Plan → CheckFault → Type 0
IsFault g (Loop byte cycle) = IsLeastLoop g byte cycle
IsFault g (SpanReopened node span) = IsLoopFree g × NoneBefore g node × IsLeast (Reopens g node) span
IsFault g (SpanNotOpen node span) = IsLoopFree g × NoneBefore g node × HasNo (Reopens g node) × IsLeast (ClosesShut g node) span
IsFault g (SpanMixed node span) =
    IsLoopFree g × NoneBefore g node × HasNo (Reopens g node) × HasNo (ClosesShut g node) × IsLeast (Mixes g node) span
IsFault g NoMemory = Unit {0}

-- a loop at this byte, from the same first node
abbrev pub LoopsAs : ℕ → List ℕ → CheckFault → Type 0
LoopsAs byte cycle (Loop b c) = (byte ≡ b) × (slice_index cycle 0 ≡ slice_index c 0)
LoopsAs byte cycle (SpanReopened node span) = ⊥
LoopsAs byte cycle (SpanNotOpen node span) = ⊥
LoopsAs byte cycle (SpanMixed node span) = ⊥
LoopsAs byte cycle NoMemory = ⊥

-- Two faults that are one: of two loops the bytes are equal, and the first nodes. One cycle may begin with another way.
abbrev pub IsAlike : CheckFault → CheckFault → Type 0
IsAlike (Loop byte cycle) f = LoopsAs byte cycle f
IsAlike (SpanReopened node span) f = SpanReopened node span ≡ f
IsAlike (SpanNotOpen node span) f = SpanNotOpen node span ≡ f
IsAlike (SpanMixed node span) f = SpanMixed node span ≡ f
IsAlike NoMemory f = NoMemory ≡ f
