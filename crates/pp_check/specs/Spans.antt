-- Which spans may be open or shut at a node, by the ways of edges from the entry, and the faults of spans.
use Rattle.std.specs.Prelude.{ℕ, Bool, List, Option, Some, None, length, slice_get}
use Rattle.pp_flow.specs.declared.moves.Act.{Act}
use Rattle.pp_flow.specs.declared.moves.Act.TheVariants as act
use Rattle.pp_flow.specs.Standing as standing
pub use Rattle.pp_flow.specs.Standing.{HasNo, IsLeast}
use Rattle.pp_graph.specs.declared.node.Kind.{Kind}
use Rattle.pp_graph.specs.declared.node.Kind.TheVariants.{Match, Invoke, Consume, SpanOpen, SpanClose, Pause, Fail}
use Rattle.pp_graph.specs.declared.node.Node.{Node}
use Rattle.pp_graph.specs.Plan.{Plan}
use Rattle.pp_check.specs.Edges.{IsEdge}

-- what a node does to spans
abbrev pub act_of : Kind → Act
act_of (Match fold keys peeks other) = act.Goes
act_of (Invoke what answers other) = act.Goes
act_of (Consume prop n) = act.Goes
act_of (SpanOpen span n) = act.Opens span
act_of (SpanClose span n) = act.Closes span
act_of (Pause code reason n) = act.Goes
act_of (Fail code reason) = act.Fails

-- of a node that is there
abbrev pub act_by : Option Node → Act
act_by None = act.Goes
act_by (Some n) = act_of n.kind

-- the ways of a graph
abbrev pub ways : Plan → standing.Ways
ways g = record { entry = g.entry; act = λ node. act_by (slice_get g.nodes node); Edge = IsEdge g }

-- some way of edges from the entry comes to the node with the span open, or not; at the entry none is open
abbrev pub MayStand : Plan → ℕ → Bool → ℕ → Type 0
MayStand g s is_open node = standing.MayStand (ways g) s is_open node

-- some way to the node leaves the span open, before the node acts
abbrev pub MayBeOpen : Plan → ℕ → ℕ → Type 0
MayBeOpen g s node = standing.MayBeOpen (ways g) s node

-- some way to the node leaves it shut
abbrev pub MayBeShut : Plan → ℕ → ℕ → Type 0
MayBeShut g s node = standing.MayBeShut (ways g) s node

-- the node opens a span that may be open there
abbrev pub Reopens : Plan → ℕ → ℕ → Type 0
Reopens g node s = standing.Reopens (ways g) node s

-- the node closes a span that may be shut there
abbrev pub ClosesShut : Plan → ℕ → ℕ → Type 0
ClosesShut g node s = standing.ClosesShut (ways g) node s

-- a span may be open and may be shut at the node, which is no error
abbrev pub Mixes : Plan → ℕ → ℕ → Type 0
Mixes g node s = standing.Mixes (ways g) node s

-- the node has no fault of spans
abbrev pub HasNoFault : Plan → ℕ → Type 0
HasNoFault g node = standing.HasNoFault (ways g) node

-- the spans of a graph fit: no node has a fault
abbrev pub SpansFit : Plan → Type 0
SpansFit g = standing.SpansFit (ways g)

-- A mask for each node: bit s is 1 exactly where span s may be open there.
abbrev pub TellsOpen : Plan → List ℕ → Type 0
TellsOpen g opened = standing.TellsOpen (ways g) (length g.nodes) opened
