-- What rows of a flow tell.
use Rattle.std.specs.Prelude.{◌≡◌, ℕ, ◌<◌, ◌++◌, List, Some, slice_get, map}
use Rattle.pp_flow.specs.Rows as rows
use Rattle.pp_flow.specs.Chart.{Chart}
use Rattle.pp_flow.specs.declared.faults.SpanFault.{SpanFault}
use Rattle.pp_flow.specs.declared.faults.SpanFault.TheVariants.{Reopened, NotOpen, Mixed}
use Rattle.pp_flow.specs.declared.moves.Move.{Move}
use Rattle.pp_graph.specs.Plan.{Plan}
use Rattle.pp_check.specs.declared.checked.CheckFault.{CheckFault}
use Rattle.pp_check.specs.declared.checked.CheckFault.TheVariants.{SpanReopened, SpanNotOpen, SpanMixed}
use Rattle.pp_graph.specs.declared.node.Node.{Node}
use Rattle.pp_check.specs.Spans.{act_of}
use Rattle.pp_check.specs.steps.Ends.{ends_of}

-- the rows tell the ends of the nodes before a place
abbrev pub TellsBelow : List Node → ℕ → List Move → Type 0
TellsBelow nodes count moves = rows.TellsBelow (ends_of nodes) count moves

-- all rows are from this node, and lead to places below a number
abbrev pub AreRowsOf : ℕ → ℕ → List Move → Type 0
AreRowsOf node count rows = (k : ℕ) (m : Move) → slice_get rows k ≡ Some m → (m.from ≡ node) × (m.to < count)

-- a flow with more rows
abbrev pub with_rows : Chart → List Move → Chart
with_rows c rows = record { acts = c.acts; entry = c.entry; moves = c.moves ++ rows; told = c.told }

-- a fault of a flow as one of a graph
abbrev pub fault_of : SpanFault → CheckFault
fault_of (Reopened node span) = SpanReopened node span
fault_of (NotOpen node span) = SpanNotOpen node span
fault_of (Mixed node span) = SpanMixed node span

-- the flow of a graph: its acts, its entry, and rows for the ends of all nodes, which are all told
pub record IsFlowOf (g : Plan) (c : Chart) : Type 0 where
  pub acts : c.acts ≡ map (λ (n : Node). act_of n.kind) g.nodes
  pub entry : c.entry ≡ g.entry
  pub tells : TellsBelow g.nodes c.told c.moves
