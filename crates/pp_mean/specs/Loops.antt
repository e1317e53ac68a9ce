-- The moves of a graph, and the graphs in which those that take no byte form no cycle.
use Rattle.std.specs.Prelude.{◌≡◌, ◌⊎◌, ℕ, Option, Some, None, slice_get}
use Rattle.std.specs.List.{Any}
use Rattle.pp_graph.specs.declared.node.Answer.{Answer}
use Rattle.pp_graph.specs.declared.node.Kind.{Kind}
use Rattle.pp_graph.specs.declared.node.Kind.TheVariants.{Match, Invoke, Consume, SpanOpen, SpanClose, Pause, Fail}
use Rattle.pp_graph.specs.declared.node.Node.{Node}
use Rattle.pp_graph.specs.Plan.{Plan}
use Rattle.pp_event.specs.Loops.{Moves, LoopFree}
use Rattle.pp_mean.specs.Nodes.{graph_turn}

-- an answer edge of an invoke, or its otherwise, leads to this node
abbrev pub AnswersWith : Kind → ℕ → Type 0
AnswersWith (Match fold keys peeks other) next = ⊥
AnswersWith (Invoke what answers other) next = (other ≡ next) ⊎ Any (λ (a : Answer). a.target ≡ next) answers
AnswersWith (Consume prop n) next = ⊥
AnswersWith (SpanOpen span n) next = ⊥
AnswersWith (SpanClose span n) next = ⊥
AnswersWith (Pause code reason n) next = ⊥
AnswersWith (Fail code reason) next = ⊥

-- of a node that is there
abbrev pub AnswerEdge : Option Node → ℕ → Type 0
AnswerEdge None next = ⊥
AnswerEdge (Some n) next = AnswersWith n.kind next

-- the moves of a graph: those of its machine, and all edges of an invoke, whatever its code answers
abbrev pub graph_moves : Plan → Moves
graph_moves g = record { entry = g.entry; turn = graph_turn g; edge = λ node next. AnswerEdge (slice_get g.nodes node) next }

-- the graph has no loop
abbrev pub IsLoopFree : Plan → Type 0
IsLoopFree g = LoopFree (graph_moves g)
