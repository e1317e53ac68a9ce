-- The edges of a graph, also those that no string takes.
use Rattle.std.specs.Prelude.{◌≡◌, ℕ, Option, Some, None, ◌⊎◌, slice_get}
use Rattle.std.specs.List.{Any}
use Rattle.pp_graph.specs.declared.node.Answer.{Answer}
use Rattle.pp_graph.specs.declared.node.Key.{Key}
use Rattle.pp_graph.specs.declared.node.Peek.{Peek}
use Rattle.pp_graph.specs.declared.node.Kind.{Kind}
use Rattle.pp_graph.specs.declared.node.Kind.TheVariants.{Match, Invoke, Consume, SpanOpen, SpanClose, Pause, Fail}
use Rattle.pp_graph.specs.declared.node.Node.{Node}
use Rattle.pp_graph.specs.Plan.{Plan}

-- an edge of a node of this kind leads to a node: by a key, a peek, an answer, or an otherwise
abbrev pub HasEdge : Kind → ℕ → Type 0
HasEdge (Match fold keys peeks other) next =
    Any (λ (k : Key). k.target ≡ next) keys ⊎ (Any (λ (p : Peek). p.target ≡ next) peeks ⊎ (other.target ≡ next))
HasEdge (Invoke what answers other) next = (other ≡ next) ⊎ Any (λ (a : Answer). a.target ≡ next) answers
HasEdge (Consume prop n) next = n ≡ next
HasEdge (SpanOpen span n) next = n ≡ next
HasEdge (SpanClose span n) next = n ≡ next
HasEdge (Pause code reason n) next = n ≡ next
HasEdge (Fail code reason) next = ⊥

-- of a node that is there
abbrev pub EdgeFrom : Option Node → ℕ → Type 0
EdgeFrom None next = ⊥
EdgeFrom (Some n) next = HasEdge n.kind next

-- an edge of the graph leads from a node to a node
abbrev pub IsEdge : Plan → ℕ → ℕ → Type 0
IsEdge g node next = EdgeFrom (slice_get g.nodes node) next
