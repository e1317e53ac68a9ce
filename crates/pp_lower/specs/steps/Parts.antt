-- What the parts of lowering are given.
use Rattle.std.specs.Prelude.{◌≡◌, ℕ, ◌<◌, ◌≤◌, ◌^◌, List, ◌∷◌, ◌++◌, Option, Some, None, length, take, drop, slice_index, slice_get, find, ◌==◌}
use Rattle.std.specs.List.{Contains}
use Rattle.pp_graph.specs.declared.node.Key.{Key}
use Rattle.pp_graph.specs.declared.node.Peek.{Peek}
use Rattle.pp_graph.specs.declared.node.Answer.{Answer}
use Rattle.pp_graph.specs.declared.node.Kind.{Kind}
use Rattle.pp_graph.specs.declared.node.Kind.TheVariants.{Match, Invoke, Consume, SpanOpen, SpanClose, Pause, Fail}
use Rattle.pp_graph.specs.declared.node.Node.{Node}
use Rattle.pp_program.specs.declared.program.Edge.{Edge}
use Rattle.pp_lower.specs.declared.links.Link.{Link}
use Rattle.pp_lower.specs.Lowered.{root_of, edge_by, with_answer}
use Rattle.pp_lower.specs.steps.Links.{link_by}

-- the table has the places that f gives
abbrev pub Gives : List ℕ → (ℕ → ℕ) → Type 0
Gives roots f = (i : ℕ) → i < length roots → slice_index roots i ≡ f i

-- the key at a place, if there is one
abbrev pub key_by : List Key → Option ℕ → Option Key
key_by keys None = None
key_by keys (Some i) = slice_get keys i

-- the peek of a byte, if there is one
abbrev pub peek_by : List Peek → ℕ → Option Peek
peek_by peeks b = find (λ (p : Peek). p.byte == b) peeks

-- the edge on a byte of a state with these links to inner states and to keys
abbrev pub edge_from : (ℕ → ℕ) → ℕ → List Key → List Peek → List Link → List Link → ℕ → Option Edge
edge_from roots root keys peeks inner ends b = edge_by roots root b (link_by inner b) (key_by keys (link_by ends b)) (peek_by peeks b)

abbrev pub KeysBelow : ℕ → List Key → Type 0
KeysBelow n keys = (k : Key) → Contains keys k → k.target < n

abbrev pub PeeksBelow : ℕ → List Peek → Type 0
PeeksBelow n peeks = (p : Peek) → Contains peeks p → p.target < n

abbrev pub AnswersBelow : ℕ → List Answer → Type 0
AnswersBelow n answers = (a : Answer) → Contains answers a → a.target < n

-- a node's edges lead to nodes
abbrev pub KindBelow : ℕ → Kind → Type 0
KindBelow n (Match fold keys peeks other) = KeysBelow n keys × PeeksBelow n peeks × (other.target < n) × (length keys < 2 ^ 32)
KindBelow n (Invoke code answers other) = AnswersBelow n answers × (other < n)
KindBelow n (Consume prop next) = next < n
KindBelow n (SpanOpen span next) = next < n
KindBelow n (SpanClose span next) = next < n
KindBelow n (Pause code reason next) = next < n
KindBelow n (Fail code reason) = Unit {0}

-- how many states the nodes give
abbrev pub total : List Node → ℕ
total nodes = root_of nodes (length nodes)

-- nodes whose edges lead to nodes, and that give fewer states than 2 ^ 32
pub record CanBePlaced (nodes : List Node) : Type 0 where
  pub below : (n : Node) → Contains nodes n → KindBelow (length nodes) n.kind
  pub fits : total nodes < 2 ^ 32

-- where an answer comes into a list in order of numbers
abbrev pub IsAnswerPlace : List Answer → Answer → ℕ → Type 0
IsAnswerPlace l a i = (i ≤ length l) × (with_answer a l ≡ take i l ++ a ∷ drop i l)
