-- What the laws of lowering ask of a graph, and how the runs of a graph and of its program are related.
use Rattle.std.specs.Prelude.{◌≡◌, ℕ, ◌<◌, List, [], ◌∷◌, ◌++◌, Some, length, slice_get, option_map}
use Rattle.std.specs.List.{Contains}
use Rattle.pp_graph.specs.declared.node.Key.{Key}
use Rattle.pp_graph.specs.declared.node.Peek.{Peek}
use Rattle.pp_graph.specs.declared.node.Kind.{Kind}
use Rattle.pp_graph.specs.declared.node.Kind.TheVariants.{Match, Invoke, Consume, SpanOpen, SpanClose, Pause, Fail}
use Rattle.pp_graph.specs.declared.node.Node.{Node}
use Rattle.pp_graph.specs.Plan.{Plan}
use Rattle.pp_program.specs.declared.program.State.{State}
use Rattle.pp_event.specs.Run.{Config}
use Rattle.pp_event.specs.Simulates.{Bond, Shows}
use Rattle.pp_lower.specs.Lowered.{root_of, states_by}
use Rattle.pp_lower.specs.Kept.{node_reason, state_reason}

-- the rules on keys that lowering needs
pub record GoodKeys (keys : List Key) : Type 0 where
  -- bytes are bytes
  pub small : (k : Key) (p more : List ℕ) (b : ℕ) → Contains keys k → k.bytes ≡ p ++ b ∷ more → b < 256
  -- no key is empty
  pub filled : (k : Key) → Contains keys k → k.bytes ≡ [] → ⊥
  -- no two keys are equal
  pub distinct : (k l : Key) → Contains keys k → Contains keys l → k.bytes ≡ l.bytes → k ≡ l
  -- where k is a proper prefix of l, each longer proper prefix of l is a key
  pub no_gap : (k l : Key) (p more rest : List ℕ) (x y : ℕ) → Contains keys k → Contains keys l →
      l.bytes ≡ k.bytes ++ x ∷ more → l.bytes ≡ p ++ y ∷ rest → length k.bytes < length p →
      (m : Key) × Contains keys m × (m.bytes ≡ p)

-- and on peeks: bytes are bytes
pub record GoodPeeks (peeks : List Peek) : Type 0 where
  pub small : (p : Peek) → Contains peeks p → p.byte < 256

abbrev pub GoodKind : Kind → Type 0
GoodKind (Match fold keys peeks other) = GoodKeys keys × GoodPeeks peeks
GoodKind (Invoke code answers other) = Unit {0}
GoodKind (Consume prop next) = Unit {0}
GoodKind (SpanOpen span next) = Unit {0}
GoodKind (SpanClose span next) = Unit {0}
GoodKind (Pause code reason next) = Unit {0}
GoodKind (Fail code reason) = Unit {0}

-- the rules on nodes that lowering needs
abbrev pub CanBeLowered : List Node → Type 0
CanBeLowered nodes = (i : ℕ) (n : Node) → slice_get nodes i ≡ Some n → GoodKind n.kind

-- the configuration of the program that stands for one of the graph
abbrev pub lifted : (ℕ → ℕ) → Config → Config
lifted roots c = record c { node = roots c.node }

-- the state is one of those of the node and shows its reason, or there is neither
pub record HasOrigin (nodes : List Node) (states : List State) (node state : ℕ) : Type 0 where
  pub origin : option_map (λ (s : State). s.origin) (slice_get states state) ≡ option_map (λ (n : Node). node) (slice_get nodes node)
  pub reason : node_reason (slice_get nodes node) ≡ state_reason (slice_get states state)

-- where both runs go on the program stands at the root of the graph's node; where they end, at a state of that node
abbrev pub lowering : List Node → (ℕ → ℕ) → List State → Bond
lowering nodes roots states = record {
  meet = λ c d. d ≡ lifted roots c;
  close = λ c d. Shows c d × HasOrigin nodes states c.node d.node;
}

abbrev pub lowering_of : Plan → Bond
lowering_of g = lowering g.nodes (root_of g.nodes) (states_by g.nodes)
