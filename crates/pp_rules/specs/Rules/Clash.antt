-- The rule on two edges of one node: key clash.
use Rattle.std.specs.Prelude.{ℕ, List, [], ◌∷◌, Option, Some, None, Bool, false, bytes_eq, ◌==◌}
use Rattle.std.specs.List.{list_any}
use Rattle.pp_rules.specs.declared.call.NamedEdge.{NamedEdge}
use Rattle.pp_rules.specs.declared.call.NamedEdge.TheVariants as edge
use Rattle.pp_rules.specs.declared.call.BuilderCall.{BuilderCall}
use Rattle.pp_rules.specs.Edges.{edge_of, edges_of}

abbrev pub begins_with_byte : ℕ → List ℕ → Bool
begins_with_byte b [] = false
begins_with_byte b (c ∷ bytes) = b == c

-- Two edges of one node clash: two equal keys, two equal peek bytes, two equal answer numbers, or a peek byte that
-- a key begins with.
abbrev pub edges_clash : NamedEdge → NamedEdge → Bool
edges_clash (edge.Key bytes number) (edge.Key other n) = bytes_eq bytes other
edges_clash (edge.Key bytes number) (edge.Peek byte) = begins_with_byte byte bytes
edges_clash (edge.Key bytes number) (edge.Answer n) = false
edges_clash (edge.Key bytes number) (edge.Otherwise skip) = false
edges_clash (edge.Peek byte) (edge.Key bytes number) = begins_with_byte byte bytes
edges_clash (edge.Peek byte) (edge.Peek other) = byte == other
edges_clash (edge.Peek byte) (edge.Answer n) = false
edges_clash (edge.Peek byte) (edge.Otherwise skip) = false
edges_clash (edge.Answer number) (edge.Key bytes n) = false
edges_clash (edge.Answer number) (edge.Peek byte) = false
edges_clash (edge.Answer number) (edge.Answer other) = number == other
edges_clash (edge.Answer number) (edge.Otherwise skip) = false
edges_clash (edge.Otherwise skip) other = false

-- Key clash: an earlier edge of the same node clashes with it.
abbrev pub clashes_with_any : List NamedEdge → Option NamedEdge → Bool
clashes_with_any edges None = false
clashes_with_any edges (Some when) = list_any (λ e. edges_clash e when) edges

abbrev pub is_clash : List BuilderCall → BuilderCall → Bool
is_clash before c = clashes_with_any (edges_of before) (edge_of c)
