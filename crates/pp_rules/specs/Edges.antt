-- The edges that calls add, and the keys among them.
use Rattle.std.specs.Prelude.{ℕ, List, Option, Some, None, filter_map}
use Rattle.pp_rules.specs.declared.call.NamedEdge.{NamedEdge}
use Rattle.pp_rules.specs.declared.call.NamedEdge.TheVariants as edge
use Rattle.pp_rules.specs.declared.call.BuilderCall.{BuilderCall}
use Rattle.pp_rules.specs.declared.call.BuilderCall.TheVariants as call
use Rattle.pp_rules.specs.Calls.{since_node}

-- the edge that a call adds, if it adds one
abbrev pub edge_of : BuilderCall → Option NamedEdge
edge_of (call.Prop name width) = None
edge_of (call.Host name value) = None
edge_of (call.Span name) = None
edge_of (call.Entry node) = None
edge_of (call.Finish prop host) = None
edge_of (call.Node name what) = None
edge_of (call.Edge when target) = Some when

-- the edges of the node that was added last
abbrev pub edges_of : List BuilderCall → List NamedEdge
edges_of before = filter_map edge_of (since_node before)

abbrev pub key_of_edge : NamedEdge → Option (List ℕ)
key_of_edge (edge.Key bytes number) = Some bytes
key_of_edge (edge.Peek byte) = None
key_of_edge (edge.Answer number) = None
key_of_edge (edge.Otherwise skip) = None

-- the keys of a node among calls that belong to it
abbrev pub keys_of : List BuilderCall → List (List ℕ)
keys_of own = filter_map key_of_edge (filter_map edge_of own)
