-- The calls that tell a graph to a builder: properties, hosts, spans, the entry, the finish rule if there is one, then
-- each node with its keys, its peeks, its answers and its otherwise.
use Rattle.std.specs.Prelude.{ℕ, List, [], ◌∷◌, ◌++◌, Option, Some, false, map, slice_get, option_map, unwrap_or, flat_map}
use Rattle.std.specs.Prelude.{None as none}
use Rattle.pp_rules.specs.declared.declaration.PropDecl.{PropDecl}
use Rattle.pp_rules.specs.declared.declaration.HostDecl.{HostDecl}
use Rattle.pp_rules.specs.declared.declaration.SpanDecl.{SpanDecl}
use Rattle.pp_graph.specs.declared.node.Code.{Code}
use Rattle.pp_graph.specs.declared.node.Code.TheVariants as placed_code
use Rattle.pp_graph.specs.declared.node.Key.{Key}
use Rattle.pp_graph.specs.declared.node.Peek.{Peek}
use Rattle.pp_graph.specs.declared.node.Answer.{Answer}
use Rattle.pp_graph.specs.declared.node.Other.{Other}
use Rattle.pp_graph.specs.declared.node.Kind.{Kind}
use Rattle.pp_graph.specs.declared.node.Kind.TheVariants as placed
use Rattle.pp_graph.specs.declared.node.Node.{Node}
use Rattle.pp_rules.specs.declared.call.Constant.TheVariants as constant
use Rattle.pp_rules.specs.declared.call.NamedCode.{NamedCode}
use Rattle.pp_rules.specs.declared.call.NamedCode.TheVariants as code
use Rattle.pp_rules.specs.declared.call.NamedKind.{NamedKind}
use Rattle.pp_rules.specs.declared.call.NamedKind.TheVariants as kind
use Rattle.pp_rules.specs.declared.call.NamedEdge.TheVariants as edge
use Rattle.pp_rules.specs.declared.call.BuilderCall.{BuilderCall}
use Rattle.pp_rules.specs.declared.call.BuilderCall.TheVariants as call
use Rattle.pp_graph.specs.Plan.{Plan}

-- the name of what stands at a place; of a place where nothing stands, no bytes
abbrev pub prop_name : Plan → ℕ → List ℕ
prop_name g place = unwrap_or (option_map (λ (p : PropDecl). p.name) (slice_get g.props place)) []

abbrev pub host_name : Plan → ℕ → List ℕ
host_name g place = unwrap_or (option_map (λ (h : HostDecl). h.name) (slice_get g.hosts place)) []

abbrev pub span_name : Plan → ℕ → List ℕ
span_name g place = unwrap_or (option_map (λ (s : SpanDecl). s.name) (slice_get g.spans place)) []

abbrev pub node_name : Plan → ℕ → List ℕ
node_name g place = unwrap_or (option_map (λ (n : Node). n.name) (slice_get g.nodes place)) []

-- a code and a kind by the names of what they use
abbrev pub named_code : Plan → Code → NamedCode
named_code g (placed_code.Call host) = code.Call (host_name g host)
named_code g (placed_code.Store prop) = code.Store (prop_name g prop)
named_code g (placed_code.Load prop) = code.Load (prop_name g prop)
named_code g (placed_code.Update prop value) = code.Constant constant.Update (prop_name g prop) value
named_code g (placed_code.Equal prop value) = code.Constant constant.Equal (prop_name g prop) value
named_code g (placed_code.And prop value) = code.Constant constant.And (prop_name g prop) value
named_code g (placed_code.Or prop value) = code.Constant constant.Or (prop_name g prop) value
named_code g (placed_code.Test prop value) = code.Constant constant.Test (prop_name g prop) value
named_code g (placed_code.MulAdd prop base most) = code.MulAdd (prop_name g prop) base (Some most)

abbrev pub named_kind : Plan → Kind → NamedKind
named_kind g (placed.Match fold keys peeks other) = kind.Match fold
named_kind g (placed.Invoke what answers other) = kind.Invoke (named_code g what)
named_kind g (placed.Consume prop next) = kind.Consume (prop_name g prop)
named_kind g (placed.SpanOpen span next) = kind.SpanOpen (span_name g span)
named_kind g (placed.SpanClose span next) = kind.SpanClose (span_name g span)
named_kind g (placed.Pause number reason next) = kind.Pause number reason
named_kind g (placed.Fail number reason) = kind.Fail number reason

-- the calls of edges
abbrev pub key_call : Plan → Key → BuilderCall
key_call g k = call.Edge (edge.Key k.bytes k.number) (node_name g k.target)

abbrev pub peek_call : Plan → Peek → BuilderCall
peek_call g p = call.Edge (edge.Peek p.byte) (node_name g p.target)

abbrev pub answer_call : Plan → Answer → BuilderCall
answer_call g a = call.Edge (edge.Answer a.number) (node_name g a.target)

abbrev pub other_call : Plan → Other → BuilderCall
other_call g o = call.Edge (edge.Otherwise o.skip) (node_name g o.target)

-- an otherwise that takes no byte
abbrev pub else_call : Plan → ℕ → BuilderCall
else_call g next = call.Edge (edge.Otherwise false) (node_name g next)

abbrev pub edge_calls : Plan → Kind → List BuilderCall
edge_calls g (placed.Match fold keys peeks other) = map (key_call g) keys ++ map (peek_call g) peeks ++ other_call g other ∷ []
edge_calls g (placed.Invoke what answers other) = map (answer_call g) answers ++ else_call g other ∷ []
edge_calls g (placed.Consume prop next) = else_call g next ∷ []
edge_calls g (placed.SpanOpen span next) = else_call g next ∷ []
edge_calls g (placed.SpanClose span next) = else_call g next ∷ []
edge_calls g (placed.Pause number reason next) = else_call g next ∷ []
edge_calls g (placed.Fail number reason) = []

abbrev pub node_calls : Plan → Node → List BuilderCall
node_calls g n = call.Node n.name (named_kind g n.kind) ∷ edge_calls g n.kind

abbrev pub prop_call : PropDecl → BuilderCall
prop_call p = call.Prop p.name p.width

abbrev pub host_call : HostDecl → BuilderCall
host_call h = call.Host h.name h.value

abbrev pub span_call : SpanDecl → BuilderCall
span_call s = call.Span s.name

abbrev pub finish_calls : Plan → Option (ℕ × ℕ) → List BuilderCall
finish_calls g none = []
finish_calls g (Some rule) = call.Finish (prop_name g rule.0) (host_name g rule.1) ∷ []

abbrev pub calls_of : Plan → List BuilderCall
calls_of g =
    map prop_call g.props ++ map host_call g.hosts ++ map span_call g.spans ++ call.Entry (node_name g g.entry) ∷ finish_calls g g.finish ++ flat_map (node_calls g) g.nodes
