-- The graph that a list of calls gives.
use Rattle.std.specs.Prelude.{ℕ, List, [], ◌∷◌, Option, Some, false, bytes_eq, filter_map, unwrap_or}
use Rattle.std.specs.Prelude.{None as none}
use Rattle.std.specs.List.{position_or_len}
use Rattle.pp_graph.specs.declared.node.Code.{Code}
use Rattle.pp_graph.specs.declared.node.Code.TheVariants as placed_code
use Rattle.pp_graph.specs.declared.node.Key.{Key}
use Rattle.pp_graph.specs.declared.node.Peek.{Peek}
use Rattle.pp_graph.specs.declared.node.Answer.{Answer}
use Rattle.pp_graph.specs.declared.node.Kind.{Kind}
use Rattle.pp_graph.specs.declared.node.Kind.TheVariants as placed
use Rattle.pp_graph.specs.declared.node.Node.{Node}
use Rattle.pp_graph.specs.declared.node.Other.{Other}
use Rattle.pp_rules.specs.declared.call.Constant.{Constant}
use Rattle.pp_rules.specs.declared.call.Constant.TheVariants as constant
use Rattle.pp_rules.specs.declared.call.NamedCode.{NamedCode}
use Rattle.pp_rules.specs.declared.call.NamedCode.TheVariants as code
use Rattle.pp_rules.specs.declared.call.NamedKind.{NamedKind}
use Rattle.pp_rules.specs.declared.call.NamedKind.TheVariants as kind
use Rattle.pp_rules.specs.declared.call.NamedEdge.TheVariants as edge
use Rattle.pp_rules.specs.declared.call.BuilderCall.{BuilderCall}
use Rattle.pp_rules.specs.declared.call.BuilderCall.TheVariants as call
use Rattle.pp_graph.specs.Plan.{Plan}
use Rattle.pp_rules.specs.Calls.{own_calls}
use Rattle.pp_rules.specs.Declarations.{Tables, host_decl, span_decl, tables_of, greatest_of}

-- the place of the first of these names that is equal, or their count
abbrev pub place_of : List (List ℕ) → List ℕ → ℕ
place_of names name = position_or_len (bytes_eq name) names

abbrev pub constant_code : Constant → ℕ → ℕ → Code
constant_code constant.Update prop value = placed_code.Update prop value
constant_code constant.Equal prop value = placed_code.Equal prop value
constant_code constant.And prop value = placed_code.And prop value
constant_code constant.Or prop value = placed_code.Or prop value
constant_code constant.Test prop value = placed_code.Test prop value

abbrev pub code_of : Tables → NamedCode → Code
code_of t (code.Call host) = placed_code.Call (place_of t.hosts host)
code_of t (code.Store prop) = placed_code.Store (place_of t.prop_names prop)
code_of t (code.Load prop) = placed_code.Load (place_of t.prop_names prop)
code_of t (code.Constant what prop value) = constant_code what (place_of t.prop_names prop) value
code_of t (code.MulAdd prop base most) = placed_code.MulAdd (place_of t.prop_names prop) base (unwrap_or most (greatest_of t prop))

-- the edges that a call adds, which lead to a node
abbrev pub key_edge : Tables → BuilderCall → Option Key
key_edge t (call.Prop name width) = none
key_edge t (call.Host name value) = none
key_edge t (call.Span name) = none
key_edge t (call.Entry node) = none
key_edge t (call.Finish prop host) = none
key_edge t (call.Node name what) = none
key_edge t (call.Edge (edge.Key bytes number) target) = Some (record { bytes = bytes; number = number; target = place_of t.nodes target })
key_edge t (call.Edge (edge.Peek byte) target) = none
key_edge t (call.Edge (edge.Answer number) target) = none
key_edge t (call.Edge (edge.Otherwise skip) target) = none

abbrev pub peek_edge : Tables → BuilderCall → Option Peek
peek_edge t (call.Prop name width) = none
peek_edge t (call.Host name value) = none
peek_edge t (call.Span name) = none
peek_edge t (call.Entry node) = none
peek_edge t (call.Finish prop host) = none
peek_edge t (call.Node name what) = none
peek_edge t (call.Edge (edge.Key bytes number) target) = none
peek_edge t (call.Edge (edge.Peek byte) target) = Some (record { byte = byte; target = place_of t.nodes target })
peek_edge t (call.Edge (edge.Answer number) target) = none
peek_edge t (call.Edge (edge.Otherwise skip) target) = none

abbrev pub answer_edge : Tables → BuilderCall → Option Answer
answer_edge t (call.Prop name width) = none
answer_edge t (call.Host name value) = none
answer_edge t (call.Span name) = none
answer_edge t (call.Entry node) = none
answer_edge t (call.Finish prop host) = none
answer_edge t (call.Node name what) = none
answer_edge t (call.Edge (edge.Key bytes number) target) = none
answer_edge t (call.Edge (edge.Peek byte) target) = none
answer_edge t (call.Edge (edge.Answer number) target) = Some (record { number = number; target = place_of t.nodes target })
answer_edge t (call.Edge (edge.Otherwise skip) target) = none

abbrev pub other_edge : Tables → BuilderCall → Option Other
other_edge t (call.Prop name width) = none
other_edge t (call.Host name value) = none
other_edge t (call.Span name) = none
other_edge t (call.Entry node) = none
other_edge t (call.Finish prop host) = none
other_edge t (call.Node name what) = none
other_edge t (call.Edge (edge.Key bytes number) target) = none
other_edge t (call.Edge (edge.Peek byte) target) = none
other_edge t (call.Edge (edge.Answer number) target) = none
other_edge t (call.Edge (edge.Otherwise skip) target) = Some (record { skip = skip; target = place_of t.nodes target })

-- the first of some options that is there
abbrev pub first_of : {X : Type 0} → List X → Option X
first_of [] = none
first_of (x ∷ xs) = Some x

-- the otherwise among the calls that belong to a node; without one there is no graph, and then this says nothing
abbrev pub other_in : Tables → List BuilderCall → Other
other_in t own = unwrap_or (first_of (filter_map (other_edge t) own)) (record { skip = false; target = 0 })

-- a node's kind, with the calls that belong to it
abbrev pub kind_of : Tables → NamedKind → List BuilderCall → Kind
kind_of t (kind.Match fold) own = placed.Match fold (filter_map (key_edge t) own) (filter_map (peek_edge t) own) (other_in t own)
kind_of t (kind.Invoke what) own = placed.Invoke (code_of t what) (filter_map (answer_edge t) own) (other_in t own).target
kind_of t (kind.Consume prop) own = placed.Consume (place_of t.prop_names prop) (other_in t own).target
kind_of t (kind.SpanOpen span) own = placed.SpanOpen (place_of t.spans span) (other_in t own).target
kind_of t (kind.SpanClose span) own = placed.SpanClose (place_of t.spans span) (other_in t own).target
kind_of t (kind.Pause number reason) own = placed.Pause number reason (other_in t own).target
kind_of t (kind.Fail number reason) own = placed.Fail number reason

-- the nodes in order, each with the calls that belong to it
abbrev pub nodes_in : Tables → List BuilderCall → List Node
nodes_in t [] = []
nodes_in t (call.Prop name width ∷ calls) = nodes_in t calls
nodes_in t (call.Host name value ∷ calls) = nodes_in t calls
nodes_in t (call.Span name ∷ calls) = nodes_in t calls
nodes_in t (call.Entry node ∷ calls) = nodes_in t calls
nodes_in t (call.Finish prop host ∷ calls) = nodes_in t calls
nodes_in t (call.Node name what ∷ calls) = record { name = name; kind = kind_of t what (own_calls calls) } ∷ nodes_in t calls
nodes_in t (call.Edge when target ∷ calls) = nodes_in t calls

abbrev pub entry_node : Tables → BuilderCall → Option ℕ
entry_node t (call.Prop name width) = none
entry_node t (call.Host name value) = none
entry_node t (call.Span name) = none
entry_node t (call.Entry node) = Some (place_of t.nodes node)
entry_node t (call.Finish prop host) = none
entry_node t (call.Node name what) = none
entry_node t (call.Edge when target) = none

abbrev pub finish_places : Tables → BuilderCall → Option (ℕ × ℕ)
finish_places t (call.Prop name width) = none
finish_places t (call.Host name value) = none
finish_places t (call.Span name) = none
finish_places t (call.Entry node) = none
finish_places t (call.Finish prop host) = Some (place_of t.prop_names prop, place_of t.hosts host)
finish_places t (call.Node name what) = none
finish_places t (call.Edge when target) = none

abbrev pub entry_in : Tables → List BuilderCall → ℕ
entry_in t calls = unwrap_or (first_of (filter_map (entry_node t) calls)) 0

abbrev pub finish_in : Tables → List BuilderCall → Option (ℕ × ℕ)
finish_in t calls = first_of (filter_map (finish_places t) calls)

-- the graph with these declarations in order
abbrev pub built_by : Tables → List BuilderCall → Plan
built_by t calls = record {
  props = t.props;
  hosts = filter_map host_decl calls;
  spans = filter_map span_decl calls;
  nodes = nodes_in t calls;
  entry = entry_in t calls;
  finish = finish_in t calls;
}

abbrev pub built : List BuilderCall → Plan
built calls = built_by (tables_of calls) calls
