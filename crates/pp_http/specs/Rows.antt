-- The calls that a row of the table stands for.
use Rattle.std.specs.Prelude.{ℕ, List, [], ◌∷◌, Some, map, Bool, true, false, ◌&&◌, not}
use Rattle.std.specs.Prelude.{None as none}
use Rattle.pp_rules.specs.declared.call.BuilderCall.{BuilderCall}
use Rattle.pp_rules.specs.declared.call.BuilderCall.TheVariants as call
use Rattle.pp_rules.specs.declared.call.NamedEdge.TheVariants as edge
use Rattle.pp_bytes.specs.declared.fold.Fold.TheVariants.{Same, Lower}
use Rattle.pp_rules.specs.declared.call.Constant.TheVariants as constant
use Rattle.pp_rules.specs.declared.call.NamedCode.{NamedCode}
use Rattle.pp_rules.specs.declared.call.NamedCode.TheVariants as code
use Rattle.pp_rules.specs.declared.call.NamedKind.{NamedKind}
use Rattle.pp_rules.specs.declared.call.NamedKind.TheVariants as kind
use Rattle.pp_graph.specs.declared.builder.LastNode.{LastNode}
use Rattle.pp_graph.specs.declared.builder.LastNode.TheVariants as last
use Rattle.pp_rules.specs.Names.{is_name, is_reason}
use Rattle.pp_graph.specs.Calls.{last_of}
use Rattle.pp_http.specs.ByteSets.{ends, blanks, marks, list_bytes, token_bytes, value_bytes, value_bytes_no_comma, plain_value_bytes, target_bytes, every_byte}
use Rattle.pp_http.specs.declared.row.Bytes.{Bytes}
use Rattle.pp_http.specs.declared.row.Bytes.TheVariants as sets
use Rattle.pp_http.specs.declared.row.NodeKind.{NodeKind}
use Rattle.pp_http.specs.declared.row.NodeKind.TheVariants as node_kind
use Rattle.pp_http.specs.declared.row.Row.{Row}
use Rattle.pp_http.specs.declared.row.Row.TheVariants as row

-- the bytes of a set, ascending
abbrev pub bytes_in : Bytes → List ℕ
bytes_in sets.Ends = ends
bytes_in sets.Blanks = blanks
bytes_in sets.Marks = marks
bytes_in sets.List = list_bytes
bytes_in sets.Token = token_bytes
bytes_in sets.Value = value_bytes
bytes_in sets.ValueNoComma = value_bytes_no_comma
bytes_in sets.PlainValue = plain_value_bytes
bytes_in sets.Target = target_bytes
bytes_in sets.Every = every_byte

-- the kind of a node, as a call has it
abbrev pub kind_named : NodeKind → NamedKind
kind_named node_kind.Match = kind.Match Same
kind_named node_kind.Lower = kind.Match Lower
kind_named (node_kind.Call host) = kind.Invoke (code.Call host.now)
kind_named (node_kind.Store prop) = kind.Invoke (code.Store prop.now)
kind_named (node_kind.Load prop) = kind.Invoke (code.Load prop.now)
kind_named (node_kind.Update prop value) = kind.Invoke (code.Constant constant.Update prop.now value)
kind_named (node_kind.Equal prop value) = kind.Invoke (code.Constant constant.Equal prop.now value)
kind_named (node_kind.And prop value) = kind.Invoke (code.Constant constant.And prop.now value)
kind_named (node_kind.Or prop value) = kind.Invoke (code.Constant constant.Or prop.now value)
kind_named (node_kind.Test prop value) = kind.Invoke (code.Constant constant.Test prop.now value)
kind_named (node_kind.MulAdd prop base) = kind.Invoke (code.MulAdd prop.now base none)
kind_named (node_kind.Consume prop) = kind.Consume prop.now
kind_named (node_kind.Open span) = kind.SpanOpen span.now
kind_named (node_kind.Close span) = kind.SpanClose span.now
kind_named (node_kind.Pause number reason) = kind.Pause number reason.now
kind_named (node_kind.Fail number reason) = kind.Fail number reason.now

-- the calls of a row
abbrev pub row_calls : Row → List BuilderCall
row_calls (row.Prop name width) = call.Prop name.now width ∷ []
row_calls (row.Host name) = call.Host name.now false ∷ []
row_calls (row.Span name) = call.Span name.now ∷ []
row_calls (row.Entry name) = call.Entry name.now ∷ []
row_calls (row.Finish prop host) = call.Finish prop.now host.now ∷ []
row_calls (row.Node name what) = call.Node name.now (kind_named what) ∷ []
row_calls (row.On key target) = call.Edge (edge.Key key.now none) target.now ∷ []
row_calls (row.Select key number target) = call.Edge (edge.Key key.now (Some number)) target.now ∷ []
row_calls (row.OnAny bytes target) = map (λ b. call.Edge (edge.Key (b ∷ []) none) target.now) (bytes_in bytes)
row_calls (row.Peek byte target) = call.Edge (edge.Peek byte) target.now ∷ []
row_calls (row.PeekAny bytes target) = map (λ b. call.Edge (edge.Peek b) target.now) (bytes_in bytes)
row_calls (row.Is answer target) = call.Edge (edge.Answer answer) target.now ∷ []
row_calls (row.Otherwise target) = call.Edge (edge.Otherwise false) target.now ∷ []
row_calls (row.Skip target) = call.Edge (edge.Otherwise true) target.now ∷ []

-- the names and the reason of a kind have their form
abbrev pub code_has_form : NamedCode → Bool
code_has_form (code.Call host) = is_name host
code_has_form (code.Store prop) = is_name prop
code_has_form (code.Load prop) = is_name prop
code_has_form (code.Constant what prop value) = is_name prop
code_has_form (code.MulAdd prop base most) = is_name prop

abbrev pub kind_has_form : NamedKind → Bool
kind_has_form (kind.Match fold) = true
kind_has_form (kind.Invoke what) = code_has_form what
kind_has_form (kind.Consume prop) = is_name prop
kind_has_form (kind.SpanOpen span) = is_name span
kind_has_form (kind.SpanClose span) = is_name span
kind_has_form (kind.Pause number reason) = is_reason reason
kind_has_form (kind.Fail number reason) = is_reason reason

-- a node of this sort may have keys and peeks
abbrev pub takes_keys : LastNode → Bool
takes_keys last.Match = true
takes_keys last.None = false
takes_keys last.Invoke = false
takes_keys last.Other = false
takes_keys last.Fail = false

-- answers
abbrev pub takes_answers : LastNode → Bool
takes_answers last.Invoke = true
takes_answers last.Match = false
takes_answers last.None = false
takes_answers last.Other = false
takes_answers last.Fail = false

-- an otherwise that takes no byte
abbrev pub takes_otherwise : LastNode → Bool
takes_otherwise last.Match = true
takes_otherwise last.Invoke = true
takes_otherwise last.Other = true
takes_otherwise last.None = false
takes_otherwise last.Fail = false

-- a row may follow, behind such a node, which has an otherwise or not
abbrev pub row_fits : LastNode → Bool → Row → Bool
row_fits before closed (row.Prop name width) = is_name name.now
row_fits before closed (row.Host name) = is_name name.now
row_fits before closed (row.Span name) = is_name name.now
row_fits before closed (row.Entry name) = is_name name.now
row_fits before closed (row.Finish prop host) = is_name prop.now && is_name host.now
row_fits before closed (row.Node name what) = is_name name.now && kind_has_form (kind_named what)
row_fits before closed (row.On key target) = is_name target.now && takes_keys before
row_fits before closed (row.Select key number target) = is_name target.now && takes_keys before
row_fits before closed (row.OnAny bytes target) = is_name target.now && takes_keys before
row_fits before closed (row.Peek byte target) = is_name target.now && takes_keys before
row_fits before closed (row.PeekAny bytes target) = is_name target.now && takes_keys before
row_fits before closed (row.Is answer target) = is_name target.now && takes_answers before
row_fits before closed (row.Otherwise target) = is_name target.now && (takes_otherwise before && not closed)
row_fits before closed (row.Skip target) = is_name target.now && (takes_keys before && not closed)

-- what the node that was added last is, behind a row
abbrev pub last_behind : LastNode → Row → LastNode
last_behind was (row.Prop name width) = was
last_behind was (row.Host name) = was
last_behind was (row.Span name) = was
last_behind was (row.Entry name) = was
last_behind was (row.Finish prop host) = was
last_behind was (row.Node name what) = last_of (kind_named what)
last_behind was (row.On key target) = was
last_behind was (row.Select key number target) = was
last_behind was (row.OnAny bytes target) = was
last_behind was (row.Peek byte target) = was
last_behind was (row.PeekAny bytes target) = was
last_behind was (row.Is answer target) = was
last_behind was (row.Otherwise target) = was
last_behind was (row.Skip target) = was

-- whether it has an otherwise
abbrev pub closed_behind : Bool → Row → Bool
closed_behind was (row.Prop name width) = was
closed_behind was (row.Host name) = was
closed_behind was (row.Span name) = was
closed_behind was (row.Entry name) = was
closed_behind was (row.Finish prop host) = was
closed_behind was (row.Node name what) = false
closed_behind was (row.On key target) = was
closed_behind was (row.Select key number target) = was
closed_behind was (row.OnAny bytes target) = was
closed_behind was (row.Peek byte target) = was
closed_behind was (row.PeekAny bytes target) = was
closed_behind was (row.Is answer target) = was
closed_behind was (row.Otherwise target) = true
closed_behind was (row.Skip target) = true

-- these rows may follow, each behind those before it
abbrev pub rows_fit : LastNode → Bool → List Row → Bool
rows_fit before closed [] = true
rows_fit before closed (r ∷ rows) = row_fits before closed r && rows_fit (last_behind before r) (closed_behind closed r) rows
