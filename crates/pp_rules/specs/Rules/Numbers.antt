-- The rules on the numbers that edges carry and on the widths of properties: value target, value too wide.
use Rattle.std.specs.Prelude.{ℕ, List, Option, Some, None, Bool, true, false, ◌&&◌, ◌||◌, not, bytes_eq, nat_lt, fold}
use Rattle.std.specs.List.{list_any}
use Rattle.pp_rules.specs.declared.call.NamedCode.{NamedCode}
use Rattle.pp_rules.specs.declared.call.NamedCode.TheVariants as code
use Rattle.pp_rules.specs.declared.call.NamedKind.{NamedKind}
use Rattle.pp_rules.specs.declared.call.NamedKind.TheVariants as kind
use Rattle.pp_rules.specs.declared.call.NamedEdge.{NamedEdge}
use Rattle.pp_rules.specs.declared.call.NamedEdge.TheVariants as edge
use Rattle.pp_rules.specs.declared.call.BuilderCall.{BuilderCall}
use Rattle.pp_rules.specs.declared.call.BuilderCall.TheVariants as call
use Rattle.pp_rules.specs.Widths.{greatest}
use Rattle.pp_rules.specs.Declarations.{tables_of, greatest_of}

-- the call declares a host of this name that is asked with a value
abbrev pub declares_value_host : List ℕ → BuilderCall → Bool
declares_value_host name (call.Prop other width) = false
declares_value_host name (call.Host other value) = bytes_eq other name && value
declares_value_host name (call.Span other) = false
declares_value_host name (call.Entry node) = false
declares_value_host name (call.Finish prop host) = false
declares_value_host name (call.Node node what) = false
declares_value_host name (call.Edge when target) = false

abbrev pub is_value_host : List BuilderCall → List ℕ → Bool
is_value_host all host = list_any (declares_value_host host) all

-- a code of signature value: it uses the carried number
abbrev pub code_takes_value : List BuilderCall → NamedCode → Bool
code_takes_value all (code.Call host) = is_value_host all host
code_takes_value all (code.Store prop) = true
code_takes_value all (code.Load prop) = false
code_takes_value all (code.Constant what prop value) = false
code_takes_value all (code.MulAdd prop base most) = true

abbrev pub kind_takes_value : List BuilderCall → NamedKind → Bool
kind_takes_value all (kind.Match fold) = false
kind_takes_value all (kind.Invoke what) = code_takes_value all what
kind_takes_value all (kind.Consume prop) = false
kind_takes_value all (kind.SpanOpen span) = false
kind_takes_value all (kind.SpanClose span) = false
kind_takes_value all (kind.Pause number reason) = false
kind_takes_value all (kind.Fail number reason) = false

-- the call adds a node of this name that is an invoke of signature value
abbrev pub adds_value_node : List BuilderCall → List ℕ → BuilderCall → Bool
adds_value_node all name (call.Prop other width) = false
adds_value_node all name (call.Host other value) = false
adds_value_node all name (call.Span other) = false
adds_value_node all name (call.Entry node) = false
adds_value_node all name (call.Finish prop host) = false
adds_value_node all name (call.Node other what) = bytes_eq other name && kind_takes_value all what
adds_value_node all name (call.Edge when target) = false

abbrev pub is_value_node : List BuilderCall → List ℕ → Bool
is_value_node all node = list_any (adds_value_node all node) all

-- an edge carries a number
abbrev pub carries_number : NamedEdge → Bool
carries_number (edge.Key bytes None) = false
carries_number (edge.Key bytes (Some number)) = true
carries_number (edge.Peek byte) = false
carries_number (edge.Answer number) = false
carries_number (edge.Otherwise skip) = false

-- Value target: an edge with a number to a node that isn't an invoke of signature value; an edge without one, or the
-- entry, to such a node; a finish host of signature value.
abbrev pub is_value_fault : List BuilderCall → BuilderCall → Bool
is_value_fault all (call.Prop name width) = false
is_value_fault all (call.Host name value) = false
is_value_fault all (call.Span name) = false
is_value_fault all (call.Entry node) = is_value_node all node
is_value_fault all (call.Finish prop host) = is_value_host all host
is_value_fault all (call.Node name what) = false
is_value_fault all (call.Edge when target) = not (carries_number when) && is_value_node all target || carries_number when && not (is_value_node all target)

-- a constant or a most that the property is too narrow for
abbrev pub is_wide_most : ℕ → Option ℕ → Bool
is_wide_most greatest None = false
is_wide_most greatest (Some most) = nat_lt greatest most

abbrev pub is_wide_code : List BuilderCall → NamedCode → Bool
is_wide_code all (code.Call host) = false
is_wide_code all (code.Store prop) = false
is_wide_code all (code.Load prop) = false
is_wide_code all (code.Constant what prop value) = nat_lt (greatest_of (tables_of all) prop) value
is_wide_code all (code.MulAdd prop base most) = is_wide_most (greatest_of (tables_of all) prop) most

abbrev pub is_wide_kind : List BuilderCall → NamedKind → Bool
is_wide_kind all (kind.Match fold) = false
is_wide_kind all (kind.Invoke what) = is_wide_code all what
is_wide_kind all (kind.Consume prop) = false
is_wide_kind all (kind.SpanOpen span) = false
is_wide_kind all (kind.SpanClose span) = false
is_wide_kind all (kind.Pause number reason) = false
is_wide_kind all (kind.Fail number reason) = false

-- the call adds a node of this name that stores into a property which is too narrow for the number
abbrev pub stores_narrow : List BuilderCall → List ℕ → ℕ → BuilderCall → Bool
stores_narrow all name number (call.Prop other width) = false
stores_narrow all name number (call.Host other value) = false
stores_narrow all name number (call.Span other) = false
stores_narrow all name number (call.Entry node) = false
stores_narrow all name number (call.Finish prop host) = false
stores_narrow all name number (call.Node other (kind.Match fold)) = false
stores_narrow all name number (call.Node other (kind.Invoke (code.Call host))) = false
stores_narrow all name number (call.Node other (kind.Invoke (code.Store prop))) = bytes_eq other name && nat_lt (greatest_of (tables_of all) prop) number
stores_narrow all name number (call.Node other (kind.Invoke (code.Load prop))) = false
stores_narrow all name number (call.Node other (kind.Invoke (code.Constant what prop value))) = false
stores_narrow all name number (call.Node other (kind.Invoke (code.MulAdd prop base most))) = false
stores_narrow all name number (call.Node other (kind.Consume prop)) = false
stores_narrow all name number (call.Node other (kind.SpanOpen span)) = false
stores_narrow all name number (call.Node other (kind.SpanClose span)) = false
stores_narrow all name number (call.Node other (kind.Pause code reason)) = false
stores_narrow all name number (call.Node other (kind.Fail code reason)) = false
stores_narrow all name number (call.Edge when target) = false

abbrev pub is_wide_edge : List BuilderCall → NamedEdge → List ℕ → Bool
is_wide_edge all (edge.Key bytes None) target = false
is_wide_edge all (edge.Key bytes (Some number)) target = list_any (stores_narrow all target number) all
is_wide_edge all (edge.Peek byte) target = false
is_wide_edge all (edge.Answer number) target = false
is_wide_edge all (edge.Otherwise skip) target = false

-- Value too wide: a constant or a most wider than its property; a number that an edge carries wider than the property
-- that its target stores.
abbrev pub is_too_wide : List BuilderCall → BuilderCall → Bool
is_too_wide all (call.Prop name width) = false
is_too_wide all (call.Host name value) = false
is_too_wide all (call.Span name) = false
is_too_wide all (call.Entry node) = false
is_too_wide all (call.Finish prop host) = false
is_too_wide all (call.Node name what) = is_wide_kind all what
is_too_wide all (call.Edge when target) = is_wide_edge all when target
