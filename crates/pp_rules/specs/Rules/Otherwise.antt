-- The rule on the otherwise of a node: no otherwise.
use Rattle.std.specs.Prelude.{List, Bool, true, false, ◌&&◌, not, fold}
use Rattle.std.specs.List.{list_any}
use Rattle.pp_rules.specs.declared.call.NamedKind.{NamedKind}
use Rattle.pp_rules.specs.declared.call.NamedKind.TheVariants as kind
use Rattle.pp_rules.specs.declared.call.BuilderCall.{BuilderCall}
use Rattle.pp_rules.specs.declared.call.BuilderCall.TheVariants as call
use Rattle.pp_rules.specs.Calls.{own_calls, is_otherwise_edge}

abbrev pub is_otherwise : BuilderCall → Bool
is_otherwise (call.Prop name width) = false
is_otherwise (call.Host name value) = false
is_otherwise (call.Span name) = false
is_otherwise (call.Entry node) = false
is_otherwise (call.Finish prop host) = false
is_otherwise (call.Node name what) = false
is_otherwise (call.Edge when target) = is_otherwise_edge when

-- No otherwise: a node other than an error, and none of the calls that belong to it is an otherwise.
abbrev pub needs_otherwise : NamedKind → Bool
needs_otherwise (kind.Match fold) = true
needs_otherwise (kind.Invoke what) = true
needs_otherwise (kind.Consume prop) = true
needs_otherwise (kind.SpanOpen span) = true
needs_otherwise (kind.SpanClose span) = true
needs_otherwise (kind.Pause number reason) = true
needs_otherwise (kind.Fail number reason) = false

abbrev pub lacks_otherwise : BuilderCall → List BuilderCall → Bool
lacks_otherwise (call.Prop name width) after = false
lacks_otherwise (call.Host name value) after = false
lacks_otherwise (call.Span name) after = false
lacks_otherwise (call.Entry node) after = false
lacks_otherwise (call.Finish prop host) after = false
lacks_otherwise (call.Node name what) after = needs_otherwise what && not (list_any is_otherwise (own_calls after))
lacks_otherwise (call.Edge when target) after = false
