-- The rules on the form of a key: empty key, key not folded.
use Rattle.std.specs.Prelude.{List, [], ◌∷◌, Option, Some, None, Bool, true, false, ◌&&◌, fold}
use Rattle.std.specs.List.{list_any}
use Rattle.pp_rules.specs.declared.call.NamedKind.{NamedKind}
use Rattle.pp_rules.specs.declared.call.NamedKind.TheVariants as kind
use Rattle.pp_rules.specs.declared.call.NamedEdge.{NamedEdge}
use Rattle.pp_rules.specs.declared.call.NamedEdge.TheVariants as edge
use Rattle.pp_rules.specs.declared.call.BuilderCall.{BuilderCall}
use Rattle.pp_rules.specs.declared.call.BuilderCall.TheVariants as call
use Rattle.pp_bytes.specs.declared.fold.Fold.TheVariants.{Same, Lower}
use Rattle.pp_rules.specs.Keys.{is_upper_case}
use Rattle.pp_rules.specs.Edges.{edge_of}

-- Empty key.
abbrev pub is_empty_key : Option NamedEdge → Bool
is_empty_key None = false
is_empty_key (Some (edge.Key [] number)) = true
is_empty_key (Some (edge.Key (b ∷ bytes) number)) = false
is_empty_key (Some (edge.Peek byte)) = false
is_empty_key (Some (edge.Answer number)) = false
is_empty_key (Some (edge.Otherwise skip)) = false

-- whether the node that was added last compares bytes in lower case
abbrev pub lower_kind : NamedKind → Bool
lower_kind (kind.Match Same) = false
lower_kind (kind.Match Lower) = true
lower_kind (kind.Invoke what) = false
lower_kind (kind.Consume prop) = false
lower_kind (kind.SpanOpen span) = false
lower_kind (kind.SpanClose span) = false
lower_kind (kind.Pause number reason) = false
lower_kind (kind.Fail number reason) = false

abbrev pub lower_after : Bool → BuilderCall → Bool
lower_after lower (call.Prop name width) = lower
lower_after lower (call.Host name value) = lower
lower_after lower (call.Span name) = lower
lower_after lower (call.Entry node) = lower
lower_after lower (call.Finish prop host) = lower
lower_after lower (call.Node name what) = lower_kind what
lower_after lower (call.Edge when target) = lower

abbrev pub is_lower : List BuilderCall → Bool
is_lower calls = fold lower_after false calls

abbrev pub has_upper_case : Option NamedEdge → Bool
has_upper_case None = false
has_upper_case (Some (edge.Key bytes number)) = list_any is_upper_case bytes
has_upper_case (Some (edge.Peek byte)) = is_upper_case byte
has_upper_case (Some (edge.Answer number)) = false
has_upper_case (Some (edge.Otherwise skip)) = false

-- Key not folded: a key or a peek byte from A to Z in a node that compares in lower case.
abbrev pub is_not_folded : List BuilderCall → BuilderCall → Bool
is_not_folded before c = is_lower before && has_upper_case (edge_of c)
