-- The calls of a builder: their form, the node that was added last, and which call may follow.
use Rattle.std.specs.Prelude.{if◌then◌else◌, ℕ, ◌≡◌, ◌^◌, ◌<◌, List, Some, Bool, true, false, length, slice_get, fold}
use Rattle.pp_rules.specs.declared.call.NamedCode.{NamedCode}
use Rattle.pp_rules.specs.declared.call.NamedCode.TheVariants as code
use Rattle.pp_rules.specs.declared.call.NamedKind.{NamedKind}
use Rattle.pp_rules.specs.declared.call.NamedKind.TheVariants as kind
use Rattle.pp_rules.specs.declared.call.NamedEdge.{NamedEdge}
use Rattle.pp_rules.specs.declared.call.NamedEdge.TheVariants as edge
use Rattle.pp_rules.specs.declared.call.BuilderCall.{BuilderCall}
use Rattle.pp_rules.specs.declared.call.BuilderCall.TheVariants as call
use Rattle.pp_graph.specs.declared.call.CodeText.{CodeText}
use Rattle.pp_graph.specs.declared.call.CodeText.TheVariants as code_text
use Rattle.pp_graph.specs.declared.call.KindText.{KindText}
use Rattle.pp_graph.specs.declared.call.KindText.TheVariants as kind_text
use Rattle.pp_rules.specs.declared.call.Constant.TheVariants as constant
use Rattle.pp_graph.specs.declared.builder.LastNode.{LastNode}
use Rattle.pp_graph.specs.declared.builder.LastNode.TheVariants as last
use Rattle.pp_rules.specs.Names.{IsName, IsReason}
use Rattle.pp_rules.specs.Calls.{is_otherwise_edge}

-- a kind as a builder keeps it
abbrev pub named_code : CodeText → NamedCode
named_code (code_text.Call host) = code.Call host.now
named_code (code_text.Store prop) = code.Store prop.now
named_code (code_text.Load prop) = code.Load prop.now
named_code (code_text.Update prop value) = code.Constant constant.Update prop.now value
named_code (code_text.Equal prop value) = code.Constant constant.Equal prop.now value
named_code (code_text.And prop value) = code.Constant constant.And prop.now value
named_code (code_text.Or prop value) = code.Constant constant.Or prop.now value
named_code (code_text.Test prop value) = code.Constant constant.Test prop.now value
named_code (code_text.MulAdd prop base most) = code.MulAdd prop.now base most

abbrev pub named_kind : KindText → NamedKind
named_kind (kind_text.Match fold) = kind.Match fold
named_kind (kind_text.Invoke what) = kind.Invoke (named_code what)
named_kind (kind_text.Consume prop) = kind.Consume prop.now
named_kind (kind_text.SpanOpen span) = kind.SpanOpen span.now
named_kind (kind_text.SpanClose span) = kind.SpanClose span.now
named_kind (kind_text.Pause number reason) = kind.Pause number reason.now
named_kind (kind_text.Fail number reason) = kind.Fail number reason.now

-- the names and the reason of a kind have their form
abbrev pub CodeHasForm : NamedCode → Type 0
CodeHasForm (code.Call host) = IsName host
CodeHasForm (code.Store prop) = IsName prop
CodeHasForm (code.Load prop) = IsName prop
CodeHasForm (code.Constant what prop value) = IsName prop
CodeHasForm (code.MulAdd prop base most) = IsName prop

abbrev pub KindHasForm : NamedKind → Type 0
KindHasForm (kind.Match fold) = Unit {0}
KindHasForm (kind.Invoke what) = CodeHasForm what
KindHasForm (kind.Consume prop) = IsName prop
KindHasForm (kind.SpanOpen span) = IsName span
KindHasForm (kind.SpanClose span) = IsName span
KindHasForm (kind.Pause number reason) = IsReason reason
KindHasForm (kind.Fail number reason) = IsReason reason

-- the names and the reason of a call have their form
abbrev pub HasForm : BuilderCall → Type 0
HasForm (call.Prop name width) = IsName name
HasForm (call.Host name value) = IsName name
HasForm (call.Span name) = IsName name
HasForm (call.Entry node) = IsName node
HasForm (call.Finish prop host) = IsName prop × IsName host
HasForm (call.Node name what) = IsName name × KindHasForm what
HasForm (call.Edge when target) = IsName target

abbrev pub HaveForm : List BuilderCall → Type 0
HaveForm calls = (i : ℕ) (c : BuilderCall) → slice_get calls i ≡ Some c → HasForm c

-- what a node is to the edges behind it
abbrev pub last_of : NamedKind → LastNode
last_of (kind.Match fold) = last.Match
last_of (kind.Invoke what) = last.Invoke
last_of (kind.Consume prop) = last.Other
last_of (kind.SpanOpen span) = last.Other
last_of (kind.SpanClose span) = last.Other
last_of (kind.Pause number reason) = last.Other
last_of (kind.Fail number reason) = last.Fail

abbrev pub last_after : LastNode → BuilderCall → LastNode
last_after before (call.Prop name width) = before
last_after before (call.Host name value) = before
last_after before (call.Span name) = before
last_after before (call.Entry name) = before
last_after before (call.Finish prop host) = before
last_after before (call.Node name what) = last_of what
last_after before (call.Edge when target) = before

-- the node that was added last
abbrev pub last_node : List BuilderCall → LastNode
last_node calls = fold last_after last.None calls

abbrev pub otherwise_after : Bool → BuilderCall → Bool
otherwise_after has (call.Prop name width) = has
otherwise_after has (call.Host name value) = has
otherwise_after has (call.Span name) = has
otherwise_after has (call.Entry name) = has
otherwise_after has (call.Finish prop host) = has
otherwise_after has (call.Node name what) = false
otherwise_after has (call.Edge when target) = if is_otherwise_edge when then true else has

-- whether the node that was added last has an otherwise
abbrev pub has_otherwise : List BuilderCall → Bool
has_otherwise calls = fold otherwise_after false calls

-- an otherwise may follow any node but an error, and a skip a match node alone
abbrev pub TakesOtherwise : LastNode → Bool → Type 0
TakesOtherwise last.None skip = ⊥
TakesOtherwise last.Match skip = Unit {0}
TakesOtherwise last.Invoke skip = skip ≡ false
TakesOtherwise last.Other skip = skip ≡ false
TakesOtherwise last.Fail skip = ⊥

-- keys and peeks follow a match node, answers an invoke node
abbrev pub EdgeMayFollow : List BuilderCall → NamedEdge → Type 0
EdgeMayFollow before (edge.Key bytes number) = last_node before ≡ last.Match
EdgeMayFollow before (edge.Peek byte) = last_node before ≡ last.Match
EdgeMayFollow before (edge.Answer number) = last_node before ≡ last.Invoke
EdgeMayFollow before (edge.Otherwise skip) = TakesOtherwise (last_node before) skip × (has_otherwise before ≡ false)

-- a call may follow these
abbrev pub MayFollow : List BuilderCall → BuilderCall → Type 0
MayFollow before (call.Prop name width) = Unit {0}
MayFollow before (call.Host name value) = Unit {0}
MayFollow before (call.Span name) = Unit {0}
MayFollow before (call.Entry name) = Unit {0}
MayFollow before (call.Finish prop host) = Unit {0}
MayFollow before (call.Node name what) = Unit {0}
MayFollow before (call.Edge when target) = EdgeMayFollow before when

-- what a builder keeps: calls in form, fewer than 2^32 of them, and what it knows of the last node
pub record IsRecord (calls : List BuilderCall) (before : LastNode) (closed : Bool) : Type 0 where
  pub forms : HaveForm calls
  pub few : length calls < 2 ^ 32
  pub knows_last : before ≡ last_node calls
  pub knows_otherwise : closed ≡ has_otherwise calls
