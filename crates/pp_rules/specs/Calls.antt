-- The calls of a builder: what they declare and name, and those that belong to a node.
use Rattle.std.specs.Prelude.{if◌then◌else◌, ℕ, List, [], ◌∷◌, ◌++◌, Option, Some, Bool, true, false, ◌&&◌, bytes_eq, fold, filter_map}
use Rattle.std.specs.Prelude.{None as none}
use Rattle.std.specs.List.{list_any}
use Rattle.pp_rules.specs.declared.call.NamedCode.{NamedCode}
use Rattle.pp_rules.specs.declared.call.NamedCode.TheVariants as code
use Rattle.pp_rules.specs.declared.call.NamedKind.{NamedKind}
use Rattle.pp_rules.specs.declared.call.NamedKind.TheVariants as kind
use Rattle.pp_rules.specs.declared.call.NamedEdge.{NamedEdge}
use Rattle.pp_rules.specs.declared.call.NamedEdge.TheVariants as edge
use Rattle.pp_rules.specs.declared.call.BuilderCall.{BuilderCall}
use Rattle.pp_rules.specs.declared.call.BuilderCall.TheVariants as call
use Rattle.pp_rules.specs.declared.call.Sort.{Sort}
use Rattle.pp_rules.specs.declared.call.Sort.TheVariants as sort

-- what a call declares. The entry and the finish rule are declared under the empty name.
abbrev pub declared_by : BuilderCall → Option (Sort × List ℕ)
declared_by (call.Prop name width) = Some (sort.Prop, name)
declared_by (call.Host name value) = Some (sort.Host, name)
declared_by (call.Span name) = Some (sort.Span, name)
declared_by (call.Entry node) = Some (sort.Entry, [])
declared_by (call.Finish prop host) = Some (sort.Finish, [])
declared_by (call.Node name what) = Some (sort.Node, name)
declared_by (call.Edge when target) = none

-- what a call names that has to be declared
abbrev pub named_by_code : NamedCode → Sort × List ℕ
named_by_code (code.Call host) = (sort.Host, host)
named_by_code (code.Store prop) = (sort.Prop, prop)
named_by_code (code.Load prop) = (sort.Prop, prop)
named_by_code (code.Constant what prop value) = (sort.Prop, prop)
named_by_code (code.MulAdd prop base most) = (sort.Prop, prop)

abbrev pub named_by_kind : NamedKind → List (Sort × List ℕ)
named_by_kind (kind.Match fold) = []
named_by_kind (kind.Invoke what) = named_by_code what ∷ []
named_by_kind (kind.Consume prop) = (sort.Prop, prop) ∷ []
named_by_kind (kind.SpanOpen span) = (sort.Span, span) ∷ []
named_by_kind (kind.SpanClose span) = (sort.Span, span) ∷ []
named_by_kind (kind.Pause number reason) = []
named_by_kind (kind.Fail number reason) = []

abbrev pub named_by : BuilderCall → List (Sort × List ℕ)
named_by (call.Prop name width) = []
named_by (call.Host name value) = []
named_by (call.Span name) = []
named_by (call.Entry node) = (sort.Node, node) ∷ []
named_by (call.Finish prop host) = (sort.Prop, prop) ∷ (sort.Host, host) ∷ []
named_by (call.Node name what) = named_by_kind what
named_by (call.Edge when target) = (sort.Node, target) ∷ []

abbrev pub same_sort : Sort → Sort → Bool
same_sort sort.Prop sort.Prop = true
same_sort sort.Host sort.Host = true
same_sort sort.Span sort.Span = true
same_sort sort.Node sort.Node = true
same_sort sort.Entry sort.Entry = true
same_sort sort.Finish sort.Finish = true
same_sort a b = false

-- the call declares this name of this sort
abbrev pub is_declared_by : Sort → List ℕ → Option (Sort × List ℕ) → Bool
is_declared_by s name none = false
is_declared_by s name (Some d) = same_sort d.0 s && bytes_eq d.1 name

-- some call declares this name of this sort
abbrev pub is_declared : List BuilderCall → Sort × List ℕ → Bool
is_declared calls named = list_any (λ c. is_declared_by named.0 named.1 (declared_by c)) calls

-- the names of a sort, in the order of their declarations
abbrev pub name_if : Sort → Option (Sort × List ℕ) → Option (List ℕ)
name_if s none = none
name_if s (Some d) = if same_sort d.0 s then Some d.1 else none

abbrev pub names_of : Sort → List BuilderCall → List (List ℕ)
names_of s calls = filter_map (λ c. name_if s (declared_by c)) calls

abbrev pub is_node : BuilderCall → Bool
is_node (call.Prop name width) = false
is_node (call.Host name value) = false
is_node (call.Span name) = false
is_node (call.Entry node) = false
is_node (call.Finish prop host) = false
is_node (call.Node name what) = true
is_node (call.Edge when target) = false

-- the calls that belong to a node, of those behind it: all up to the next node
abbrev pub own_calls : List BuilderCall → List BuilderCall
own_calls [] = []
own_calls (c ∷ after) = if is_node c then [] else c ∷ own_calls after

-- the calls behind the node that was added last, or all where there is none
abbrev pub since_after : List BuilderCall → BuilderCall → List BuilderCall
since_after since c = if is_node c then [] else since ++ c ∷ []

abbrev pub since_node : List BuilderCall → List BuilderCall
since_node calls = fold since_after [] calls

abbrev pub is_otherwise_edge : NamedEdge → Bool
is_otherwise_edge (edge.Key bytes number) = false
is_otherwise_edge (edge.Peek byte) = false
is_otherwise_edge (edge.Answer number) = false
is_otherwise_edge (edge.Otherwise skip) = true
