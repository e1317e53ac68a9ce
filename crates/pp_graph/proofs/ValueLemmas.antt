-- Edges lead to nodes that take their value, and codes fit the hosts and properties that they name.
use Rattle.std.proofs.Common.{◌≡◌, ◌≢◌, ℕ, ◌-◌, ◌^◌, ◌<◌, ◌≤◌, List, [], ◌∷◌, ◌++◌, Bool, true, false, ◌&&◌, ◌||◌, nat_lt, length, map, slice_get, filter_map, Option, Some, option_map, unwrap_or, refl, ap, ap₂, sym, ◌∙◌, subst, arith}
use Rattle.std.specs.Prelude.{bytes_eq}
use Rattle.std.specs.Prelude.{None as none}
use Rattle.std.specs.List.{list_any}
use Rattle.pp_rules.specs.declared.declaration.PropDecl.{PropDecl}
use Rattle.pp_rules.specs.declared.declaration.HostDecl.{HostDecl}
use Rattle.pp_graph.specs.declared.node.Code.TheVariants as placed_code
use Rattle.pp_graph.specs.declared.node.Kind.{Kind}
use Rattle.pp_graph.specs.declared.node.Kind.TheVariants as placed
use Rattle.pp_graph.specs.declared.node.Node.{Node}
use Rattle.pp_rules.specs.declared.call.Constant.{Constant}
use Rattle.pp_rules.specs.declared.call.Constant.TheVariants as constant
use Rattle.pp_rules.specs.declared.call.NamedCode.{NamedCode}
use Rattle.pp_rules.specs.declared.call.NamedCode.TheVariants as code
use Rattle.pp_rules.specs.declared.call.NamedKind.{NamedKind}
use Rattle.pp_rules.specs.declared.call.NamedKind.TheVariants as kind
use Rattle.pp_rules.specs.declared.call.BuilderCall.{BuilderCall}
use Rattle.pp_rules.specs.declared.call.BuilderCall.TheVariants as call
use Rattle.pp_rules.specs.declared.call.Sort.TheVariants as sort
use Rattle.pp_rules.specs.Widths.{greatest}
use Rattle.pp_graph.specs.Plan.{Plan, Leads, Holds, StoresIn, CodeFits, host_value, is_value_code, is_value_kind}
use Rattle.pp_rules.specs.Calls.{own_calls, is_declared, named_by_code, names_of}
use Rattle.pp_rules.specs.Declarations.{tables_of, greatest_of, host_decl, prop_decl}
use Rattle.pp_graph.specs.Built.{built, place_of, constant_code, code_of, kind_of, nodes_in}
use Rattle.pp_rules.specs.Rules.Numbers.{declares_value_host, is_value_host, code_takes_value, kind_takes_value, adds_value_node, is_value_node, stores_narrow, is_wide_code, is_wide_most}
use Rattle.pp_graph.proofs.TableLemmas.{Each, each-at}
use Rattle.pp_graph.proofs.EachLemmas.{Pairs, any-place, find-place, and_false, true_from_not}
use Rattle.pp_rules.proofs.ListLemmas.{passes_some, any-filter_map, or_false_left}
use Rattle.pp_graph.proofs.SoundLemmas.{IsSound, AreSound, within_from}
use Rattle.pp_graph.proofs.SortLemmas.{props-names, hosts-names, nodes-names, names-apart, there-at, declared-within}

-- the greatest value of the property at a place
abbrev pub greatest_at : Plan → ℕ → ℕ
greatest_at g prop = unwrap_or (option_map (λ (p : PropDecl). greatest p.width) (slice_get g.props prop)) (2 ^ 64 - 1)

pub greatest_of-place : (all : List BuilderCall) (prop : List ℕ) → greatest_of (tables_of all) prop ≡ greatest_at (built all) (place_of (names_of sort.Prop all) prop)
greatest_of-place all prop =
    let e = find-place (λ (p : PropDecl). p.name) (filter_map prop_decl all) prop in
    let P : Option PropDecl → ℕ = λ o. unwrap_or (option_map (λ (p : PropDecl). greatest p.width) o) (2 ^ 64 - 1) in
    ap P e ∙ ap (λ names. P (slice_get (filter_map prop_decl all) (place_of names prop))) (props-names all)

-- what is at most the greatest value of a declared property fits it
pub holds-at : (all : List BuilderCall) (prop : List ℕ) (value : ℕ) → is_declared all (sort.Prop, prop) ≡ true → value ≤ greatest_of (tables_of all) prop → Holds (built all) (place_of (names_of sort.Prop all) prop) value
holds-at all prop value d h =
    let place = place_of (names_of sort.Prop all) prop in
    let at = there-at (filter_map prop_decl all) place (declared-within (λ (p : PropDecl). p.name) (filter_map prop_decl all) sort.Prop prop all (props-names all) d) in
    let P : Option PropDecl → ℕ = λ o. unwrap_or (option_map (λ (p : PropDecl). greatest p.width) o) (2 ^ 64 - 1) in
    (at.0, at.1, subst (λ m. value ≤ m) (greatest_of-place all prop ∙ ap P at.1) h)

-- a host is asked with a value where its declaration says so
host-test : (host : List ℕ) (c : BuilderCall) → declares_value_host host c ≡ passes_some (λ (h : HostDecl). bytes_eq h.name host && h.value) (host_decl c)
host-test host (call.Prop name width) = refl
host-test host (call.Host name value) = refl
host-test host (call.Span name) = refl
host-test host (call.Entry node) = refl
host-test host (call.Finish prop other) = refl
host-test host (call.Node name what) = refl
host-test host (call.Edge when target) = refl

passes-host : (o : Option HostDecl) → passes_some (λ (h : HostDecl). h.value) o ≡ host_value o
passes-host none = refl
passes-host (Some h) = refl

pub value_host-place : (all : List BuilderCall) (host : List ℕ) → AreSound all [] all → is_value_host all host ≡ host_value (slice_get (filter_map host_decl all) (place_of (names_of sort.Host all) host))
value_host-place all host s =
    let hosts = filter_map host_decl all in
    let apart : Pairs ◌≢◌ (map (λ (h : HostDecl). h.name) hosts) = subst (Pairs ◌≢◌) (sym (hosts-names all)) (names-apart sort.Host all s) in
    any-filter_map host_decl (λ (h : HostDecl). bytes_eq h.name host && h.value) (declares_value_host host) all (host-test host)
    ∙ any-place (λ (h : HostDecl). h.name) (λ (h : HostDecl). h.value) hosts host apart
    ∙ ap (λ names. passes_some (λ (h : HostDecl). h.value) (slice_get hosts (place_of names host))) (hosts-names all)
    ∙ passes-host (slice_get hosts (place_of (names_of sort.Host all) host))

constant-value : (g : Plan) (what : Constant) (prop value : ℕ) → is_value_code g (constant_code what prop value) ≡ false
constant-value g constant.Update prop value = refl
constant-value g constant.Equal prop value = refl
constant-value g constant.And prop value = refl
constant-value g constant.Or prop value = refl
constant-value g constant.Test prop value = refl

code-value : (all : List BuilderCall) (what : NamedCode) → AreSound all [] all → code_takes_value all what ≡ is_value_code (built all) (code_of (tables_of all) what)
code-value all (code.Call host) s = value_host-place all host s
code-value all (code.Store prop) s = refl
code-value all (code.Load prop) s = refl
code-value all (code.Constant what prop value) s = sym (constant-value (built all) what (place_of (names_of sort.Prop all) prop) value)
code-value all (code.MulAdd prop base most) s = refl

kind-value : (all : List BuilderCall) (what : NamedKind) (own : List BuilderCall) → AreSound all [] all → kind_takes_value all what ≡ is_value_kind (built all) (kind_of (tables_of all) what own)
kind-value all (kind.Match fold) own s = refl
kind-value all (kind.Invoke what) own s = code-value all what s
kind-value all (kind.Consume prop) own s = refl
kind-value all (kind.SpanOpen span) own s = refl
kind-value all (kind.SpanClose span) own s = refl
kind-value all (kind.Pause number reason) own s = refl
kind-value all (kind.Fail number reason) own s = refl

-- a node of this name of which a test holds
abbrev is_named_node : (Kind → Bool) → List ℕ → Node → Bool
is_named_node test name n = bytes_eq n.name name && test n.kind

value_nodes : (all : List BuilderCall) (node : List ℕ) (calls : List BuilderCall) → AreSound all [] all → list_any (adds_value_node all node) calls ≡ list_any (is_named_node (is_value_kind (built all)) node) (nodes_in (tables_of all) calls)
value_nodes all node [] s = refl
value_nodes all node (call.Prop name width ∷ calls) s = value_nodes all node calls s
value_nodes all node (call.Host name value ∷ calls) s = value_nodes all node calls s
value_nodes all node (call.Span name ∷ calls) s = value_nodes all node calls s
value_nodes all node (call.Entry name ∷ calls) s = value_nodes all node calls s
value_nodes all node (call.Finish prop host ∷ calls) s = value_nodes all node calls s
value_nodes all node (call.Node name what ∷ calls) s =
    ap₂ (λ b r. bytes_eq name node && b || r) (kind-value all what (own_calls calls) s) (value_nodes all node calls s)
value_nodes all node (call.Edge when target ∷ calls) s = value_nodes all node calls s

-- the one node of a name answers for all
named-place : (all : List BuilderCall) (test : Kind → Bool) (name : List ℕ) → AreSound all [] all → list_any (is_named_node test name) (nodes_in (tables_of all) all) ≡ passes_some (λ (n : Node). test n.kind) (slice_get (nodes_in (tables_of all) all) (place_of (names_of sort.Node all) name))
named-place all test name s =
    let t = tables_of all in
    let apart : Pairs ◌≢◌ (map (λ (n : Node). n.name) (nodes_in t all)) = subst (Pairs ◌≢◌) (sym (nodes-names t all)) (names-apart sort.Node all s) in
    any-place (λ (n : Node). n.name) (λ (n : Node). test n.kind) (nodes_in t all) name apart
    ∙ ap (λ names. passes_some (λ (n : Node). test n.kind) (slice_get (nodes_in t all) (place_of names name))) (nodes-names t all)

-- a kind stores into a property that is too narrow for a number
abbrev is_narrow : Plan → ℕ → Kind → Bool
is_narrow g number (placed.Match fold keys peeks other) = false
is_narrow g number (placed.Invoke (placed_code.Call host) answers other) = false
is_narrow g number (placed.Invoke (placed_code.Store prop) answers other) = nat_lt (greatest_at g prop) number
is_narrow g number (placed.Invoke (placed_code.Load prop) answers other) = false
is_narrow g number (placed.Invoke (placed_code.Update prop value) answers other) = false
is_narrow g number (placed.Invoke (placed_code.Equal prop value) answers other) = false
is_narrow g number (placed.Invoke (placed_code.And prop value) answers other) = false
is_narrow g number (placed.Invoke (placed_code.Or prop value) answers other) = false
is_narrow g number (placed.Invoke (placed_code.Test prop value) answers other) = false
is_narrow g number (placed.Invoke (placed_code.MulAdd prop base most) answers other) = false
is_narrow g number (placed.Consume prop next) = false
is_narrow g number (placed.SpanOpen span next) = false
is_narrow g number (placed.SpanClose span next) = false
is_narrow g number (placed.Pause code reason next) = false
is_narrow g number (placed.Fail code reason) = false

narrow-kind : (all : List BuilderCall) (node : List ℕ) (number : ℕ) (name : List ℕ) (what : NamedKind) (own : List BuilderCall) → stores_narrow all node number (call.Node name what) ≡ (bytes_eq name node && is_narrow (built all) number (kind_of (tables_of all) what own))
narrow-kind all node number name (kind.Match fold) own = sym (and_false (bytes_eq name node))
narrow-kind all node number name (kind.Invoke (code.Call host)) own = sym (and_false (bytes_eq name node))
narrow-kind all node number name (kind.Invoke (code.Store prop)) own = ap (λ m. bytes_eq name node && nat_lt m number) (greatest_of-place all prop)
narrow-kind all node number name (kind.Invoke (code.Load prop)) own = sym (and_false (bytes_eq name node))
narrow-kind all node number name (kind.Invoke (code.Constant constant.Update prop value)) own = sym (and_false (bytes_eq name node))
narrow-kind all node number name (kind.Invoke (code.Constant constant.Equal prop value)) own = sym (and_false (bytes_eq name node))
narrow-kind all node number name (kind.Invoke (code.Constant constant.And prop value)) own = sym (and_false (bytes_eq name node))
narrow-kind all node number name (kind.Invoke (code.Constant constant.Or prop value)) own = sym (and_false (bytes_eq name node))
narrow-kind all node number name (kind.Invoke (code.Constant constant.Test prop value)) own = sym (and_false (bytes_eq name node))
narrow-kind all node number name (kind.Invoke (code.MulAdd prop base most)) own = sym (and_false (bytes_eq name node))
narrow-kind all node number name (kind.Consume prop) own = sym (and_false (bytes_eq name node))
narrow-kind all node number name (kind.SpanOpen span) own = sym (and_false (bytes_eq name node))
narrow-kind all node number name (kind.SpanClose span) own = sym (and_false (bytes_eq name node))
narrow-kind all node number name (kind.Pause code reason) own = sym (and_false (bytes_eq name node))
narrow-kind all node number name (kind.Fail code reason) own = sym (and_false (bytes_eq name node))

narrow_nodes : (all : List BuilderCall) (node : List ℕ) (number : ℕ) (calls : List BuilderCall) → list_any (stores_narrow all node number) calls ≡ list_any (is_named_node (is_narrow (built all) number) node) (nodes_in (tables_of all) calls)
narrow_nodes all node number [] = refl
narrow_nodes all node number (call.Prop name width ∷ calls) = narrow_nodes all node number calls
narrow_nodes all node number (call.Host name value ∷ calls) = narrow_nodes all node number calls
narrow_nodes all node number (call.Span name ∷ calls) = narrow_nodes all node number calls
narrow_nodes all node number (call.Entry name ∷ calls) = narrow_nodes all node number calls
narrow_nodes all node number (call.Finish prop host ∷ calls) = narrow_nodes all node number calls
narrow_nodes all node number (call.Node name what ∷ calls) =
    ap₂ ◌||◌ (narrow-kind all node number name what (own_calls calls)) (narrow_nodes all node number calls)
narrow_nodes all node number (call.Edge when target ∷ calls) = narrow_nodes all node number calls

-- the property that a kind stores into is there
abbrev pub StoreIsThere : Plan → Kind → Type 0
StoreIsThere g (placed.Match fold keys peeks other) = Unit {0}
StoreIsThere g (placed.Invoke what answers other) = CodeFits g what
StoreIsThere g (placed.Consume prop next) = Unit {0}
StoreIsThere g (placed.SpanOpen span next) = Unit {0}
StoreIsThere g (placed.SpanClose span next) = Unit {0}
StoreIsThere g (placed.Pause number reason next) = Unit {0}
StoreIsThere g (placed.Fail number reason) = Unit {0}

stores-in : (g : Plan) (number : ℕ) (k : Kind) → StoreIsThere g k → is_narrow g number k ≡ false → StoresIn g number k
stores-in g number (placed.Match fold keys peeks other) f h = tt
stores-in g number (placed.Invoke (placed_code.Call host) answers other) f h = tt
stores-in g number (placed.Invoke (placed_code.Store prop) answers other) f h =
    let at = there-at g.props prop f in
    let P : Option PropDecl → ℕ = λ o. unwrap_or (option_map (λ (p : PropDecl). greatest p.width) o) (2 ^ 64 - 1) in
    (at.0, at.1, subst (λ m. number ≤ m) (ap P at.1) (within_from (greatest_at g prop) number h))
stores-in g number (placed.Invoke (placed_code.Load prop) answers other) f h = tt
stores-in g number (placed.Invoke (placed_code.Update prop value) answers other) f h = tt
stores-in g number (placed.Invoke (placed_code.Equal prop value) answers other) f h = tt
stores-in g number (placed.Invoke (placed_code.And prop value) answers other) f h = tt
stores-in g number (placed.Invoke (placed_code.Or prop value) answers other) f h = tt
stores-in g number (placed.Invoke (placed_code.Test prop value) answers other) f h = tt
stores-in g number (placed.Invoke (placed_code.MulAdd prop base most) answers other) f h = tt
stores-in g number (placed.Consume prop next) f h = tt
stores-in g number (placed.SpanOpen span next) f h = tt
stores-in g number (placed.SpanClose span next) f h = tt
stores-in g number (placed.Pause code reason next) f h = tt
stores-in g number (placed.Fail code reason) f h = tt

-- a code fits, where what it names is declared and its constant is not too wide
constant-fits : (g : Plan) (what : Constant) (prop value : ℕ) → Holds g prop value → CodeFits g (constant_code what prop value)
constant-fits g constant.Update prop value h = h
constant-fits g constant.Equal prop value h = h
constant-fits g constant.And prop value h = h
constant-fits g constant.Or prop value h = h
constant-fits g constant.Test prop value h = h

most-fits : (n : ℕ) (most : Option ℕ) → is_wide_most n most ≡ false → unwrap_or most n ≤ n
most-fits n none h = omega arith
most-fits n (Some m) h = within_from n m h

pub prop-within : (all : List BuilderCall) (prop : List ℕ) → is_declared all (sort.Prop, prop) ≡ true → place_of (names_of sort.Prop all) prop < length (filter_map prop_decl all)
prop-within all prop d = declared-within (λ (p : PropDecl). p.name) (filter_map prop_decl all) sort.Prop prop all (props-names all) d

pub code-fits : (all : List BuilderCall) (what : NamedCode) → is_declared all (named_by_code what) ≡ true → is_wide_code all what ≡ false → CodeFits (built all) (code_of (tables_of all) what)
code-fits all (code.Call host) d h = declared-within (λ (p : HostDecl). p.name) (filter_map host_decl all) sort.Host host all (hosts-names all) d
code-fits all (code.Store prop) d h = prop-within all prop d
code-fits all (code.Load prop) d h = prop-within all prop d
code-fits all (code.Constant what prop value) d h =
    constant-fits (built all) what (place_of (names_of sort.Prop all) prop) value (holds-at all prop value d (within_from _ value h))
code-fits all (code.MulAdd prop base most) d h =
    holds-at all prop (unwrap_or most (greatest_of (tables_of all) prop)) d (most-fits (greatest_of (tables_of all) prop) most h)

stores-there : (all before : List BuilderCall) (name : List ℕ) (what : NamedKind) (after own : List BuilderCall) → IsSound all before (call.Node name what) after → StoreIsThere (built all) (kind_of (tables_of all) what own)
stores-there all before name (kind.Match fold) after own p = tt
stores-there all before name (kind.Invoke what) after own p =
    code-fits all what (true_from_not (is_declared all (named_by_code what)) (or_false_left _ _ p.known)) p.wide
stores-there all before name (kind.Consume prop) after own p = tt
stores-there all before name (kind.SpanOpen span) after own p = tt
stores-there all before name (kind.SpanClose span) after own p = tt
stores-there all before name (kind.Pause number reason) after own p = tt
stores-there all before name (kind.Fail number reason) after own p = tt

nodes-there : (all before after : List BuilderCall) → AreSound all before after → Each (λ (n : Node). StoreIsThere (built all) n.kind) (nodes_in (tables_of all) after)
nodes-there all before [] s = tt
nodes-there all before (call.Prop name width ∷ after) s = nodes-there all (before ++ call.Prop name width ∷ []) after s.1
nodes-there all before (call.Host name value ∷ after) s = nodes-there all (before ++ call.Host name value ∷ []) after s.1
nodes-there all before (call.Span name ∷ after) s = nodes-there all (before ++ call.Span name ∷ []) after s.1
nodes-there all before (call.Entry node ∷ after) s = nodes-there all (before ++ call.Entry node ∷ []) after s.1
nodes-there all before (call.Finish prop host ∷ after) s = nodes-there all (before ++ call.Finish prop host ∷ []) after s.1
nodes-there all before (call.Node name what ∷ after) s =
    (stores-there all before name what after (own_calls after) s.0, nodes-there all (before ++ call.Node name what ∷ []) after s.1)
nodes-there all before (call.Edge when target ∷ after) s = nodes-there all (before ++ call.Edge when target ∷ []) after s.1

-- a declared node is there
node-there : (all : List BuilderCall) (node : List ℕ) → is_declared all (sort.Node, node) ≡ true → (n : Node) × (slice_get (nodes_in (tables_of all) all) (place_of (names_of sort.Node all) node) ≡ Some n)
node-there all node d =
    there-at (nodes_in (tables_of all) all) (place_of (names_of sort.Node all) node)
    (declared-within (λ (n : Node). n.name) (nodes_in (tables_of all) all) sort.Node node all (nodes-names (tables_of all) all) d)

value-at : (all : List BuilderCall) (node : List ℕ) (n : Node) → AreSound all [] all → slice_get (nodes_in (tables_of all) all) (place_of (names_of sort.Node all) node) ≡ Some n → is_value_node all node ≡ is_value_kind (built all) n.kind
value-at all node n s e =
    value_nodes all node all s ∙ named-place all (is_value_kind (built all)) node s ∙ ap (passes_some (λ (m : Node). is_value_kind (built all) m.kind)) e

-- an edge without a number, to a node that takes none
pub leads-none : (all : List BuilderCall) (node : List ℕ) → AreSound all [] all → is_declared all (sort.Node, node) ≡ true → is_value_node all node ≡ false → Leads (built all) none (place_of (names_of sort.Node all) node)
leads-none all node s d h =
    let at = node-there all node d in
    (at.0, at.1, sym (value-at all node at.0 s at.1) ∙ h)

-- an edge with a number, to a node that takes it
pub leads-some : (all : List BuilderCall) (node : List ℕ) (number : ℕ) → AreSound all [] all → is_declared all (sort.Node, node) ≡ true → is_value_node all node ≡ true → list_any (stores_narrow all node number) all ≡ false → Leads (built all) (Some number) (place_of (names_of sort.Node all) node)
leads-some all node number s d h w =
    let at = node-there all node d in
    let place = place_of (names_of sort.Node all) node in
    let there : StoreIsThere (built all) at.0.kind = each-at (λ (n : Node). StoreIsThere (built all) n.kind) (nodes_in (tables_of all) all) (nodes-there all [] all s) place at.0 at.1 in
    let narrow : is_narrow (built all) number at.0.kind ≡ false =
    ap (passes_some (λ (m : Node). is_narrow (built all) number m.kind)) (sym at.1) ∙ sym (named-place all (is_narrow (built all) number) node s) ∙ sym (narrow_nodes all node number all) ∙ w in
    (at.0, at.1, sym (value-at all node at.0 s at.1) ∙ h, stores-in (built all) number at.0.kind there narrow)
