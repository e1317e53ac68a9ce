-- What the calls that tell a graph say of a name: it is declared, a host or a node of it takes a value, a property of
-- it has a greatest value.
use Rattle.std.proofs.Common.{◌≡◌, ◌≢◌, ℕ, ◌-◌, ◌^◌, ◌≤◌, suc, zero, List, [], ◌∷◌, ◌++◌, Bool, true, false, ◌&&◌, ◌||◌, nat_lt, map, slice_get, filter_map, flat_map, Option, Some, option_map, unwrap_or, refl, ap, ap₂, sym, ◌∙◌, arith}
use Rattle.std.specs.Prelude.{bytes_eq}
use Rattle.std.specs.Prelude.{None as none}
use Rattle.std.specs.List.{list_any}
use Rattle.std.proofs.Math.Bool.{or-true}
use Rattle.std.proofs.lemmas.Bool.Decides.{nat_tests}
use Rattle.std.proofs.lemmas.List.Elements.{filter_map-append}
use Rattle.std.proofs.lemmas.Slice.Eq.{bytes_eq-Decides}
use Rattle.pp_rules.specs.declared.declaration.PropDecl.{PropDecl}
use Rattle.pp_rules.specs.declared.declaration.HostDecl.{HostDecl}
use Rattle.pp_rules.specs.declared.declaration.SpanDecl.{SpanDecl}
use Rattle.pp_graph.specs.declared.node.Code.{Code}
use Rattle.pp_graph.specs.declared.node.Code.TheVariants as placed_code
use Rattle.pp_graph.specs.declared.node.Kind.{Kind}
use Rattle.pp_graph.specs.declared.node.Kind.TheVariants as placed
use Rattle.pp_graph.specs.declared.node.Node.{Node}
use Rattle.pp_rules.specs.declared.call.NamedCode.TheVariants as code
use Rattle.pp_rules.specs.declared.call.NamedKind.{NamedKind}
use Rattle.pp_rules.specs.declared.call.NamedKind.TheVariants as kind
use Rattle.pp_rules.specs.declared.call.BuilderCall.{BuilderCall}
use Rattle.pp_rules.specs.declared.call.BuilderCall.TheVariants as call
use Rattle.pp_rules.specs.declared.call.Sort.{Sort}
use Rattle.pp_rules.specs.declared.call.Sort.TheVariants as sort
use Rattle.pp_rules.specs.Widths.{greatest}
use Rattle.pp_graph.specs.Plan.{Plan, IsWellFormed, StoresIn, CodeFits, FitsIn, host_value, is_value_code, is_value_kind}
use Rattle.pp_rules.specs.Calls.{is_declared, names_of}
use Rattle.pp_rules.specs.Declarations.{tables_of, greatest_of, host_decl}
use Rattle.pp_rules.specs.Rules.Numbers.{declares_value_host, is_value_host, code_takes_value, kind_takes_value, adds_value_node, is_value_node, stores_narrow}
use Rattle.pp_graph.proofs.TableLemmas.{has_name}
use Rattle.pp_rules.proofs.ListLemmas.{passes_some, any-filter_map}
use Rattle.pp_graph.proofs.EachLemmas.{any-place, find-place, and_false}
use Rattle.pp_graph.proofs.SortLemmas.{declared-names, there-at}
use Rattle.pp_text.specs.Telling.{calls_of, prop_call, host_call, span_call, node_calls, edge_calls, node_name, prop_name, host_name, span_name, named_code, named_kind}
use Rattle.pp_text.proofs.ListLemmas.{name_at, name-at, pairs-from_places, nothing-told}
use Rattle.pp_text.proofs.ShapeLemmas.{hosts-told, prop_names-told, host_names-told, span_names-told, node_names-told, whole-told, ends-nothing, edges-nothing, each-edge}
use Rattle.pp_text.proofs.AgainLemmas.{tables, tables-told, prop-place, host-place, node-place}

-- a name that stands at a place is there
module _ {X : Type 0} where
  has-own : (name : X → List ℕ) (xs : List X) (i : ℕ) (x : X) → slice_get xs i ≡ Some x → has_name (map name xs) (name x) ≡ true
  has-own name [] i x e = absurd cc
  has-own name (y ∷ ys) zero x e =
      let same : y ≡ x = cc in
      let equal : bytes_eq (name y) (name x) ≡ true = (bytes_eq-Decides (name y) (name x)).1 (ap name same) in
      ap (λ b. b || has_name (map name ys) (name x)) equal
  has-own name (y ∷ ys) (suc i) x e =
      ap (λ b. bytes_eq (name y) (name x) || b) (has-own name ys i x e) ∙ or-true (bytes_eq (name y) (name x))

  declared-at : (s : Sort) (all : List BuilderCall) (name : X → List ℕ) (xs : List X) → names_of s all ≡ map name xs → (i : ℕ) (x : X) → slice_get xs i ≡ Some x → is_declared all (s, name_at name xs i) ≡ true
  declared-at s all name xs e i x at =
      declared-names s (name_at name xs i) all ∙ ap₂ has_name e (name-at name xs i x at) ∙ has-own name xs i x at

pub prop-declared : (g : Plan) (i : ℕ) (p : PropDecl) → slice_get g.props i ≡ Some p → is_declared (calls_of g) (sort.Prop, prop_name g i) ≡ true
prop-declared g i p e = declared-at sort.Prop (calls_of g) (λ (p : PropDecl). p.name) g.props (prop_names-told g) i p e

pub host-declared : (g : Plan) (i : ℕ) (h : HostDecl) → slice_get g.hosts i ≡ Some h → is_declared (calls_of g) (sort.Host, host_name g i) ≡ true
host-declared g i h e = declared-at sort.Host (calls_of g) (λ (h : HostDecl). h.name) g.hosts (host_names-told g) i h e

pub span-declared : (g : Plan) (i : ℕ) (s : SpanDecl) → slice_get g.spans i ≡ Some s → is_declared (calls_of g) (sort.Span, span_name g i) ≡ true
span-declared g i s e = declared-at sort.Span (calls_of g) (λ (s : SpanDecl). s.name) g.spans (span_names-told g) i s e

pub node-declared : (g : Plan) (i : ℕ) (n : Node) → slice_get g.nodes i ≡ Some n → is_declared (calls_of g) (sort.Node, node_name g i) ≡ true
node-declared g i n e = declared-at sort.Node (calls_of g) (λ (n : Node). n.name) g.nodes (node_names-told g) i n e

-- the greatest value of the property at a place
pub greatest-at : (g : Plan) → IsWellFormed g → (i : ℕ) (p : PropDecl) → slice_get g.props i ≡ Some p → greatest_of (tables_of (calls_of g)) (prop_name g i) ≡ greatest p.width
greatest-at g w i p e =
    let P : Option PropDecl → ℕ = λ o. unwrap_or (option_map (λ (p : PropDecl). greatest p.width) o) (2 ^ 64 - 1) in
    ap (λ t. greatest_of t (prop_name g i)) (tables-told g)
    ∙ ap P (find-place (λ (p : PropDecl). p.name) g.props (prop_name g i) ∙ ap (slice_get g.props) (prop-place g w i p e) ∙ e)

-- whether the host at a place takes a value
host-test : (host : List ℕ) (c : BuilderCall) → declares_value_host host c ≡ passes_some (λ (h : HostDecl). bytes_eq h.name host && h.value) (host_decl c)
host-test host (call.Host name value) = refl
host-test host c = refl

pub value_host-at : (g : Plan) → IsWellFormed g → (i : ℕ) (h : HostDecl) → slice_get g.hosts i ≡ Some h → is_value_host (calls_of g) (host_name g i) ≡ h.value
value_host-at g w i h e =
    let host = host_name g i in
    any-filter_map host_decl (λ (h : HostDecl). bytes_eq h.name host && h.value) (declares_value_host host) (calls_of g) (host-test host)
    ∙ ap (list_any (λ (h : HostDecl). bytes_eq h.name host && h.value)) (hosts-told g)
    ∙ any-place (λ (h : HostDecl). h.name) (λ (h : HostDecl). h.value) g.hosts host (pairs-from_places ◌≢◌ (tables g).hosts w.host_names)
    ∙ ap (λ j. passes_some (λ (h : HostDecl). h.value) (slice_get g.hosts j)) (host-place g w i h e)
    ∙ ap (passes_some (λ (h : HostDecl). h.value)) e

-- a code takes a value where its named form does
pub code_value-told : (g : Plan) → IsWellFormed g → (c : Code) → CodeFits g c → code_takes_value (calls_of g) (named_code g c) ≡ is_value_code g c
code_value-told g w (placed_code.Call host) f =
    let at = there-at g.hosts host f in
    value_host-at g w host at.0 at.1 ∙ ap host_value (sym at.1)
code_value-told g w (placed_code.Store prop) f = refl
code_value-told g w (placed_code.Load prop) f = refl
code_value-told g w (placed_code.Update prop value) f = refl
code_value-told g w (placed_code.Equal prop value) f = refl
code_value-told g w (placed_code.And prop value) f = refl
code_value-told g w (placed_code.Or prop value) f = refl
code_value-told g w (placed_code.Test prop value) f = refl
code_value-told g w (placed_code.MulAdd prop base most) f = refl

-- the node that a call adds
abbrev pub node_of : BuilderCall → Option (List ℕ × NamedKind)
node_of (call.Prop name width) = none
node_of (call.Host name value) = none
node_of (call.Span name) = none
node_of (call.Entry node) = none
node_of (call.Finish prop host) = none
node_of (call.Node name what) = Some (name, what)
node_of (call.Edge when target) = none

abbrev pub told_node : Plan → Node → List ℕ × NamedKind
told_node g n = (n.name, named_kind g n.kind)

nodes-read : (g : Plan) (nodes : List Node) → filter_map node_of (flat_map (node_calls g) nodes) ≡ map (told_node g) nodes
nodes-read g [] = refl
nodes-read g (n ∷ nodes) =
    filter_map-append node_of (node_calls g n) (flat_map (node_calls g) nodes)
    ∙ ap₂ ◌++◌ (ap (λ ns. told_node g n ∷ ns) (edges-nothing node_of (edge_calls g n.kind) (λ w t. refl) (each-edge g n.kind))) (nodes-read g nodes)

pub nodes-told_as : (g : Plan) → filter_map node_of (calls_of g) ≡ map (told_node g) g.nodes
nodes-told_as g =
    whole-told node_of g [] [] [] [] (map (told_node g) g.nodes)
    (nothing-told prop_call node_of g.props (λ h. refl))
    (nothing-told host_call node_of g.hosts (λ h. refl))
    (nothing-told span_call node_of g.spans (λ h. refl))
    (ends-nothing node_of g g.finish (λ n. refl) (λ p h. refl))
    (nodes-read g g.nodes)

any-map : {X Y : Type 0} (h : X → Y) (test : Y → Bool) (xs : List X) → list_any test (map h xs) ≡ list_any (λ x. test (h x)) xs
any-map h test [] = refl
any-map h test (x ∷ xs) = ap (λ b. test (h x) || b) (any-map h test xs)

-- a test of the nodes of a name is a test of the one node of that name
abbrev node_passes : List ℕ → (NamedKind → Bool) → (List ℕ × NamedKind) → Bool
node_passes name test d = bytes_eq d.0 name && test d.1

named-at : (g : Plan) → IsWellFormed g → (i : ℕ) (n : Node) → slice_get g.nodes i ≡ Some n → (test : NamedKind → Bool) (p : BuilderCall → Bool) → ((c : BuilderCall) → p c ≡ passes_some (node_passes (node_name g i) test) (node_of c)) → list_any p (calls_of g) ≡ test (named_kind g n.kind)
named-at g w i n e test p h =
    let name = node_name g i in
    any-filter_map node_of (node_passes name test) p (calls_of g) h
    ∙ ap (list_any (node_passes name test)) (nodes-told_as g)
    ∙ any-map (told_node g) (node_passes name test) g.nodes
    ∙ any-place (λ (n : Node). n.name) (λ (n : Node). test (named_kind g n.kind)) g.nodes name (pairs-from_places ◌≢◌ (tables g).nodes w.node_names)
    ∙ ap (λ j. passes_some (λ (n : Node). test (named_kind g n.kind)) (slice_get g.nodes j)) (node-place g w i n e)
    ∙ ap (passes_some (λ (n : Node). test (named_kind g n.kind))) e

value-test : (all : List BuilderCall) (name : List ℕ) (c : BuilderCall) → adds_value_node all name c ≡ passes_some (node_passes name (kind_takes_value all)) (node_of c)
value-test all name (call.Node other what) = refl
value-test all name c = refl

-- what a kind's code needs to be told: its host or property is there
abbrev pub HasCode : Plan → Kind → Type 0
HasCode g (placed.Match fold keys peeks other) = Unit {0}
HasCode g (placed.Invoke what answers other) = CodeFits g what
HasCode g (placed.Consume prop next) = Unit {0}
HasCode g (placed.SpanOpen span next) = Unit {0}
HasCode g (placed.SpanClose span next) = Unit {0}
HasCode g (placed.Pause number reason next) = Unit {0}
HasCode g (placed.Fail number reason) = Unit {0}

kind_value-told : (g : Plan) → IsWellFormed g → (k : Kind) → HasCode g k → kind_takes_value (calls_of g) (named_kind g k) ≡ is_value_kind g k
kind_value-told g w (placed.Match fold keys peeks other) f = refl
kind_value-told g w (placed.Invoke what answers other) f = code_value-told g w what f
kind_value-told g w (placed.Consume prop next) f = refl
kind_value-told g w (placed.SpanOpen span next) f = refl
kind_value-told g w (placed.SpanClose span next) f = refl
kind_value-told g w (placed.Pause number reason next) f = refl
kind_value-told g w (placed.Fail number reason) f = refl

pub code-there : (g : Plan) → IsWellFormed g → (i : ℕ) (n : Node) → slice_get g.nodes i ≡ Some n → HasCode g n.kind
code-there g w i n e = has n.kind (w.kinds i n e)
  where
    has : (k : Kind) → FitsIn g k → HasCode g k
    has (placed.Match fold keys peeks other) f = tt
    has (placed.Invoke what answers other) f = f.0
    has (placed.Consume prop next) f = tt
    has (placed.SpanOpen span next) f = tt
    has (placed.SpanClose span next) f = tt
    has (placed.Pause number reason next) f = tt
    has (placed.Fail number reason) f = tt

-- whether the node at a place takes a value
pub value_node-at : (g : Plan) → IsWellFormed g → (i : ℕ) (n : Node) → slice_get g.nodes i ≡ Some n → is_value_node (calls_of g) (node_name g i) ≡ is_value_kind g n.kind
value_node-at g w i n e =
    named-at g w i n e (kind_takes_value (calls_of g)) (adds_value_node (calls_of g) (node_name g i)) (value-test (calls_of g) (node_name g i))
    ∙ kind_value-told g w n.kind (code-there g w i n e)

-- whether a kind stores into a property that is too narrow
abbrev narrow_kind : List BuilderCall → ℕ → NamedKind → Bool
narrow_kind all number (kind.Match fold) = false
narrow_kind all number (kind.Invoke (code.Call host)) = false
narrow_kind all number (kind.Invoke (code.Store prop)) = nat_lt (greatest_of (tables_of all) prop) number
narrow_kind all number (kind.Invoke (code.Load prop)) = false
narrow_kind all number (kind.Invoke (code.Constant what prop value)) = false
narrow_kind all number (kind.Invoke (code.MulAdd prop base most)) = false
narrow_kind all number (kind.Consume prop) = false
narrow_kind all number (kind.SpanOpen span) = false
narrow_kind all number (kind.SpanClose span) = false
narrow_kind all number (kind.Pause code reason) = false
narrow_kind all number (kind.Fail code reason) = false

narrow-test : (all : List BuilderCall) (name : List ℕ) (number : ℕ) (c : BuilderCall) → stores_narrow all name number c ≡ passes_some (node_passes name (narrow_kind all number)) (node_of c)
narrow-test all name number (call.Node other (kind.Match fold)) = sym (and_false (bytes_eq other name))
narrow-test all name number (call.Node other (kind.Invoke (code.Call host))) = sym (and_false (bytes_eq other name))
narrow-test all name number (call.Node other (kind.Invoke (code.Store prop))) = refl
narrow-test all name number (call.Node other (kind.Invoke (code.Load prop))) = sym (and_false (bytes_eq other name))
narrow-test all name number (call.Node other (kind.Invoke (code.Constant what prop value))) = sym (and_false (bytes_eq other name))
narrow-test all name number (call.Node other (kind.Invoke (code.MulAdd prop base most))) = sym (and_false (bytes_eq other name))
narrow-test all name number (call.Node other (kind.Consume prop)) = sym (and_false (bytes_eq other name))
narrow-test all name number (call.Node other (kind.SpanOpen span)) = sym (and_false (bytes_eq other name))
narrow-test all name number (call.Node other (kind.SpanClose span)) = sym (and_false (bytes_eq other name))
narrow-test all name number (call.Node other (kind.Pause code reason)) = sym (and_false (bytes_eq other name))
narrow-test all name number (call.Node other (kind.Fail code reason)) = sym (and_false (bytes_eq other name))
narrow-test all name number c = refl

-- what is within a limit does not pass it
pub not_over : (m n : ℕ) → n ≤ m → nat_lt m n ≡ false
not_over m n h = grind (arith, nat_tests)

narrow-kind : (g : Plan) → IsWellFormed g → (number : ℕ) (k : Kind) → StoresIn g number k → narrow_kind (calls_of g) number (named_kind g k) ≡ false
narrow-kind g w number (placed.Match fold keys peeks other) s = refl
narrow-kind g w number (placed.Invoke (placed_code.Call host) answers other) s = refl
narrow-kind g w number (placed.Invoke (placed_code.Store prop) answers other) s =
    ap (λ m. nat_lt m number) (greatest-at g w prop s.0 s.1) ∙ not_over (greatest s.0.width) number s.2
narrow-kind g w number (placed.Invoke (placed_code.Load prop) answers other) s = refl
narrow-kind g w number (placed.Invoke (placed_code.Update prop value) answers other) s = refl
narrow-kind g w number (placed.Invoke (placed_code.Equal prop value) answers other) s = refl
narrow-kind g w number (placed.Invoke (placed_code.And prop value) answers other) s = refl
narrow-kind g w number (placed.Invoke (placed_code.Or prop value) answers other) s = refl
narrow-kind g w number (placed.Invoke (placed_code.Test prop value) answers other) s = refl
narrow-kind g w number (placed.Invoke (placed_code.MulAdd prop base most) answers other) s = refl
narrow-kind g w number (placed.Consume prop next) s = refl
narrow-kind g w number (placed.SpanOpen span next) s = refl
narrow-kind g w number (placed.SpanClose span next) s = refl
narrow-kind g w number (placed.Pause code reason next) s = refl
narrow-kind g w number (placed.Fail code reason) s = refl

-- no node of this name stores into a property that is too narrow for the number
pub narrow_node-at : (g : Plan) → IsWellFormed g → (number i : ℕ) (n : Node) → slice_get g.nodes i ≡ Some n → StoresIn g number n.kind → list_any (stores_narrow (calls_of g) (node_name g i) number) (calls_of g) ≡ false
narrow_node-at g w number i n e s =
    named-at g w i n e (narrow_kind (calls_of g) number) (stores_narrow (calls_of g) (node_name g i) number) (narrow-test (calls_of g) (node_name g i) number)
    ∙ narrow-kind g w number n.kind s
