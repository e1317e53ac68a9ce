-- The calls that tell a graph, read one sort at a time.
use Rattle.std.proofs.Common.{◌≡◌, ℕ, List, [], ◌∷◌, ◌++◌, map, filter_map, flat_map, Option, Some, refl, ap, ap₂, sym, ◌∙◌, append_assoc}
use Rattle.std.specs.Prelude.{None as none}
use Rattle.std.specs.List.{cons_option}
use Rattle.std.proofs.lemmas.List.{append-nil}
use Rattle.std.proofs.lemmas.List.Elements.{filter_map-append}
use Rattle.pp_rules.specs.declared.declaration.PropDecl.{PropDecl}
use Rattle.pp_rules.specs.declared.declaration.HostDecl.{HostDecl}
use Rattle.pp_rules.specs.declared.declaration.SpanDecl.{SpanDecl}
use Rattle.pp_graph.specs.declared.node.Kind.{Kind}
use Rattle.pp_graph.specs.declared.node.Kind.TheVariants as placed
use Rattle.pp_graph.specs.declared.node.Node.{Node}
use Rattle.pp_rules.specs.declared.call.NamedKind.{NamedKind}
use Rattle.pp_rules.specs.declared.call.NamedEdge.{NamedEdge}
use Rattle.pp_rules.specs.declared.call.BuilderCall.{BuilderCall}
use Rattle.pp_rules.specs.declared.call.BuilderCall.TheVariants as call
use Rattle.pp_rules.specs.declared.call.Sort.{Sort}
use Rattle.pp_rules.specs.declared.call.Sort.TheVariants as sort
use Rattle.pp_graph.specs.Plan.{Plan}
use Rattle.pp_rules.specs.Calls.{declared_by, name_if, names_of, own_calls}
use Rattle.pp_rules.specs.Declarations.{Tables, prop_decl, host_decl, span_decl}
use Rattle.pp_graph.specs.Built.{nodes_in}
use Rattle.pp_graph.proofs.TableLemmas.{Each}
use Rattle.pp_graph.proofs.EachLemmas.{each-append}
use Rattle.pp_graph.proofs.SortLemmas.{props-names, hosts-names, spans-names}
use Rattle.pp_text.specs.Telling.{calls_of, prop_call, host_call, span_call, finish_calls, node_calls, edge_calls, key_call, peek_call, answer_call, other_call, else_call, node_name}
use Rattle.pp_text.proofs.ListLemmas.{each-all, each-map_of, told-again, nothing-told}

-- the call adds an edge
abbrev pub IsEdge : BuilderCall → Type 0
IsEdge (call.Prop name width) = ⊥
IsEdge (call.Host name value) = ⊥
IsEdge (call.Span name) = ⊥
IsEdge (call.Entry node) = ⊥
IsEdge (call.Finish prop host) = ⊥
IsEdge (call.Node name what) = ⊥
IsEdge (call.Edge when target) = Unit {0}

-- the calls behind a node are its edges
pub each-edge : (g : Plan) (k : Kind) → Each IsEdge (edge_calls g k)
each-edge g (placed.Match fold keys peeks other) =
    each-append IsEdge (map (key_call g) keys ++ map (peek_call g) peeks) (other_call g other ∷ [])
    (each-append IsEdge (map (key_call g) keys) (map (peek_call g) peeks) (each-map_of (key_call g) IsEdge keys (each-all (λ k. Unit {0}) keys (λ k. tt))) (each-map_of (peek_call g) IsEdge peeks (each-all (λ k. Unit {0}) peeks (λ k. tt))))
    (tt, tt)
each-edge g (placed.Invoke what answers other) =
    each-append IsEdge (map (answer_call g) answers) (else_call g other ∷ []) (each-map_of (answer_call g) IsEdge answers (each-all (λ k. Unit {0}) answers (λ k. tt))) (tt, tt)
each-edge g (placed.Consume prop next) = (tt, tt)
each-edge g (placed.SpanOpen span next) = (tt, tt)
each-edge g (placed.SpanClose span next) = (tt, tt)
each-edge g (placed.Pause number reason next) = (tt, tt)
each-edge g (placed.Fail number reason) = tt

-- edges in front of other calls
pub own-edges : (es rest : List BuilderCall) → Each IsEdge es → own_calls (es ++ rest) ≡ es ++ own_calls rest
own-edges [] rest s = refl
own-edges (call.Edge when target ∷ es) rest s = ap (λ cs. call.Edge when target ∷ cs) (own-edges es rest s.1)
own-edges (c ∷ es) rest s = absurd s.0

pub nodes_in-edges : (t : Tables) (es rest : List BuilderCall) → Each IsEdge es → nodes_in t (es ++ rest) ≡ nodes_in t rest
nodes_in-edges t [] rest s = refl
nodes_in-edges t (call.Edge when target ∷ es) rest s = nodes_in-edges t es rest s.1
nodes_in-edges t (c ∷ es) rest s = absurd s.0

-- no call of a node in front belongs to another
pub own-nodes : (g : Plan) (nodes : List Node) → own_calls (flat_map (node_calls g) nodes) ≡ []
own-nodes g [] = refl
own-nodes g (n ∷ nodes) = refl

pub own-node : (g : Plan) (k : Kind) (nodes : List Node) → own_calls (edge_calls g k ++ flat_map (node_calls g) nodes) ≡ edge_calls g k
own-node g k nodes =
    own-edges (edge_calls g k) (flat_map (node_calls g) nodes) (each-edge g k) ∙ ap (λ cs. edge_calls g k ++ cs) (own-nodes g nodes) ∙ append-nil (edge_calls g k)

-- declarations in front of other calls
nodes_in-props : (t : Tables) (ps : List PropDecl) (rest : List BuilderCall) → nodes_in t (map prop_call ps ++ rest) ≡ nodes_in t rest
nodes_in-props t [] rest = refl
nodes_in-props t (p ∷ ps) rest = nodes_in-props t ps rest

nodes_in-hosts : (t : Tables) (ps : List HostDecl) (rest : List BuilderCall) → nodes_in t (map host_call ps ++ rest) ≡ nodes_in t rest
nodes_in-hosts t [] rest = refl
nodes_in-hosts t (p ∷ ps) rest = nodes_in-hosts t ps rest

nodes_in-spans : (t : Tables) (ps : List SpanDecl) (rest : List BuilderCall) → nodes_in t (map span_call ps ++ rest) ≡ nodes_in t rest
nodes_in-spans t [] rest = refl
nodes_in-spans t (p ∷ ps) rest = nodes_in-spans t ps rest

nodes_in-finish : (t : Tables) (g : Plan) (rule : Option (ℕ × ℕ)) (rest : List BuilderCall) → nodes_in t (finish_calls g rule ++ rest) ≡ nodes_in t rest
nodes_in-finish t g none rest = refl
nodes_in-finish t g (Some rule) rest = refl

-- the calls that tell the nodes
abbrev pub nodes_calls : Plan → List BuilderCall
nodes_calls g = flat_map (node_calls g) g.nodes

-- the entry and the finish rule
abbrev pub ends_calls : Plan → List BuilderCall
ends_calls g = call.Entry (node_name g g.entry) ∷ finish_calls g g.finish

-- the calls, joined from the right
pub calls_of-parts : (g : Plan) → calls_of g ≡ map prop_call g.props ++ (map host_call g.hosts ++ (map span_call g.spans ++ (ends_calls g ++ nodes_calls g)))
calls_of-parts g =
    let props = map prop_call g.props in
    let hosts = map host_call g.hosts in
    let spans = map span_call g.spans in
    append_assoc (props ++ hosts ++ spans) (ends_calls g) (nodes_calls g)
    ∙ append_assoc (props ++ hosts) spans (ends_calls g ++ nodes_calls g)
    ∙ append_assoc props hosts (spans ++ (ends_calls g ++ nodes_calls g))

pub nodes_in-calls : (t : Tables) (g : Plan) → nodes_in t (calls_of g) ≡ nodes_in t (nodes_calls g)
nodes_in-calls t g =
    let ends = ends_calls g ++ nodes_calls g in
    ap (nodes_in t) (calls_of-parts g)
    ∙ nodes_in-props t g.props (map host_call g.hosts ++ (map span_call g.spans ++ ends))
    ∙ nodes_in-hosts t g.hosts (map span_call g.spans ++ ends)
    ∙ nodes_in-spans t g.spans ends
    ∙ nodes_in-finish t g g.finish (nodes_calls g)

module _ {Y : Type 0} where
  -- what a reading gives of each part, it gives of the whole
  pub whole-told : (f : BuilderCall → Option Y) (g : Plan) (a b c d e : List Y) → filter_map f (map prop_call g.props) ≡ a → filter_map f (map host_call g.hosts) ≡ b → filter_map f (map span_call g.spans) ≡ c → filter_map f (ends_calls g) ≡ d → filter_map f (nodes_calls g) ≡ e → filter_map f (calls_of g) ≡ a ++ (b ++ (c ++ (d ++ e)))
  whole-told f g a b c d e p q r s t =
      let ends = ends_calls g ++ nodes_calls g in
      ap (filter_map f) (calls_of-parts g)
      ∙ filter_map-append f (map prop_call g.props) (map host_call g.hosts ++ (map span_call g.spans ++ ends))
      ∙ ap₂ ◌++◌ p (filter_map-append f (map host_call g.hosts) (map span_call g.spans ++ ends)
      ∙ ap₂ ◌++◌ q (filter_map-append f (map span_call g.spans) ends
      ∙ ap₂ ◌++◌ r (filter_map-append f (ends_calls g) (nodes_calls g) ∙ ap₂ ◌++◌ s t)))

  -- a reading of no edge
  pub edges-nothing : (f : BuilderCall → Option Y) (es : List BuilderCall) → ((when : NamedEdge) (target : List ℕ) → f (call.Edge when target) ≡ none) → Each IsEdge es → filter_map f es ≡ []
  edges-nothing f [] h s = refl
  edges-nothing f (call.Edge when target ∷ es) h s = ap₂ cons_option (h when target) (edges-nothing f es h s.1)
  edges-nothing f (c ∷ es) h s = absurd s.0

  -- a reading of no node and no edge
  pub nodes-nothing : (f : BuilderCall → Option Y) (g : Plan) (nodes : List Node) → ((name : List ℕ) (what : NamedKind) → f (call.Node name what) ≡ none) → ((when : NamedEdge) (target : List ℕ) → f (call.Edge when target) ≡ none) → filter_map f (flat_map (node_calls g) nodes) ≡ []
  nodes-nothing f g [] p q = refl
  nodes-nothing f g (n ∷ nodes) p q =
      filter_map-append f (node_calls g n) (flat_map (node_calls g) nodes)
      ∙ ap₂ ◌++◌ (ap₂ cons_option (p n.name _) (edges-nothing f (edge_calls g n.kind) q (each-edge g n.kind))) (nodes-nothing f g nodes p q)

  -- a reading of neither the entry nor the finish rule
  pub ends-nothing : (f : BuilderCall → Option Y) (g : Plan) (rule : Option (ℕ × ℕ)) → ((node : List ℕ) → f (call.Entry node) ≡ none) → ((prop host : List ℕ) → f (call.Finish prop host) ≡ none) → filter_map f (call.Entry (node_name g g.entry) ∷ finish_calls g rule) ≡ []
  ends-nothing f g none p q = ap₂ cons_option (p (node_name g g.entry)) refl
  ends-nothing f g (Some rule) p q = ap₂ cons_option (p (node_name g g.entry)) (ap₂ cons_option (q _ _) refl)

-- the declarations
pub props-told : (g : Plan) → filter_map prop_decl (calls_of g) ≡ g.props
props-told g =
    whole-told prop_decl g g.props [] [] [] []
    (told-again prop_call prop_decl g.props (each-all (λ p. prop_decl (prop_call p) ≡ Some p) g.props (λ p. refl)))
    (nothing-told host_call prop_decl g.hosts (λ h. refl))
    (nothing-told span_call prop_decl g.spans (λ h. refl))
    (ends-nothing prop_decl g g.finish (λ n. refl) (λ p h. refl))
    (nodes-nothing prop_decl g g.nodes (λ n w. refl) (λ w t. refl))
    ∙ append-nil g.props

pub hosts-told : (g : Plan) → filter_map host_decl (calls_of g) ≡ g.hosts
hosts-told g =
    whole-told host_decl g [] g.hosts [] [] []
    (nothing-told prop_call host_decl g.props (λ h. refl))
    (told-again host_call host_decl g.hosts (each-all (λ p. host_decl (host_call p) ≡ Some p) g.hosts (λ p. refl)))
    (nothing-told span_call host_decl g.spans (λ h. refl))
    (ends-nothing host_decl g g.finish (λ n. refl) (λ p h. refl))
    (nodes-nothing host_decl g g.nodes (λ n w. refl) (λ w t. refl))
    ∙ append-nil g.hosts

pub spans-told : (g : Plan) → filter_map span_decl (calls_of g) ≡ g.spans
spans-told g =
    whole-told span_decl g [] [] g.spans [] []
    (nothing-told prop_call span_decl g.props (λ h. refl))
    (nothing-told host_call span_decl g.hosts (λ h. refl))
    (told-again span_call span_decl g.spans (each-all (λ p. span_decl (span_call p) ≡ Some p) g.spans (λ p. refl)))
    (ends-nothing span_decl g g.finish (λ n. refl) (λ p h. refl))
    (nodes-nothing span_decl g g.nodes (λ n w. refl) (λ w t. refl))
    ∙ append-nil g.spans

-- their names
pub prop_names-told : (g : Plan) → names_of sort.Prop (calls_of g) ≡ map (λ (p : PropDecl). p.name) g.props
prop_names-told g = sym (props-names (calls_of g)) ∙ ap (map (λ (p : PropDecl). p.name)) (props-told g)

pub host_names-told : (g : Plan) → names_of sort.Host (calls_of g) ≡ map (λ (p : HostDecl). p.name) g.hosts
host_names-told g = sym (hosts-names (calls_of g)) ∙ ap (map (λ (p : HostDecl). p.name)) (hosts-told g)

pub span_names-told : (g : Plan) → names_of sort.Span (calls_of g) ≡ map (λ (p : SpanDecl). p.name) g.spans
span_names-told g = sym (spans-names (calls_of g)) ∙ ap (map (λ (p : SpanDecl). p.name)) (spans-told g)

-- the name that a call declares, of one sort
abbrev pub name_of : Sort → BuilderCall → Option (List ℕ)
name_of s c = name_if s (declared_by c)

nodes-named : (g : Plan) (nodes : List Node) → filter_map (name_of sort.Node) (flat_map (node_calls g) nodes) ≡ map (λ (n : Node). n.name) nodes
nodes-named g [] = refl
nodes-named g (n ∷ nodes) =
    filter_map-append (name_of sort.Node) (node_calls g n) (flat_map (node_calls g) nodes)
    ∙ ap₂ ◌++◌ (ap (λ ns. n.name ∷ ns) (edges-nothing (name_of sort.Node) (edge_calls g n.kind) (λ w t. refl) (each-edge g n.kind))) (nodes-named g nodes)

pub node_names-told : (g : Plan) → names_of sort.Node (calls_of g) ≡ map (λ (n : Node). n.name) g.nodes
node_names-told g =
    whole-told (name_of sort.Node) g [] [] [] [] (map (λ (n : Node). n.name) g.nodes)
    (nothing-told prop_call (name_of sort.Node) g.props (λ h. refl))
    (nothing-told host_call (name_of sort.Node) g.hosts (λ h. refl))
    (nothing-told span_call (name_of sort.Node) g.spans (λ h. refl))
    (ends-nothing (name_of sort.Node) g g.finish (λ n. refl) (λ p h. refl))
    (nodes-named g g.nodes)

-- one entry, and at most one finish rule
pub entries-told : (g : Plan) → names_of sort.Entry (calls_of g) ≡ [] ∷ []
entries-told g =
    whole-told (name_of sort.Entry) g [] [] [] ([] ∷ []) []
    (nothing-told prop_call (name_of sort.Entry) g.props (λ h. refl))
    (nothing-told host_call (name_of sort.Entry) g.hosts (λ h. refl))
    (nothing-told span_call (name_of sort.Entry) g.spans (λ h. refl))
    (ends g.finish)
    (nodes-nothing (name_of sort.Entry) g g.nodes (λ n w. refl) (λ w t. refl))
  where
    ends : (rule : Option (ℕ × ℕ)) → filter_map (name_of sort.Entry) (call.Entry (node_name g g.entry) ∷ finish_calls g rule) ≡ [] ∷ []
    ends none = refl
    ends (Some rule) = refl

-- the empty name, where there is a rule
abbrev pub rule_names : Option (ℕ × ℕ) → List (List ℕ)
rule_names none = []
rule_names (Some rule) = [] ∷ []

pub rules-told : (g : Plan) → names_of sort.Finish (calls_of g) ≡ rule_names g.finish
rules-told g =
    whole-told (name_of sort.Finish) g [] [] [] (rule_names g.finish) []
    (nothing-told prop_call (name_of sort.Finish) g.props (λ h. refl))
    (nothing-told host_call (name_of sort.Finish) g.hosts (λ h. refl))
    (nothing-told span_call (name_of sort.Finish) g.spans (λ h. refl))
    (ends g.finish)
    (nodes-nothing (name_of sort.Finish) g g.nodes (λ n w. refl) (λ w t. refl))
    ∙ append-nil (rule_names g.finish)
  where
    ends : (rule : Option (ℕ × ℕ)) → filter_map (name_of sort.Finish) (call.Entry (node_name g g.entry) ∷ finish_calls g rule) ≡ rule_names rule
    ends none = refl
    ends (Some rule) = refl
