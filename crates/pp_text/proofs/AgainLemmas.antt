-- The calls that tell a graph give it again.
use Rattle.std.proofs.Common.{◌≡◌, ◌≢◌, ℕ, ◌<◌, List, [], ◌∷◌, ◌++◌, false, length, map, slice_get, filter_map, flat_map, Option, Some, unwrap_or, refl, ap, ap₂, ◌∙◌}
use Rattle.std.specs.Prelude.{None as none}
use Rattle.std.proofs.lemmas.List.{append-nil}
use Rattle.std.proofs.lemmas.List.Elements.{filter_map-append}
use Rattle.pp_bytes.specs.declared.fold.Fold.{Fold}
use Rattle.pp_rules.specs.declared.declaration.PropDecl.{PropDecl}
use Rattle.pp_rules.specs.declared.declaration.HostDecl.{HostDecl}
use Rattle.pp_rules.specs.declared.declaration.SpanDecl.{SpanDecl}
use Rattle.pp_graph.specs.declared.node.Code.{Code}
use Rattle.pp_graph.specs.declared.node.Code.TheVariants as placed_code
use Rattle.pp_graph.specs.declared.node.Key.{Key}
use Rattle.pp_graph.specs.declared.node.Peek.{Peek}
use Rattle.pp_graph.specs.declared.node.Answer.{Answer}
use Rattle.pp_graph.specs.declared.node.Other.{Other}
use Rattle.pp_graph.specs.declared.node.Kind.{Kind}
use Rattle.pp_graph.specs.declared.node.Kind.TheVariants as placed
use Rattle.pp_graph.specs.declared.node.Node.{Node}
use Rattle.pp_rules.specs.declared.call.BuilderCall.{BuilderCall}
use Rattle.pp_rules.specs.declared.call.BuilderCall.TheVariants as call
use Rattle.pp_graph.specs.Plan.{Plan, IsWellFormed, EachIs, Leads, CodeFits, FitsIn, FinishFits, AreEdges, AreAnswers, IsKey, IsPeek}
use Rattle.pp_rules.specs.Calls.{own_calls}
use Rattle.pp_rules.specs.Declarations.{Tables, tables_of}
use Rattle.pp_graph.specs.Built.{built, built_by, place_of, code_of, kind_of, key_edge, peek_edge, answer_edge, other_edge, first_of, nodes_in, entry_node, entry_in, finish_places, finish_in}
use Rattle.pp_graph.proofs.TableLemmas.{Each}
use Rattle.pp_graph.proofs.EachLemmas.{each-map}
use Rattle.pp_graph.proofs.SortLemmas.{there-at}
use Rattle.pp_text.specs.Telling.{calls_of, prop_call, host_call, span_call, finish_calls, node_calls, edge_calls, key_call, peek_call, answer_call, other_call, else_call, node_name, prop_name, host_name, span_name, named_code, named_kind}
use Rattle.pp_text.proofs.ListLemmas.{each-from_is, pairs-from_places, place-told, told-again, nothing-told}
use Rattle.pp_text.proofs.ShapeLemmas.{props-told, hosts-told, spans-told, prop_names-told, host_names-told, span_names-told, node_names-told, whole-told, nodes-nothing, nodes_in-calls, nodes_in-edges, own-node, each-edge}

abbrev table_to : List PropDecl → List (List ℕ) → List (List ℕ) → List (List ℕ) → List (List ℕ) → Tables
table_to props names hosts spans nodes = record { props = props; prop_names = names; hosts = hosts; spans = spans; nodes = nodes }

abbrev plan_to : List PropDecl → List HostDecl → List SpanDecl → List Node → ℕ → Option (ℕ × ℕ) → Plan
plan_to props hosts spans nodes entry finish = record { props = props; hosts = hosts; spans = spans; nodes = nodes; entry = entry; finish = finish }

-- the tables of a graph
abbrev pub tables : Plan → Tables
tables g = record {
  props = g.props;
  prop_names = map (λ (p : PropDecl). p.name) g.props;
  hosts = map (λ (h : HostDecl). h.name) g.hosts;
  spans = map (λ (s : SpanDecl). s.name) g.spans;
  nodes = map (λ (n : Node). n.name) g.nodes;
}

same-tables : (a a' : List PropDecl) (b b' c c' d d' e e' : List (List ℕ)) → a ≡ a' → b ≡ b' → c ≡ c' → d ≡ d' → e ≡ e' → table_to a b c d e ≡ table_to a' b' c' d' e'
same-tables a a' b b' c c' d d' e e' p q r s t = rw (p, q, r, s, t) refl

pub tables-told : (g : Plan) → tables_of (calls_of g) ≡ tables g
tables-told g =
    same-tables _ _ _ _ _ _ _ _ _ _ (props-told g) (prop_names-told g) (host_names-told g) (span_names-told g) (node_names-told g)

-- each place is that of its name
pub prop-place : (g : Plan) → IsWellFormed g → (i : ℕ) (p : PropDecl) → slice_get g.props i ≡ Some p → place_of (tables g).prop_names (prop_name g i) ≡ i
prop-place g w i p e = place-told (λ (p : PropDecl). p.name) g.props (pairs-from_places ◌≢◌ (tables g).prop_names w.prop_names) i p e

prop-below : (g : Plan) → IsWellFormed g → (i : ℕ) → i < length g.props → place_of (tables g).prop_names (prop_name g i) ≡ i
prop-below g w i h = let at = there-at g.props i h in prop-place g w i at.0 at.1

pub host-place : (g : Plan) → IsWellFormed g → (i : ℕ) (h : HostDecl) → slice_get g.hosts i ≡ Some h → place_of (tables g).hosts (host_name g i) ≡ i
host-place g w i p e = place-told (λ (h : HostDecl). h.name) g.hosts (pairs-from_places ◌≢◌ (tables g).hosts w.host_names) i p e

host-below : (g : Plan) → IsWellFormed g → (i : ℕ) → i < length g.hosts → place_of (tables g).hosts (host_name g i) ≡ i
host-below g w i h = let at = there-at g.hosts i h in host-place g w i at.0 at.1

span-below : (g : Plan) → IsWellFormed g → (i : ℕ) → i < length g.spans → place_of (tables g).spans (span_name g i) ≡ i
span-below g w i h =
    let at = there-at g.spans i h in
    place-told (λ (s : SpanDecl). s.name) g.spans (pairs-from_places ◌≢◌ (tables g).spans w.span_names) i at.0 at.1

pub node-place : (g : Plan) → IsWellFormed g → (i : ℕ) (n : Node) → slice_get g.nodes i ≡ Some n → place_of (tables g).nodes (node_name g i) ≡ i
node-place g w i n e = place-told (λ (n : Node). n.name) g.nodes (pairs-from_places ◌≢◌ (tables g).nodes w.node_names) i n e

-- a place that an edge leads to
led-place : (g : Plan) → IsWellFormed g → (number : Option ℕ) (i : ℕ) → Leads g number i → place_of (tables g).nodes (node_name g i) ≡ i
led-place g w none i l = node-place g w i l.0 l.1
led-place g w (Some number) i l = node-place g w i l.0 l.1

-- a code
code-told : (g : Plan) → IsWellFormed g → (c : Code) → CodeFits g c → code_of (tables g) (named_code g c) ≡ c
code-told g w (placed_code.Call host) f = ap placed_code.Call (host-below g w host f)
code-told g w (placed_code.Store prop) f = ap placed_code.Store (prop-below g w prop f)
code-told g w (placed_code.Load prop) f = ap placed_code.Load (prop-below g w prop f)
code-told g w (placed_code.Update prop value) f = ap (λ p. placed_code.Update p value) (prop-place g w prop f.0 f.1)
code-told g w (placed_code.Equal prop value) f = ap (λ p. placed_code.Equal p value) (prop-place g w prop f.0 f.1)
code-told g w (placed_code.And prop value) f = ap (λ p. placed_code.And p value) (prop-place g w prop f.0 f.1)
code-told g w (placed_code.Or prop value) f = ap (λ p. placed_code.Or p value) (prop-place g w prop f.0 f.1)
code-told g w (placed_code.Test prop value) f = ap (λ p. placed_code.Test p value) (prop-place g w prop f.0 f.1)
code-told g w (placed_code.MulAdd prop base most) f = ap (λ p. placed_code.MulAdd p base most) (prop-place g w prop f.0 f.1)

-- the edges
abbrev key_to : Key → ℕ → Key
key_to k i = record { bytes = k.bytes; number = k.number; target = i }

abbrev peek_to : Peek → ℕ → Peek
peek_to p i = record { byte = p.byte; target = i }

abbrev answer_to : Answer → ℕ → Answer
answer_to a i = record { number = a.number; target = i }

abbrev other_to : Other → ℕ → Other
other_to o i = record { skip = o.skip; target = i }

abbrev else_to : ℕ → Other
else_to i = record { skip = false; target = i }

abbrev node_to : List ℕ → Kind → Node
node_to name kind = record { name = name; kind = kind }

keys-told : (g : Plan) → IsWellFormed g → (fold : Fold) (keys : List Key) → EachIs (IsKey g fold) keys → filter_map (key_edge (tables g)) (map (key_call g) keys) ≡ keys
keys-told g w fold keys s =
    told-again (key_call g) (key_edge (tables g)) keys
    (each-map (IsKey g fold) (λ k. key_edge (tables g) (key_call g k) ≡ Some k) keys (λ k p. ap (λ i. Some (key_to k i)) (led-place g w k.number k.target p.leads)) (each-from_is (IsKey g fold) keys s))

peeks-told : (g : Plan) → IsWellFormed g → (fold : Fold) (peeks : List Peek) → EachIs (IsPeek g fold) peeks → filter_map (peek_edge (tables g)) (map (peek_call g) peeks) ≡ peeks
peeks-told g w fold peeks s =
    told-again (peek_call g) (peek_edge (tables g)) peeks
    (each-map (IsPeek g fold) (λ k. peek_edge (tables g) (peek_call g k) ≡ Some k) peeks (λ k p. ap (λ i. Some (peek_to k i)) (led-place g w none k.target p.leads)) (each-from_is (IsPeek g fold) peeks s))

answers-told : (g : Plan) → IsWellFormed g → (answers : List Answer) → EachIs (λ (a : Answer). Leads g none a.target) answers → filter_map (answer_edge (tables g)) (map (answer_call g) answers) ≡ answers
answers-told g w answers s =
    told-again (answer_call g) (answer_edge (tables g)) answers
    (each-map (λ (a : Answer). Leads g none a.target) (λ a. answer_edge (tables g) (answer_call g a) ≡ Some a) answers (λ a l. ap (λ i. Some (answer_to a i)) (led-place g w none a.target l)) (each-from_is (λ (a : Answer). Leads g none a.target) answers s))

-- what is read of the calls of a match node
module _ {Y : Type 0} where
  pub match-read : (f : BuilderCall → Option Y) (g : Plan) (keys : List Key) (peeks : List Peek) (other : Other) (a b c : List Y) → filter_map f (map (key_call g) keys) ≡ a → filter_map f (map (peek_call g) peeks) ≡ b → filter_map f (other_call g other ∷ []) ≡ c → filter_map f (map (key_call g) keys ++ map (peek_call g) peeks ++ other_call g other ∷ []) ≡ a ++ b ++ c
  match-read f g keys peeks other a b c p q r =
      filter_map-append f (map (key_call g) keys ++ map (peek_call g) peeks) (other_call g other ∷ [])
      ∙ ap₂ ◌++◌ (filter_map-append f (map (key_call g) keys) (map (peek_call g) peeks) ∙ ap₂ ◌++◌ p q) r

  pub invoke-read : (f : BuilderCall → Option Y) (g : Plan) (answers : List Answer) (next : ℕ) (a b : List Y) → filter_map f (map (answer_call g) answers) ≡ a → filter_map f (else_call g next ∷ []) ≡ b → filter_map f (map (answer_call g) answers ++ else_call g next ∷ []) ≡ a ++ b
  invoke-read f g answers next a b p q =
      filter_map-append f (map (answer_call g) answers) (else_call g next ∷ []) ∙ ap₂ ◌++◌ p q

match-told : (g : Plan) → IsWellFormed g → (fold : Fold) (keys : List Key) (peeks : List Peek) (other : Other) → AreEdges g fold keys peeks → Leads g none other.target → kind_of (tables g) (named_kind g (placed.Match fold keys peeks other)) (edge_calls g (placed.Match fold keys peeks other)) ≡ placed.Match fold keys peeks other
match-told g w fold keys peeks other s l =
    let t = tables g in
    let k = match-read (key_edge t) g keys peeks other keys [] [] (keys-told g w fold keys s.each_key) (nothing-told (peek_call g) (key_edge t) peeks (λ p. refl)) refl ∙ append-nil (keys ++ []) ∙ append-nil keys in
    let p = match-read (peek_edge t) g keys peeks other [] peeks [] (nothing-told (key_call g) (peek_edge t) keys (λ p. refl)) (peeks-told g w fold peeks s.each_peek) refl ∙ append-nil peeks in
    let o = match-read (other_edge t) g keys peeks other [] [] (other ∷ []) (nothing-told (key_call g) (other_edge t) keys (λ p. refl)) (nothing-told (peek_call g) (other_edge t) peeks (λ p. refl)) (ap (λ i. other_to other i ∷ []) (led-place g w none other.target l)) in
    let first : List Other → Other = λ os. unwrap_or (first_of os) (record { skip = false; target = 0 }) in
    ap (λ ks. placed.Match fold ks (filter_map (peek_edge t) (edge_calls g (placed.Match fold keys peeks other))) (first (filter_map (other_edge t) (edge_calls g (placed.Match fold keys peeks other))))) k
    ∙ ap (λ ps. placed.Match fold keys ps (first (filter_map (other_edge t) (edge_calls g (placed.Match fold keys peeks other))))) p
    ∙ ap (λ os. placed.Match fold keys peeks (first os)) o

invoke-told : (g : Plan) → IsWellFormed g → (what : Code) (answers : List Answer) (next : ℕ) → CodeFits g what → AreAnswers g answers → Leads g none next → kind_of (tables g) (named_kind g (placed.Invoke what answers next)) (edge_calls g (placed.Invoke what answers next)) ≡ placed.Invoke what answers next
invoke-told g w what answers next f s l =
    let t = tables g in
    let calls = edge_calls g (placed.Invoke what answers next) in
    let a = invoke-read (answer_edge t) g answers next answers [] (answers-told g w answers s.leads) refl ∙ append-nil answers in
    let o = invoke-read (other_edge t) g answers next [] (else_to next ∷ []) (nothing-told (answer_call g) (other_edge t) answers (λ p. refl)) (ap (λ i. else_to i ∷ []) (led-place g w none next l)) in
    let first : List Other → ℕ = λ os. (unwrap_or (first_of os) (else_to 0)).target in
    ap (λ c. placed.Invoke c (filter_map (answer_edge t) calls) (first (filter_map (other_edge t) calls))) (code-told g w what f)
    ∙ ap (λ xs. placed.Invoke what xs (first (filter_map (other_edge t) calls))) a
    ∙ ap (λ os. placed.Invoke what answers (first os)) o

-- a kind, with the calls of its edges
kind-told : (g : Plan) → IsWellFormed g → (k : Kind) → FitsIn g k → kind_of (tables g) (named_kind g k) (edge_calls g k) ≡ k
kind-told g w (placed.Match fold keys peeks other) f = match-told g w fold keys peeks other f.0 f.1
kind-told g w (placed.Invoke what answers next) f = invoke-told g w what answers next f.0 f.1 f.2
kind-told g w (placed.Consume prop next) f = ap₂ placed.Consume (prop-below g w prop f.0) (led-place g w none next f.1)
kind-told g w (placed.SpanOpen span next) f = ap₂ placed.SpanOpen (span-below g w span f.0) (led-place g w none next f.1)
kind-told g w (placed.SpanClose span next) f = ap₂ placed.SpanClose (span-below g w span f.0) (led-place g w none next f.1)
kind-told g w (placed.Pause number reason next) f = ap (placed.Pause number reason) (led-place g w none next f.1)
kind-told g w (placed.Fail number reason) f = refl

-- the nodes
nodes-told : (g : Plan) → IsWellFormed g → (nodes : List Node) → Each (λ (n : Node). FitsIn g n.kind) nodes → nodes_in (tables g) (flat_map (node_calls g) nodes) ≡ nodes
nodes-told g w [] s = refl
nodes-told g w (n ∷ nodes) s =
    let rest = flat_map (node_calls g) nodes in
    let own : kind_of (tables g) (named_kind g n.kind) (own_calls (edge_calls g n.kind ++ rest)) ≡ n.kind = ap (kind_of (tables g) (named_kind g n.kind)) (own-node g n.kind nodes) ∙ kind-told g w n.kind s.0 in
    ap₂ ◌∷◌ (ap (λ k. node_to n.name k) own) (nodes_in-edges (tables g) (edge_calls g n.kind) rest (each-edge g n.kind) ∙ nodes-told g w nodes s.1)

-- the entry and the finish rule
entries-told : (t : Tables) (g : Plan) (rule : Option (ℕ × ℕ)) → filter_map (entry_node t) (call.Entry (node_name g g.entry) ∷ finish_calls g rule) ≡ place_of t.nodes (node_name g g.entry) ∷ []
entries-told t g none = refl
entries-told t g (Some rule) = refl

entry-told : (g : Plan) → IsWellFormed g → entry_in (tables g) (calls_of g) ≡ g.entry
entry-told g w =
    let t = tables g in
    ap (λ es. unwrap_or (first_of es) 0)
    (whole-told (entry_node t) g [] [] [] (place_of t.nodes (node_name g g.entry) ∷ []) []
    (nothing-told prop_call (entry_node t) g.props (λ h. refl))
    (nothing-told host_call (entry_node t) g.hosts (λ h. refl))
    (nothing-told span_call (entry_node t) g.spans (λ h. refl))
    (entries-told t g g.finish)
    (nodes-nothing (entry_node t) g g.nodes (λ n k. refl) (λ k u. refl)))
    ∙ led-place g w none g.entry w.entry

-- the rule, in a list of its own
abbrev rules : Option (ℕ × ℕ) → List (ℕ × ℕ)
rules none = []
rules (Some rule) = rule ∷ []

rules-told : (g : Plan) → IsWellFormed g → (rule : Option (ℕ × ℕ)) → FinishFits g rule → filter_map (finish_places (tables g)) (call.Entry (node_name g g.entry) ∷ finish_calls g rule) ≡ rules rule
rules-told g w none f = refl
rules-told g w (Some rule) f =
    ap₂ (λ (p h : ℕ). (p, h) ∷ []) (prop-below g w rule.0 f.0) (host-place g w rule.1 f.1 f.2)

first-rule : (rule : Option (ℕ × ℕ)) → first_of (rules rule) ≡ rule
first-rule none = refl
first-rule (Some rule) = refl

finish-told : (g : Plan) → IsWellFormed g → finish_in (tables g) (calls_of g) ≡ g.finish
finish-told g w =
    let t = tables g in
    ap first_of
    (whole-told (finish_places t) g [] [] [] (rules g.finish) []
    (nothing-told prop_call (finish_places t) g.props (λ h. refl))
    (nothing-told host_call (finish_places t) g.hosts (λ h. refl))
    (nothing-told span_call (finish_places t) g.spans (λ h. refl))
    (rules-told g w g.finish w.finish)
    (nodes-nothing (finish_places t) g g.nodes (λ n k. refl) (λ k u. refl))
    ∙ append-nil (rules g.finish))
    ∙ first-rule g.finish

same-plan : (props : List PropDecl) (a a' : List HostDecl) (b b' : List SpanDecl) (c c' : List Node) (d d' : ℕ) (e e' : Option (ℕ × ℕ)) → a ≡ a' → b ≡ b' → c ≡ c' → d ≡ d' → e ≡ e' → plan_to props a b c d e ≡ plan_to props a' b' c' d' e'
same-plan props a a' b b' c c' d d' e e' p q r s t = rw (p, q, r, s, t) refl

-- the calls that tell a graph give it again
pub built-told : (g : Plan) → IsWellFormed g → built (calls_of g) ≡ g
built-told g w =
    ap (λ t. built_by t (calls_of g)) (tables-told g)
    ∙ same-plan g.props _ g.hosts _ g.spans _ g.nodes _ g.entry _ g.finish (hosts-told g) (spans-told g)
    (nodes_in-calls (tables g) g ∙ nodes-told g w g.nodes (each-from_is (λ (n : Node). FitsIn g n.kind) g.nodes w.kinds)) (entry-told g w) (finish-told g w)
