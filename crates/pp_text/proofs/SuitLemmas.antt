-- Each call that tells a graph has its form, names what is declared, and carries what its target takes.
use Rattle.std.proofs.Common.{◌≡◌, ℕ, ◌<◌, List, [], ◌∷◌, ◌++◌, Bool, true, false, not, ◌&&◌, ◌||◌, nat_lt, length, map, slice_get, flat_map, Option, Some, refl, ap, sym, ◌∙◌, subst, arith}
use Rattle.std.specs.Prelude.{None as none}
use Rattle.pp_bytes.specs.declared.fold.Fold.{Fold}
use Rattle.pp_rules.specs.declared.declaration.PropDecl.{PropDecl}
use Rattle.pp_rules.specs.declared.declaration.HostDecl.{HostDecl}
use Rattle.pp_rules.specs.declared.declaration.SpanDecl.{SpanDecl}
use Rattle.pp_graph.specs.declared.node.Code.{Code}
use Rattle.pp_graph.specs.declared.node.Code.TheVariants as placed_code
use Rattle.pp_graph.specs.declared.node.Key.{Key}
use Rattle.pp_graph.specs.declared.node.Peek.{Peek}
use Rattle.pp_graph.specs.declared.node.Answer.{Answer}
use Rattle.pp_graph.specs.declared.node.Kind.{Kind}
use Rattle.pp_graph.specs.declared.node.Kind.TheVariants as placed
use Rattle.pp_graph.specs.declared.node.Node.{Node}
use Rattle.pp_rules.specs.declared.call.NamedCode.{NamedCode}
use Rattle.pp_rules.specs.declared.call.NamedEdge.{NamedEdge}
use Rattle.pp_rules.specs.declared.call.NamedEdge.TheVariants as edge
use Rattle.pp_rules.specs.declared.call.BuilderCall.{BuilderCall}
use Rattle.pp_rules.specs.declared.call.BuilderCall.TheVariants as call
use Rattle.pp_rules.specs.declared.call.Sort.TheVariants as sort
use Rattle.pp_rules.specs.Names.{IsName}
use Rattle.pp_rules.specs.Widths.{greatest}
use Rattle.pp_graph.specs.Plan.{Plan, IsWellFormed, Leads, Holds, CodeFits, FitsIn, FinishFits, IsKey, IsPeek}
use Rattle.pp_graph.specs.Calls.{HasForm, HaveForm, CodeHasForm}
use Rattle.pp_rules.specs.Calls.{is_declared, named_by_code}
use Rattle.pp_rules.specs.Rules.Names.{names_unknown}
use Rattle.pp_rules.specs.Rules.Numbers.{is_value_fault, is_too_wide, is_wide_code, is_value_node, carries_number}
use Rattle.pp_rules.specs.Rules.Form.{is_empty_key}
use Rattle.pp_rules.specs.Edges.{edge_of}
use Rattle.pp_rules.specs.Declarations.{greatest_of, tables_of}
use Rattle.pp_graph.proofs.TableLemmas.{Each, each-at}
use Rattle.pp_graph.proofs.EachLemmas.{each-map, each-append}
use Rattle.pp_graph.proofs.SortLemmas.{there-at}
use Rattle.pp_text.specs.Telling.{calls_of, prop_call, host_call, span_call, finish_calls, node_calls, edge_calls, key_call, peek_call, answer_call, other_call, else_call, node_name, prop_name, host_name, span_name, named_code, named_kind}
use Rattle.pp_text.proofs.ListLemmas.{name-at, each-from_is, each-map_of}
use Rattle.pp_text.proofs.ShapeLemmas.{calls_of-parts, ends_calls, nodes_calls}
use Rattle.pp_text.proofs.NameLemmas.{prop-declared, host-declared, span-declared, node-declared, greatest-at, value_host-at, value_node-at, narrow_node-at, not_over}

-- what holds of the calls of each part holds of all
each-nodes : (P : BuilderCall → Type 0) (g : Plan) (nodes : List Node) → Each (λ n. Each P (node_calls g n)) nodes → Each P (flat_map (node_calls g) nodes)
each-nodes P g [] s = tt
each-nodes P g (n ∷ nodes) s = each-append P (node_calls g n) (flat_map (node_calls g) nodes) s.0 (each-nodes P g nodes s.1)

pub each-calls : (P : BuilderCall → Type 0) (g : Plan) → Each (λ p. P (prop_call p)) g.props → Each (λ h. P (host_call h)) g.hosts → Each (λ s. P (span_call s)) g.spans → Each P (ends_calls g) → Each (λ n. Each P (node_calls g n)) g.nodes → Each P (calls_of g)
each-calls P g p h s e n =
    let props = map prop_call g.props in
    let hosts = map host_call g.hosts in
    let spans = map span_call g.spans in
    subst (Each P) (sym (calls_of-parts g))
    (each-append P props (hosts ++ (spans ++ (ends_calls g ++ nodes_calls g))) (each-map_of prop_call P g.props p)
    (each-append P hosts (spans ++ (ends_calls g ++ nodes_calls g)) (each-map_of host_call P g.hosts h)
    (each-append P spans (ends_calls g ++ nodes_calls g) (each-map_of span_call P g.spans s)
    (each-append P (ends_calls g) (nodes_calls g) e (each-nodes P g g.nodes n)))))

-- the edge to a node, taken by this rule
abbrev pub edge_to : Plan → NamedEdge → ℕ → BuilderCall
edge_to g when i = call.Edge when (node_name g i)

-- what holds of each edge that may stand at a node holds of the edges of a kind
each-edges : (P : BuilderCall → Type 0) (g : Plan) (k : Kind) → FitsIn g k → ((fold : Fold) (k : Key) → IsKey g fold k → P (key_call g k)) → ((p : Peek) → Leads g none p.target → P (peek_call g p)) → ((a : Answer) → Leads g none a.target → P (answer_call g a)) → ((skip : Bool) (i : ℕ) → Leads g none i → P (edge_to g (edge.Otherwise skip) i)) → Each P (edge_calls g k)
each-edges P g (placed.Match fold keys peeks other) f key peek answer otherwise =
    each-append P (map (key_call g) keys ++ map (peek_call g) peeks) (other_call g other ∷ [])
    (each-append P (map (key_call g) keys) (map (peek_call g) peeks)
    (each-map_of (key_call g) P keys (each-map (IsKey g fold) (λ k. P (key_call g k)) keys (key fold) (each-from_is (IsKey g fold) keys f.0.each_key)))
    (each-map_of (peek_call g) P peeks (each-map (IsPeek g fold) (λ p. P (peek_call g p)) peeks (λ p h. peek p h.leads) (each-from_is (IsPeek g fold) peeks f.0.each_peek))))
    (otherwise other.skip other.target f.1, tt)
each-edges P g (placed.Invoke what answers other) f key peek answer otherwise =
    each-append P (map (answer_call g) answers) (else_call g other ∷ [])
    (each-map_of (answer_call g) P answers (each-map (λ (a : Answer). Leads g none a.target) (λ a. P (answer_call g a)) answers answer (each-from_is (λ (a : Answer). Leads g none a.target) answers f.1.leads)))
    (otherwise false other f.2, tt)
each-edges P g (placed.Consume prop next) f key peek answer otherwise = (otherwise false next f.1, tt)
each-edges P g (placed.SpanOpen span next) f key peek answer otherwise = (otherwise false next f.1, tt)
each-edges P g (placed.SpanClose span next) f key peek answer otherwise = (otherwise false next f.1, tt)
each-edges P g (placed.Pause number reason next) f key peek answer otherwise = (otherwise false next f.1, tt)
each-edges P g (placed.Fail number reason) f key peek answer otherwise = tt

-- the name at a place has its form
prop-named : (g : Plan) → IsWellFormed g → (i : ℕ) (p : PropDecl) → slice_get g.props i ≡ Some p → IsName (prop_name g i)
prop-named g w i p e = subst IsName (sym (name-at (λ (p : PropDecl). p.name) g.props i p e)) (w.props_named i p e)

host-named : (g : Plan) → IsWellFormed g → (i : ℕ) (h : HostDecl) → slice_get g.hosts i ≡ Some h → IsName (host_name g i)
host-named g w i h e = subst IsName (sym (name-at (λ (h : HostDecl). h.name) g.hosts i h e)) (w.hosts_named i h e)

span-named : (g : Plan) → IsWellFormed g → (i : ℕ) (s : SpanDecl) → slice_get g.spans i ≡ Some s → IsName (span_name g i)
span-named g w i s e = subst IsName (sym (name-at (λ (s : SpanDecl). s.name) g.spans i s e)) (w.spans_named i s e)

node-named : (g : Plan) → IsWellFormed g → (i : ℕ) (n : Node) → slice_get g.nodes i ≡ Some n → IsName (node_name g i)
node-named g w i n e = subst IsName (sym (name-at (λ (n : Node). n.name) g.nodes i n e)) (w.nodes_named i n e)

-- what the form and four of the rules say at a call of all the calls
pub record Suits (all : List BuilderCall) (c : BuilderCall) : Type 0 where
  pub form : HasForm c
  pub known : names_unknown all c ≡ false
  pub valued : is_value_fault all c ≡ false
  pub wide : is_too_wide all c ≡ false
  pub filled : is_empty_key (edge_of c) ≡ false

-- a test that names one thing, or two, that are declared
known-one : (b : Bool) → b ≡ true → (not b || false) ≡ false
known-one true e = refl
known-one false e = sym e

known-two : (b c : Bool) → b ≡ true → c ≡ true → (not b || (not c || false)) ≡ false
known-two true c e h = known-one c h
known-two false c e h = sym e

-- a code
abbrev Code-suits : Plan → NamedCode → Type 0
Code-suits g c = CodeHasForm c × (is_declared (calls_of g) (named_by_code c) ≡ true) × (is_wide_code (calls_of g) c ≡ false)

holds-suit : (g : Plan) → IsWellFormed g → (prop value : ℕ) → Holds g prop value → IsName (prop_name g prop) × (is_declared (calls_of g) (sort.Prop, prop_name g prop) ≡ true) × (nat_lt (greatest_of (tables_of (calls_of g)) (prop_name g prop)) value ≡ false)
holds-suit g w prop value h = (
  prop-named g w prop h.0 h.1,
  prop-declared g prop h.0 h.1,
  ap (λ m. nat_lt m value) (greatest-at g w prop h.0 h.1) ∙ not_over (greatest h.0.width) value h.2,
)

code-suits : (g : Plan) → IsWellFormed g → (c : Code) → CodeFits g c → Code-suits g (named_code g c)
code-suits g w (placed_code.Call host) f =
    let at = there-at g.hosts host f in
    (host-named g w host at.0 at.1, host-declared g host at.0 at.1, refl)
code-suits g w (placed_code.Store prop) f =
    let at = there-at g.props prop f in
    (prop-named g w prop at.0 at.1, prop-declared g prop at.0 at.1, refl)
code-suits g w (placed_code.Load prop) f =
    let at = there-at g.props prop f in
    (prop-named g w prop at.0 at.1, prop-declared g prop at.0 at.1, refl)
code-suits g w (placed_code.Update prop value) f = holds-suit g w prop value f
code-suits g w (placed_code.Equal prop value) f = holds-suit g w prop value f
code-suits g w (placed_code.And prop value) f = holds-suit g w prop value f
code-suits g w (placed_code.Or prop value) f = holds-suit g w prop value f
code-suits g w (placed_code.Test prop value) f = holds-suit g w prop value f
code-suits g w (placed_code.MulAdd prop base most) f = holds-suit g w prop most f

-- a node
node-suits : (g : Plan) → IsWellFormed g → (name : List ℕ) (k : Kind) → IsName name → FitsIn g k → Suits (calls_of g) (call.Node name (named_kind g k))
node-suits g w name (placed.Match fold keys peeks other) i f = record { form = (i, tt); known = refl; valued = refl; wide = refl; filled = refl }
node-suits g w name (placed.Invoke what answers other) i f =
    let s = code-suits g w what f.0 in
    record { form = (i, s.0); known = known-one (is_declared (calls_of g) (named_by_code (named_code g what))) s.1; valued = refl; wide = s.2; filled = refl }
node-suits g w name (placed.Consume prop next) i f =
    let at = there-at g.props prop f.0 in
    record { form = (i, prop-named g w prop at.0 at.1); known = known-one (is_declared (calls_of g) (sort.Prop, prop_name g prop)) (prop-declared g prop at.0 at.1); valued = refl; wide = refl; filled = refl }
node-suits g w name (placed.SpanOpen span next) i f =
    let at = there-at g.spans span f.0 in
    record { form = (i, span-named g w span at.0 at.1); known = known-one (is_declared (calls_of g) (sort.Span, span_name g span)) (span-declared g span at.0 at.1); valued = refl; wide = refl; filled = refl }
node-suits g w name (placed.SpanClose span next) i f =
    let at = there-at g.spans span f.0 in
    record { form = (i, span-named g w span at.0 at.1); known = known-one (is_declared (calls_of g) (sort.Span, span_name g span)) (span-declared g span at.0 at.1); valued = refl; wide = refl; filled = refl }
node-suits g w name (placed.Pause number reason next) i f = record { form = (i, f.0); known = refl; valued = refl; wide = refl; filled = refl }
node-suits g w name (placed.Fail number reason) i f = record { form = (i, f); known = refl; valued = refl; wide = refl; filled = refl }

-- an edge without a number
no-value : (b : Bool) → b ≡ false → (true && b || false && not b) ≡ false
no-value true e = e
no-value false e = refl

plain-suits : (g : Plan) → IsWellFormed g → (when : NamedEdge) (i : ℕ) → carries_number when ≡ false → is_empty_key (Some when) ≡ false → is_too_wide (calls_of g) (edge_to g when i) ≡ false → Leads g none i → Suits (calls_of g) (edge_to g when i)
plain-suits g w when i c e t l =
    let all = calls_of g in
    let target = node_name g i in
    let taken : is_value_node all target ≡ false = value_node-at g w i l.0 l.1 ∙ l.2 in
    record {
      form = node-named g w i l.0 l.1;
      known = known-one (is_declared all (sort.Node, target)) (node-declared g i l.0 l.1);
      valued = ap (λ b. not b && is_value_node all target || b && not (is_value_node all target)) c ∙ no-value (is_value_node all target) taken;
      wide = t;
      filled = e;
    }

-- an edge with a number
some-value : (b : Bool) → b ≡ true → (false && b || true && not b) ≡ false
some-value true e = refl
some-value false e = sym e

filled-key : (bytes : List ℕ) (number : Option ℕ) → 0 < length bytes → is_empty_key (Some (edge.Key bytes number)) ≡ false
filled-key [] number h = absurd (omega arith)
filled-key (b ∷ bytes) number h = refl

key-suits : (g : Plan) → IsWellFormed g → (bytes : List ℕ) (number : Option ℕ) (i : ℕ) → 0 < length bytes → Leads g number i → Suits (calls_of g) (edge_to g (edge.Key bytes number) i)
key-suits g w bytes none i h l = plain-suits g w (edge.Key bytes none) i refl (filled-key bytes none h) refl l
key-suits g w bytes (Some number) i h l =
    let all = calls_of g in
    let target = node_name g i in
    let taken : is_value_node all target ≡ true = value_node-at g w i l.0 l.1 ∙ l.2 in
    record {
      form = node-named g w i l.0 l.1;
      known = known-one (is_declared all (sort.Node, target)) (node-declared g i l.0 l.1);
      valued = some-value (is_value_node all target) taken;
      wide = narrow_node-at g w number i l.0 l.1 l.3;
      filled = filled-key bytes (Some number) h;
    }

edges-suit : (g : Plan) → IsWellFormed g → (k : Kind) → FitsIn g k → Each (Suits (calls_of g)) (edge_calls g k)
edges-suit g w k f =
    each-edges (Suits (calls_of g)) g k f
    (λ fold k s. key-suits g w k.bytes k.number k.target s.some s.leads)
    (λ p l. plain-suits g w (edge.Peek p.byte) p.target refl refl refl l)
    (λ a l. plain-suits g w (edge.Answer a.number) a.target refl refl refl l)
    (λ skip i l. plain-suits g w (edge.Otherwise skip) i refl refl refl l)

-- the entry and the finish rule
entry-suits : (g : Plan) → IsWellFormed g → (i : ℕ) → Leads g none i → Suits (calls_of g) (call.Entry (node_name g i))
entry-suits g w i l = record {
  form = node-named g w i l.0 l.1;
  known = known-one (is_declared (calls_of g) (sort.Node, node_name g i)) (node-declared g i l.0 l.1);
  valued = value_node-at g w i l.0 l.1 ∙ l.2;
  wide = refl;
  filled = refl;
}

finish-suits : (g : Plan) → IsWellFormed g → (rule : Option (ℕ × ℕ)) → FinishFits g rule → Each (Suits (calls_of g)) (finish_calls g rule)
finish-suits g w none f = tt
finish-suits g w (Some rule) f =
    let all = calls_of g in
    let at = there-at g.props rule.0 f.0 in (
      record {
        form = (prop-named g w rule.0 at.0 at.1, host-named g w rule.1 f.1 f.2);
        known = known-two (is_declared all (sort.Prop, prop_name g rule.0)) (is_declared all (sort.Host, host_name g rule.1)) (prop-declared g rule.0 at.0 at.1) (host-declared g rule.1 f.1 f.2);
        valued = value_host-at g w rule.1 f.1 f.2 ∙ f.3;
        wide = refl;
        filled = refl;
      },
      tt,
    )

-- a node and its edges
abbrev IsNamed : Plan → Node → Type 0
IsNamed g n = IsName n.name × FitsIn g n.kind

pub calls-suit : (g : Plan) → IsWellFormed g → Each (Suits (calls_of g)) (calls_of g)
calls-suit g w =
    let all = calls_of g in
    each-calls (Suits all) g
    (each-map (λ (p : PropDecl). IsName p.name) (λ p. Suits all (prop_call p)) g.props (λ p i. record { form = i; known = refl; valued = refl; wide = refl; filled = refl }) (each-from_is (λ (p : PropDecl). IsName p.name) g.props w.props_named))
    (each-map (λ (p : HostDecl). IsName p.name) (λ p. Suits all (host_call p)) g.hosts (λ p i. record { form = i; known = refl; valued = refl; wide = refl; filled = refl }) (each-from_is (λ (p : HostDecl). IsName p.name) g.hosts w.hosts_named))
    (each-map (λ (p : SpanDecl). IsName p.name) (λ p. Suits all (span_call p)) g.spans (λ p i. record { form = i; known = refl; valued = refl; wide = refl; filled = refl }) (each-from_is (λ (p : SpanDecl). IsName p.name) g.spans w.spans_named))
    (entry-suits g w g.entry w.entry, finish-suits g w g.finish w.finish)
    (each-map (IsNamed g) (λ n. Each (Suits all) (node_calls g n)) g.nodes (λ n s. (node-suits g w n.name n.kind s.0 s.1, edges-suit g w n.kind s.1)) (each-from_is (IsNamed g) g.nodes (λ i n e. (w.nodes_named i n e, w.kinds i n e))))

-- each has its form
pub calls-formed : (g : Plan) → IsWellFormed g → HaveForm (calls_of g)
calls-formed g w = λ i c e. (each-at (Suits (calls_of g)) (calls_of g) (calls-suit g w) i c e).form
