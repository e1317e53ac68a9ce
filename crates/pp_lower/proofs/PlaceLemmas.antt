-- The nodes of a well-formed graph give few states, and their edges lead to nodes.
use Rattle.std.proofs.Common.{subst, ◌≡◌, ◌<◌, ◌≤◌, ◌+◌, ◌-◌, ℕ, zero, suc, List, [], ◌∷◌, Option, Some, None, Bool, true, false, cond, sym, ◌∙◌, ap, arith, length, take, map, get_or}
use Rattle.std.specs.Prelude.{slice_get, fold, sum_by, bytes_eq}
use Rattle.std.proofs.lemmas.List.Sums.{sum_by-cons}
use Rattle.std.proofs.lemmas.Option.{slice_get_within}
use Rattle.pp_rules.specs.declared.declaration.PropDecl.{PropDecl}
use Rattle.pp_rules.specs.declared.declaration.HostDecl.{HostDecl}
use Rattle.pp_rules.specs.declared.declaration.SpanDecl.{SpanDecl}
use Rattle.pp_graph.specs.declared.node.Key.{Key}
use Rattle.pp_graph.specs.declared.node.Answer.{Answer}
use Rattle.pp_graph.specs.declared.node.Kind.{Kind}
use Rattle.pp_graph.specs.declared.node.Kind.TheVariants.{Match, Invoke, Consume, SpanOpen, SpanClose, Pause, Fail}
use Rattle.pp_graph.specs.declared.node.Node.{Node}
use Rattle.pp_graph.specs.Plan.{Plan, key_bytes, Leads, IsKey, IsPeek, FitsIn, IsWellFormed, weight_of}
use Rattle.pp_program.specs.declared.program.State.{State}
use Rattle.pp_program.specs.declared.program.Program.{Program}
use Rattle.pp_lower.specs.Tree.{comes_before, with_prefix, with_prefixes, with_text}
use Rattle.pp_lower.specs.Lowered.{inner_of, size, root_of, states_by, lowered}
use Rattle.pp_lower.specs.steps.Parts.{Gives, KindBelow, CanBePlaced, total}
use Rattle.pp_lower.proofs.Keys.{contains_has}
use Rattle.pp_lower.proofs.CutLemmas.{get_same}
use Rattle.pp_lower.proofs.FormLaws.{has_get, each_contains}

with_short : (p : List ℕ) (l : List (List ℕ)) → length (with_prefix p l) ≤ suc (length l)
with_short p [] = omega arith
with_short p (q ∷ l) = go (bytes_eq p q) (comes_before p q) (with_short p l)
  where
    go : (u v : Bool) → length (with_prefix p l) ≤ suc (length l) → length (cond u (q ∷ l) (cond v (p ∷ q ∷ l) (q ∷ with_prefix p l))) ≤ suc (suc (length l))
    go true v h = omega arith
    go false true h = omega arith
    go false false h = omega arith

prefixes_short : (l : List (List ℕ)) (text : List ℕ) (n : ℕ) → length (with_prefixes l text n) ≤ length l + n
prefixes_short l text zero = omega arith
prefixes_short l text (suc n) =
    let one : length (with_prefix (take (suc n) text) (with_prefixes l text n)) ≤ suc (length (with_prefixes l text n)) = with_short (take (suc n) text) (with_prefixes l text n) in
    let rest : length (with_prefixes l text n) ≤ length l + n = prefixes_short l text n in
    omega (arith, one, rest)

keys_short : (l : List (List ℕ)) (keys : List Key) → length (fold (with_text 1) l (key_bytes keys)) ≤ length l + sum_by (λ (k : Key). length k.bytes) keys
keys_short l [] = omega arith
keys_short l (k ∷ keys) =
    let one : length (with_text 1 l k.bytes) ≤ length l + (length k.bytes - 1) = prefixes_short l k.bytes (length k.bytes - 1) in
    let rest : length (fold (with_text 1) l (key_bytes (k ∷ keys))) ≤ length (with_text 1 l k.bytes) + sum_by (λ (x : Key). length x.bytes) keys = keys_short (with_text 1 l k.bytes) keys in
    let more : sum_by (λ (x : Key). length x.bytes) (k ∷ keys) ≡ length k.bytes + sum_by (λ (x : Key). length x.bytes) keys = sum_by-cons (λ (x : Key). length x.bytes) k keys in
    omega (arith, one, rest, more)

-- a node gives at most one state more than its weight
pub size_light : (k : Kind) → size k ≤ suc (weight_of k)
size_light (Match folding keys peeks other) =
    let short : length (inner_of keys) ≤ 0 + sum_by (λ (k : Key). length k.bytes) keys = keys_short [] keys in
    omega (arith, short)
size_light (Invoke what answers other) = omega arith
size_light (Consume prop next) = omega arith
size_light (SpanOpen span next) = omega arith
size_light (SpanClose span next) = omega arith
size_light (Pause number reason next) = omega arith
size_light (Fail number reason) = omega arith

pub total_light : (nodes : List Node) → total nodes ≤ length nodes + sum_by (λ (n : Node). weight_of n.kind) nodes
total_light [] = omega arith
total_light (n ∷ nodes) =
    let one : size n.kind ≤ suc (weight_of n.kind) = size_light n.kind in
    let rest : root_of nodes (length nodes) ≤ length nodes + sum_by (λ (x : Node). weight_of x.kind) nodes = total_light nodes in
    let more : sum_by (λ (x : Node). weight_of x.kind) (n ∷ nodes) ≡ weight_of n.kind + sum_by (λ (x : Node). weight_of x.kind) nodes =
    sum_by-cons (λ (x : Node). weight_of x.kind) n nodes in
    omega (arith, one, rest, more)

pub leads_below : (g : Plan) (number : Option ℕ) (t : ℕ) → Leads g number t → t < length g.nodes
leads_below g None t l = slice_get_within g.nodes t l.0 l.1
leads_below g (Some number) t l = slice_get_within g.nodes t l.0 l.1

kind_below : (g : Plan) (k : Kind) → FitsIn g k → KindBelow (length g.nodes) k
kind_below g (Match fold keys peeks other) fits =
    let few : length keys ≤ 2048 = fits.0.few in (
      (λ k c. leads_below g k.number k.target (each_contains (IsKey g fold) keys k fits.0.each_key c).leads),
      (λ p c. leads_below g None p.target (each_contains (IsPeek g fold) peeks p fits.0.each_peek c).leads),
      leads_below g None other.target fits.1,
      omega (arith, few),
    )
kind_below g (Invoke what answers other) fits = (
  (λ a c. leads_below g None a.target (each_contains (λ (x : Answer). Leads g None x.target) answers a fits.1.leads c)),
  leads_below g None other fits.2,
)
kind_below g (Consume prop next) fits = leads_below g None next fits.1
kind_below g (SpanOpen span next) fits = leads_below g None next fits.1
kind_below g (SpanClose span next) fits = leads_below g None next fits.1
kind_below g (Pause number reason next) fits = leads_below g None next fits.1
kind_below g (Fail number reason) fits = tt

-- the nodes of a well-formed graph can be placed
pub placed : (g : Plan) (nodes : List Node) → nodes ≡ g.nodes → IsWellFormed g → CanBePlaced nodes
placed g nodes e form = subst CanBePlaced (sym e) (record {
  below = λ n c. (let at : (i : ℕ) × (slice_get g.nodes i ≡ Some n) = has_get g.nodes n (contains_has g.nodes n c) in kind_below g n.kind (form.kinds at.0 n at.1));
  fits =
      (let light : total g.nodes ≤ length g.nodes + sum_by (λ (n : Node). weight_of n.kind) g.nodes = total_light g.nodes in
      let few : length g.nodes ≤ 4096 = form.few_nodes in
      let weight : sum_by (λ (n : Node). weight_of n.kind) g.nodes ≤ 20000 = form.light in
      omega (arith, light, few, weight));
})

-- the entry is a node
pub entry_below : (g : Plan) (nodes : List Node) (entry n : ℕ) → nodes ≡ g.nodes → entry ≡ g.entry → n ≡ length nodes → IsWellFormed g → entry < n
entry_below g nodes entry n e f l form =
    let below : g.entry < length g.nodes = leads_below g None g.entry form.entry in
    let long : length nodes ≡ length g.nodes = ap length e in
    omega (arith, below, long, f, l)

-- the root that was read is that of the entry
pub entry_root : (roots : List ℕ) (nodes : List Node) (entry e t : ℕ) → entry < length roots → t ≡ get_or roots entry t → Gives roots (root_of nodes) → entry ≡ e → t ≡ root_of nodes e
entry_root roots nodes entry e t h r gives same = r ∙ get_same roots entry t 0 h ∙ gives entry h ∙ ap (root_of nodes) same

abbrev program : List PropDecl → List HostDecl → List SpanDecl → List (List ℕ) → List State → ℕ → Option (ℕ × ℕ) → Program
program props hosts spans names states entry finish = record { props = props; hosts = hosts; spans = spans; names = names; states = states; entry = entry; finish = finish }

-- a program of these parts is that of the graph
pub program_is : (g : Plan) (nodes : List Node) (props : List PropDecl) (hosts : List HostDecl) (spans : List SpanDecl) (names : List (List ℕ)) (states : List State) (entry : ℕ) (finish : Option (ℕ × ℕ)) → nodes ≡ g.nodes →
    props ≡ g.props → hosts ≡ g.hosts → spans ≡ g.spans → names ≡ map (λ (n : Node). n.name) nodes → states ≡ states_by nodes → entry ≡ root_of nodes g.entry → finish ≡ g.finish →
    record { props = props; hosts = hosts; spans = spans; names = names; states = states; entry = entry; finish = finish } ≡ lowered g
program_is g nodes props hosts spans names states entry finish e p h s n t r f =
    ap (λ x. program x hosts spans names states entry finish) p
    ∙ ap (λ x. program g.props x spans names states entry finish) h
    ∙ ap (λ x. program g.props g.hosts x names states entry finish) s
    ∙ ap (λ x. program g.props g.hosts g.spans x states entry finish) (n ∙ ap (map (λ (m : Node). m.name)) e)
    ∙ ap (λ x. program g.props g.hosts g.spans (map (λ (m : Node). m.name) g.nodes) x entry finish) (t ∙ ap states_by e)
    ∙ ap (λ x. program g.props g.hosts g.spans (map (λ (m : Node). m.name) g.nodes) (states_by g.nodes) x finish) (r ∙ ap (λ (l : List Node). root_of l g.entry) e)
    ∙ ap (λ x. program g.props g.hosts g.spans (map (λ (m : Node). m.name) g.nodes) (states_by g.nodes) (root_of g.nodes g.entry) x) f
