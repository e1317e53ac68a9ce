-- The names that the calls declare: no two of a sort are equal, and each sort has room.
use Rattle.std.proofs.Common.{◌≡◌, ◌≢◌, ℕ, ◌<◌, ◌≤◌, List, [], ◌∷◌, ◌++◌, true, false, cond, if◌then◌else◌, nat_le, length, map, Option, Some, is_some, refl, ap, sym, ◌∙◌, subst, arith}
use Rattle.std.specs.Prelude.{bytes_eq}
use Rattle.std.specs.Prelude.{None as none}
use Rattle.std.specs.List.{cons_option}
use Rattle.std.proofs.lemmas.Bool.Decides.{nat_tests}
use Rattle.std.proofs.lemmas.List.{length-map}
use Rattle.std.proofs.lemmas.List.Elements.{filter_map-append}
use Rattle.std.proofs.lemmas.List.Sums.{sum_by-cons, sum_by-append}
use Rattle.pp_rules.specs.declared.declaration.PropDecl.{PropDecl}
use Rattle.pp_rules.specs.declared.declaration.HostDecl.{HostDecl}
use Rattle.pp_rules.specs.declared.declaration.SpanDecl.{SpanDecl}
use Rattle.pp_graph.specs.declared.node.Node.{Node}
use Rattle.pp_rules.specs.declared.call.BuilderCall.{BuilderCall}
use Rattle.pp_rules.specs.declared.call.BuilderCall.TheVariants as call
use Rattle.pp_rules.specs.declared.call.Sort.{Sort}
use Rattle.pp_rules.specs.declared.call.Sort.TheVariants as sort
use Rattle.pp_graph.specs.Plan.{Plan, IsWellFormed}
use Rattle.pp_rules.specs.Calls.{declared_by, names_of, name_if, same_sort}
use Rattle.pp_rules.specs.Rules.Names.{is_duplicate, is_redeclared, has_entry}
use Rattle.pp_rules.specs.Rules.Limits.{is_sort, count_of}
use Rattle.pp_graph.proofs.TableLemmas.{Each, has_name}
use Rattle.pp_graph.proofs.EachLemmas.{Pairs, each-map, count-filter_map}
use Rattle.pp_graph.proofs.SortLemmas.{declared-names}
use Rattle.pp_text.specs.Telling.{calls_of}
use Rattle.pp_text.proofs.ListLemmas.{pairs-middle, pairs-from_places, any-fails, differ_bytes}
use Rattle.pp_text.proofs.ShapeLemmas.{prop_names-told, host_names-told, span_names-told, node_names-told, entries-told, rules-told, rule_names}

-- the names of each sort differ
rule-names-apart : (rule : Option (ℕ × ℕ)) → Pairs ◌≢◌ (rule_names rule)
rule-names-apart none = tt
rule-names-apart (Some rule) = (tt, tt)

names-apart : (g : Plan) → IsWellFormed g → (s : Sort) → Pairs ◌≢◌ (names_of s (calls_of g))
names-apart g w sort.Prop = subst (Pairs ◌≢◌) (sym (prop_names-told g)) (pairs-from_places ◌≢◌ (map (λ (p : PropDecl). p.name) g.props) w.prop_names)
names-apart g w sort.Host = subst (Pairs ◌≢◌) (sym (host_names-told g)) (pairs-from_places ◌≢◌ (map (λ (h : HostDecl). h.name) g.hosts) w.host_names)
names-apart g w sort.Span = subst (Pairs ◌≢◌) (sym (span_names-told g)) (pairs-from_places ◌≢◌ (map (λ (s : SpanDecl). s.name) g.spans) w.span_names)
names-apart g w sort.Node = subst (Pairs ◌≢◌) (sym (node_names-told g)) (pairs-from_places ◌≢◌ (map (λ (n : Node). n.name) g.nodes) w.node_names)
names-apart g w sort.Entry = subst (Pairs ◌≢◌) (sym (entries-told g)) (tt, tt)
names-apart g w sort.Finish = subst (Pairs ◌≢◌) (sym (rules-told g)) (rule-names-apart g.finish)

same_sort-self : (s : Sort) → same_sort s s ≡ true
same_sort-self sort.Prop = refl
same_sort-self sort.Host = refl
same_sort-self sort.Span = refl
same_sort-self sort.Node = refl
same_sort-self sort.Entry = refl
same_sort-self sort.Finish = refl

-- so what a call declares no call before it does
new-at : (all before after : List BuilderCall) (c : BuilderCall) (o : Option (Sort × List ℕ)) → ((s : Sort) → Pairs ◌≢◌ (names_of s all)) → all ≡ before ++ c ∷ after → declared_by c ≡ o → is_redeclared before o ≡ false
new-at all before after c none apart e d = refl
new-at all before after c (Some named) apart e d =
    let s = named.0 in
    let name = named.1 in
    let f : BuilderCall → Option (List ℕ) = λ x. name_if s (declared_by x) in
    let told : f c ≡ Some name = ap (name_if s) d ∙ ap (λ b. if b then Some name else none) (same_sort-self s) in
    let parts : names_of s all ≡ names_of s before ++ name ∷ names_of s after = ap (names_of s) e ∙ filter_map-append f before (c ∷ after) ∙ ap (λ o. names_of s before ++ cons_option o (names_of s after)) told in
    let fresh : Each (λ m. m ≢ name) (names_of s before) = pairs-middle ◌≢◌ (names_of s before) name (names_of s after) (subst (Pairs ◌≢◌) parts (apart s)) in
    declared-names s name before ∙ any-fails (λ m. bytes_eq m name) (names_of s before) (each-map (λ m. m ≢ name) (λ m. bytes_eq m name ≡ false) (names_of s before) (λ m h. differ_bytes m name h) fresh)

pub no-duplicate : (g : Plan) → IsWellFormed g → (before : List BuilderCall) (c : BuilderCall) (after : List BuilderCall) → calls_of g ≡ before ++ c ∷ after → is_duplicate before c ≡ false
no-duplicate g w before c after e = new-at (calls_of g) before after c (declared_by c) (names-apart g w) e refl

-- there is an entry
pub entry-there : (g : Plan) → has_entry (calls_of g) ≡ true
entry-there g = declared-names sort.Entry [] (calls_of g) ∙ ap (λ names. has_name names []) (entries-told g)

-- as many calls of a sort as names
count-prop : (c : BuilderCall) → is_sort sort.Prop c ≡ is_some (name_if sort.Prop (declared_by c))
count-prop (call.Prop name width) = refl
count-prop c = refl

count-host : (c : BuilderCall) → is_sort sort.Host c ≡ is_some (name_if sort.Host (declared_by c))
count-host (call.Host name value) = refl
count-host c = refl

count-span : (c : BuilderCall) → is_sort sort.Span c ≡ is_some (name_if sort.Span (declared_by c))
count-span (call.Span name) = refl
count-span c = refl

count-node : (c : BuilderCall) → is_sort sort.Node c ≡ is_some (name_if sort.Node (declared_by c))
count-node (call.Node name what) = refl
count-node c = refl

-- before a call of a sort there is room for it
pub not_reached : (limit n : ℕ) → n < limit → nat_le limit n ≡ false
not_reached limit n h = grind (arith, nat_tests)

room-at : {X : Type 0} (name_of : X → List ℕ) (xs : List X) (s : Sort) (limit : ℕ) (all before : List BuilderCall) (c : BuilderCall) (after : List BuilderCall) → all ≡ before ++ c ∷ after → ((c : BuilderCall) → is_sort s c ≡ is_some (name_if s (declared_by c))) → names_of s all ≡ map name_of xs → length xs ≤ limit → is_sort s c ≡ true → nat_le limit (count_of s before) ≡ false
room-at name_of xs s limit all before c after e count names few is =
    let weight : BuilderCall → ℕ = λ x. cond (is_sort s x) 1 0 in
    let counted : count_of s all ≡ length (names_of s all) = count-filter_map (λ x. name_if s (declared_by x)) (is_sort s) all count in
    let parts : count_of s all ≡ count_of s (before ++ c ∷ after) = ap (count_of s) e in
    let one : weight c ≡ 1 = ap {B = ℕ} (λ b. cond b 1 0) is in
    let below : count_of s before < limit = omega (arith, counted, parts, one, few, ap length names, length-map xs name_of, sum_by-append weight before (c ∷ after), sum_by-cons weight c after) in
    not_reached limit (count_of s before) below

pub prop-room : (g : Plan) → IsWellFormed g → (before : List BuilderCall) (c : BuilderCall) (after : List BuilderCall) → calls_of g ≡ before ++ c ∷ after → is_sort sort.Prop c ≡ true → nat_le 64 (count_of sort.Prop before) ≡ false
prop-room g w before c after e is =
    room-at (λ (p : PropDecl). p.name) g.props sort.Prop 64 (calls_of g) before c after e count-prop (prop_names-told g) w.few_props is

pub host-room : (g : Plan) → IsWellFormed g → (before : List BuilderCall) (c : BuilderCall) (after : List BuilderCall) → calls_of g ≡ before ++ c ∷ after → is_sort sort.Host c ≡ true → nat_le 64 (count_of sort.Host before) ≡ false
host-room g w before c after e is =
    room-at (λ (h : HostDecl). h.name) g.hosts sort.Host 64 (calls_of g) before c after e count-host (host_names-told g) w.few_hosts is

pub span-room : (g : Plan) → IsWellFormed g → (before : List BuilderCall) (c : BuilderCall) (after : List BuilderCall) → calls_of g ≡ before ++ c ∷ after → is_sort sort.Span c ≡ true → nat_le 32 (count_of sort.Span before) ≡ false
span-room g w before c after e is =
    room-at (λ (s : SpanDecl). s.name) g.spans sort.Span 32 (calls_of g) before c after e count-span (span_names-told g) w.few_spans is

pub node-room : (g : Plan) → IsWellFormed g → (before : List BuilderCall) (c : BuilderCall) (after : List BuilderCall) → calls_of g ≡ before ++ c ∷ after → is_sort sort.Node c ≡ true → nat_le 4096 (count_of sort.Node before) ≡ false
node-room g w before c after e is =
    room-at (λ (n : Node). n.name) g.nodes sort.Node 4096 (calls_of g) before c after e count-node (node_names-told g) w.few_nodes is
