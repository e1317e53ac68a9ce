-- The names of each sort: they differ, are few, and stand where the declarations stand.
use Rattle.std.proofs.Common.{◌≡◌, ◌≢◌, ℕ, ◌+◌, ◌<◌, ◌≤◌, suc, zero, List, [], ◌∷◌, ◌++◌, Bool, true, false, ◌&&◌, ◌||◌, cond, if◌then◌else◌, length, map, slice_get, filter_map, count_by, Option, Some, option_map, is_some, refl, ap, sym, ◌∙◌, subst, arith}
use Rattle.std.specs.Prelude.{bytes_eq}
use Rattle.std.specs.Prelude.{None as none}
use Rattle.std.specs.List.{cons_option}
use Rattle.std.proofs.lemmas.Bool.{false≢true}
use Rattle.std.proofs.lemmas.List.{append-nil, length-map}
use Rattle.std.proofs.lemmas.List.Elements.{filter_map-append}
use Rattle.std.proofs.lemmas.List.Sums.{sum_by_push}
use Rattle.std.proofs.lemmas.Slice.Eq.{bytes_eq-Decides}
use Rattle.pp_rules.specs.declared.declaration.PropDecl.{PropDecl}
use Rattle.pp_rules.specs.declared.declaration.HostDecl.{HostDecl}
use Rattle.pp_rules.specs.declared.declaration.SpanDecl.{SpanDecl}
use Rattle.pp_graph.specs.declared.node.Node.{Node}
use Rattle.pp_rules.specs.declared.call.BuilderCall.{BuilderCall}
use Rattle.pp_rules.specs.declared.call.BuilderCall.TheVariants as call
use Rattle.pp_rules.specs.declared.call.Sort.{Sort}
use Rattle.pp_rules.specs.declared.call.Sort.TheVariants as sort
use Rattle.pp_rules.specs.Calls.{declared_by, is_declared, is_declared_by, names_of, name_if, same_sort}
use Rattle.pp_rules.specs.Declarations.{Tables, prop_decl, host_decl, span_decl}
use Rattle.pp_graph.specs.Built.{place_of, nodes_in}
use Rattle.pp_rules.specs.Rules.Names.{is_redeclared}
use Rattle.pp_rules.specs.Rules.Limits.{is_sort, count_of, passes_limit}
use Rattle.pp_graph.proofs.TableLemmas.{has_name, place_of-below}
use Rattle.pp_graph.proofs.EachLemmas.{Pairs, pairs-push, each-fails, each-map, map-filter_map, count-filter_map}
use Rattle.pp_graph.proofs.SoundLemmas.{IsSound, AreSound, along, below_from}

same_sort-same : (a b : Sort) → same_sort a b ≡ true → a ≡ b
same_sort-same sort.Prop sort.Prop h = refl
same_sort-same sort.Host sort.Host h = refl
same_sort-same sort.Span sort.Span h = refl
same_sort-same sort.Node sort.Node h = refl
same_sort-same sort.Entry sort.Entry h = refl
same_sort-same sort.Finish sort.Finish h = refl
same_sort-same a b h = absurd (false≢true h)

-- the names tell what is declared
has-step : (b : Bool) (name other : List ℕ) (ys : List (List ℕ)) → (b && bytes_eq other name || has_name ys name) ≡ has_name (cons_option (if b then Some other else none) ys) name
has-step true name other ys = refl
has-step false name other ys = refl

declared-step : (s : Sort) (name : List ℕ) (o : Option (Sort × List ℕ)) (ys : List (List ℕ)) → (is_declared_by s name o || has_name ys name) ≡ has_name (cons_option (name_if s o) ys) name
declared-step s name none ys = refl
declared-step s name (Some d) ys = has-step (same_sort d.0 s) name d.1 ys

pub declared-names : (s : Sort) (name : List ℕ) (calls : List BuilderCall) → is_declared calls (s, name) ≡ has_name (names_of s calls) name
declared-names s name [] = refl
declared-names s name (c ∷ calls) =
    ap (λ b. is_declared_by s name (declared_by c) || b) (declared-names s name calls) ∙ declared-step s name (declared_by c) (names_of s calls)

-- the names of a sort differ
fresh-step : (s : Sort) (front : List BuilderCall) (d : Sort × List ℕ) (b : Bool) → (b ≡ true → d.0 ≡ s) → is_declared front d ≡ false → Pairs ◌≢◌ (names_of s front) → Pairs ◌≢◌ (names_of s front ++ cons_option (if b then Some d.1 else none) [])
fresh-step s front d true same new p =
    let P : Sort → Type 0 = λ r. has_name (names_of r front) d.1 ≡ false in
    let there : has_name (names_of s front) d.1 ≡ false = subst P (same refl) (sym (declared-names d.0 d.1 front) ∙ new) in
    pairs-push ◌≢◌ (names_of s front) d.1 p
    (each-map (λ m. bytes_eq m d.1 ≡ false) (λ m. m ≢ d.1) (names_of s front) (λ m h e. false≢true (sym h ∙ (bytes_eq-Decides m d.1).1 e))
    (each-fails (λ m. bytes_eq m d.1) (names_of s front) there))
fresh-step s front d false same new p = rw (append-nil (names_of s front)) p

apart-step : (s : Sort) (front : List BuilderCall) (o : Option (Sort × List ℕ)) → is_redeclared front o ≡ false → Pairs ◌≢◌ (names_of s front) → Pairs ◌≢◌ (names_of s front ++ cons_option (name_if s o) [])
apart-step s front none new p = rw (append-nil (names_of s front)) p
apart-step s front (Some d) new p = fresh-step s front d (same_sort d.0 s) (same_sort-same d.0 s) new p

names-step : (s : Sort) (all front : List BuilderCall) (c : BuilderCall) (rest : List BuilderCall) → IsSound all front c rest → Pairs ◌≢◌ (names_of s front) → Pairs ◌≢◌ (names_of s (front ++ c ∷ []))
names-step s all front c rest h p =
    rw (filter_map-append (λ x. name_if s (declared_by x)) front (c ∷ [])) (apart-step s front (declared_by c) h.unique p)

pub names-apart : (s : Sort) (all : List BuilderCall) → AreSound all [] all → Pairs ◌≢◌ (names_of s all)
names-apart s all h = along (λ cs. Pairs ◌≢◌ (names_of s cs)) all [] all h (names-step s all) tt

-- they are few
room-cases : (b : Bool) (n limit : ℕ) → (b ≡ true → n < limit) → n ≤ limit → n + cond b 1 0 ≤ limit
room-cases true n limit f h = let below : n < limit = f refl in omega arith
room-cases false n limit f h = omega arith

room-step : (p : BuilderCall → Bool) (limit : ℕ) (front : List BuilderCall) (c : BuilderCall) → (p c ≡ true → count_by p front < limit) → count_by p front ≤ limit → count_by p (front ++ c ∷ []) ≤ limit
room-step p limit front c f h =
    let more = sum_by_push (λ x. cond (p x) 1 0) front c in
    rw more (room-cases (p c) (count_by p front) limit f h)

prop-room : (front : List BuilderCall) (c : BuilderCall) → passes_limit front c ≡ false → is_sort sort.Prop c ≡ true → count_of sort.Prop front < 64
prop-room front (call.Prop name width) p h = below_from 64 (count_of sort.Prop front) p
prop-room front c p h = absurd (false≢true h)

host-room : (front : List BuilderCall) (c : BuilderCall) → passes_limit front c ≡ false → is_sort sort.Host c ≡ true → count_of sort.Host front < 64
host-room front (call.Host name value) p h = below_from 64 (count_of sort.Host front) p
host-room front c p h = absurd (false≢true h)

span-room : (front : List BuilderCall) (c : BuilderCall) → passes_limit front c ≡ false → is_sort sort.Span c ≡ true → count_of sort.Span front < 32
span-room front (call.Span name) p h = below_from 32 (count_of sort.Span front) p
span-room front c p h = absurd (false≢true h)

node-room : (front : List BuilderCall) (c : BuilderCall) → passes_limit front c ≡ false → is_sort sort.Node c ≡ true → count_of sort.Node front < 4096
node-room front (call.Node name what) p h = below_from 4096 (count_of sort.Node front) p
node-room front c p h = absurd (false≢true h)

few-step : (s : Sort) (limit : ℕ) (all : List BuilderCall) → ((front : List BuilderCall) (c : BuilderCall) → passes_limit front c ≡ false → is_sort s c ≡ true → count_of s front < limit) → AreSound all [] all → count_of s all ≤ limit
few-step s limit all f h =
    along (λ cs. count_of s cs ≤ limit) all [] all h (λ front c rest k n. room-step (is_sort s) limit front c (f front c k.within) n) (omega arith)

count-prop : (c : BuilderCall) → is_sort sort.Prop c ≡ is_some (name_if sort.Prop (declared_by c))
count-prop (call.Prop name width) = refl
count-prop (call.Host name value) = refl
count-prop (call.Span name) = refl
count-prop (call.Entry node) = refl
count-prop (call.Finish prop host) = refl
count-prop (call.Node name what) = refl
count-prop (call.Edge when target) = refl

count-host : (c : BuilderCall) → is_sort sort.Host c ≡ is_some (name_if sort.Host (declared_by c))
count-host (call.Prop name width) = refl
count-host (call.Host name value) = refl
count-host (call.Span name) = refl
count-host (call.Entry node) = refl
count-host (call.Finish prop host) = refl
count-host (call.Node name what) = refl
count-host (call.Edge when target) = refl

count-span : (c : BuilderCall) → is_sort sort.Span c ≡ is_some (name_if sort.Span (declared_by c))
count-span (call.Prop name width) = refl
count-span (call.Host name value) = refl
count-span (call.Span name) = refl
count-span (call.Entry node) = refl
count-span (call.Finish prop host) = refl
count-span (call.Node name what) = refl
count-span (call.Edge when target) = refl

count-node : (c : BuilderCall) → is_sort sort.Node c ≡ is_some (name_if sort.Node (declared_by c))
count-node (call.Prop name width) = refl
count-node (call.Host name value) = refl
count-node (call.Span name) = refl
count-node (call.Entry node) = refl
count-node (call.Finish prop host) = refl
count-node (call.Node name what) = refl
count-node (call.Edge when target) = refl

few-names : (s : Sort) (limit : ℕ) (all : List BuilderCall) → ((c : BuilderCall) → is_sort s c ≡ is_some (name_if s (declared_by c))) → count_of s all ≤ limit → length (names_of s all) ≤ limit
few-names s limit all e h =
    let same : count_of s all ≡ length (names_of s all) = count-filter_map (λ c. name_if s (declared_by c)) (is_sort s) all e in
    rw (sym same) h

pub few-props : (all : List BuilderCall) → AreSound all [] all → length (names_of sort.Prop all) ≤ 64
few-props all h = few-names sort.Prop 64 all count-prop (few-step sort.Prop 64 all prop-room h)

pub few-hosts : (all : List BuilderCall) → AreSound all [] all → length (names_of sort.Host all) ≤ 64
few-hosts all h = few-names sort.Host 64 all count-host (few-step sort.Host 64 all host-room h)

pub few-spans : (all : List BuilderCall) → AreSound all [] all → length (names_of sort.Span all) ≤ 32
few-spans all h = few-names sort.Span 32 all count-span (few-step sort.Span 32 all span-room h)

pub few-nodes : (all : List BuilderCall) → AreSound all [] all → length (names_of sort.Node all) ≤ 4096
few-nodes all h = few-names sort.Node 4096 all count-node (few-step sort.Node 4096 all node-room h)

-- the declarations have these names
prop-name : (c : BuilderCall) → option_map (λ (p : PropDecl). p.name) (prop_decl c) ≡ name_if sort.Prop (declared_by c)
prop-name (call.Prop name width) = refl
prop-name (call.Host name value) = refl
prop-name (call.Span name) = refl
prop-name (call.Entry node) = refl
prop-name (call.Finish prop host) = refl
prop-name (call.Node name what) = refl
prop-name (call.Edge when target) = refl

host-name : (c : BuilderCall) → option_map (λ (p : HostDecl). p.name) (host_decl c) ≡ name_if sort.Host (declared_by c)
host-name (call.Prop name width) = refl
host-name (call.Host name value) = refl
host-name (call.Span name) = refl
host-name (call.Entry node) = refl
host-name (call.Finish prop host) = refl
host-name (call.Node name what) = refl
host-name (call.Edge when target) = refl

span-name : (c : BuilderCall) → option_map (λ (p : SpanDecl). p.name) (span_decl c) ≡ name_if sort.Span (declared_by c)
span-name (call.Prop name width) = refl
span-name (call.Host name value) = refl
span-name (call.Span name) = refl
span-name (call.Entry node) = refl
span-name (call.Finish prop host) = refl
span-name (call.Node name what) = refl
span-name (call.Edge when target) = refl

pub props-names : (all : List BuilderCall) → map (λ (p : PropDecl). p.name) (filter_map prop_decl all) ≡ names_of sort.Prop all
props-names all = map-filter_map (λ (p : PropDecl). p.name) prop_decl (λ c. name_if sort.Prop (declared_by c)) all prop-name

pub hosts-names : (all : List BuilderCall) → map (λ (p : HostDecl). p.name) (filter_map host_decl all) ≡ names_of sort.Host all
hosts-names all = map-filter_map (λ (p : HostDecl). p.name) host_decl (λ c. name_if sort.Host (declared_by c)) all host-name

pub spans-names : (all : List BuilderCall) → map (λ (p : SpanDecl). p.name) (filter_map span_decl all) ≡ names_of sort.Span all
spans-names all = map-filter_map (λ (p : SpanDecl). p.name) span_decl (λ c. name_if sort.Span (declared_by c)) all span-name

pub nodes-names : (t : Tables) (calls : List BuilderCall) → map (λ (n : Node). n.name) (nodes_in t calls) ≡ names_of sort.Node calls
nodes-names t [] = refl
nodes-names t (call.Prop name width ∷ calls) = nodes-names t calls
nodes-names t (call.Host name value ∷ calls) = nodes-names t calls
nodes-names t (call.Span name ∷ calls) = nodes-names t calls
nodes-names t (call.Entry node ∷ calls) = nodes-names t calls
nodes-names t (call.Finish prop host ∷ calls) = nodes-names t calls
nodes-names t (call.Node name what ∷ calls) = ap (λ names. name ∷ names) (nodes-names t calls)
nodes-names t (call.Edge when target ∷ calls) = nodes-names t calls

-- something stands at each place
pub there-at : {X : Type 0} (xs : List X) (i : ℕ) → i < length xs → (x : X) × (slice_get xs i ≡ Some x)
there-at [] i h = absurd (omega arith)
there-at (x ∷ xs) zero h = (x, refl)
there-at (x ∷ xs) (suc i) h = there-at xs i (omega arith)

-- a declared name has its place
pub declared-below : (s : Sort) (name : List ℕ) (all : List BuilderCall) → is_declared all (s, name) ≡ true → place_of (names_of s all) name < length (names_of s all)
declared-below s name all h = place_of-below (names_of s all) name (sym (declared-names s name all) ∙ h)

pub declared-within : {X : Type 0} (name_of : X → List ℕ) (xs : List X) (s : Sort) (name : List ℕ) (all : List BuilderCall) → map name_of xs ≡ names_of s all → is_declared all (s, name) ≡ true → place_of (names_of s all) name < length xs
declared-within name_of xs s name all e h = omega (arith, declared-below s name all h, length-map xs name_of, ap length e)
