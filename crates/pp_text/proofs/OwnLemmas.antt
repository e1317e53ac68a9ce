-- The edges of one node as its calls tell them: they do not clash, leave no gap, are few, and belong to their kind.
use Rattle.std.proofs.Common.{◌≡◌, ◌≢◌, ℕ, ◌≤◌, List, [], ◌∷◌, ◌++◌, Bool, false, ◌&&◌, ◌==◌, length, map, slice_get, filter_map, Some, refl, ap, ap₂, sym, ◌∙◌, arith}
use Rattle.std.specs.List.{list_any}
use Rattle.std.proofs.lemmas.Bool.Decides.{nat_tests}
use Rattle.std.proofs.lemmas.List.{append-nil, length-map}
use Rattle.std.proofs.lemmas.List.Elements.{filter_map-append}
use Rattle.pp_bytes.specs.declared.fold.Fold.{Fold}
use Rattle.pp_bytes.specs.declared.fold.Fold.TheVariants.{Same, Lower}
use Rattle.pp_graph.specs.declared.node.Key.{Key}
use Rattle.pp_graph.specs.declared.node.Peek.{Peek}
use Rattle.pp_graph.specs.declared.node.Answer.{Answer}
use Rattle.pp_graph.specs.declared.node.Kind.{Kind}
use Rattle.pp_graph.specs.declared.node.Kind.TheVariants as placed
use Rattle.pp_rules.specs.declared.call.NamedKind.TheVariants as kind
use Rattle.pp_rules.specs.declared.call.NamedEdge.{NamedEdge}
use Rattle.pp_rules.specs.declared.call.NamedEdge.TheVariants as edge
use Rattle.pp_graph.specs.declared.builder.LastNode.{LastNode}
use Rattle.pp_graph.specs.declared.builder.LastNode.TheVariants as last
use Rattle.pp_rules.specs.Keys.{has_gap, is_upper_case}
use Rattle.pp_graph.specs.Plan.{Plan, FitsIn, IsKey, IsPeek, key_bytes, AreDistinct}
use Rattle.pp_graph.specs.Calls.{last_of, TakesOtherwise}
use Rattle.pp_rules.specs.Calls.{is_otherwise_edge}
use Rattle.pp_rules.specs.Edges.{edge_of, key_of_edge}
use Rattle.pp_rules.specs.Rules.Clash.{edges_clash, begins_with_byte}
use Rattle.pp_rules.specs.Rules.Form.{has_upper_case, lower_kind}
use Rattle.pp_graph.proofs.TableLemmas.{Each}
use Rattle.pp_graph.proofs.EachLemmas.{Pairs, each-map, each-append, and_false}
use Rattle.pp_rules.proofs.RuleLemmas.{false_from_not}
use Rattle.pp_text.specs.Telling.{edge_calls, key_call, peek_call, answer_call, named_kind}
use Rattle.pp_text.proofs.ListLemmas.{each-all, each-from_is, each-map_of, pairs-from_places, pairs-joined, pairs-map_of, pairs-of_map, pairs-weaker, differ_bytes, told-as, nothing-told}
use Rattle.pp_text.proofs.AgainLemmas.{match-read, invoke-read}

-- the edges of a kind
abbrev pub key_named : Key → NamedEdge
key_named k = edge.Key k.bytes k.number

abbrev pub peek_named : Peek → NamedEdge
peek_named p = edge.Peek p.byte

abbrev pub answer_named : Answer → NamedEdge
answer_named a = edge.Answer a.number

abbrev pub edges_in : Kind → List NamedEdge
edges_in (placed.Match fold keys peeks other) = map key_named keys ++ map peek_named peeks ++ edge.Otherwise other.skip ∷ []
edges_in (placed.Invoke what answers other) = map answer_named answers ++ edge.Otherwise false ∷ []
edges_in (placed.Consume prop next) = edge.Otherwise false ∷ []
edges_in (placed.SpanOpen span next) = edge.Otherwise false ∷ []
edges_in (placed.SpanClose span next) = edge.Otherwise false ∷ []
edges_in (placed.Pause number reason next) = edge.Otherwise false ∷ []
edges_in (placed.Fail number reason) = []

pub edges-of_kind : (g : Plan) (k : Kind) → filter_map edge_of (edge_calls g k) ≡ edges_in k
edges-of_kind g (placed.Match fold keys peeks other) =
    match-read edge_of g keys peeks other (map key_named keys) (map peek_named peeks) (edge.Otherwise other.skip ∷ []) (told-as (key_call g) edge_of key_named keys (λ k. refl)) (told-as (peek_call g) edge_of peek_named peeks (λ p. refl)) refl
edges-of_kind g (placed.Invoke what answers other) =
    invoke-read edge_of g answers other (map answer_named answers) (edge.Otherwise false ∷ []) (told-as (answer_call g) edge_of answer_named answers (λ a. refl)) refl
edges-of_kind g (placed.Consume prop next) = refl
edges-of_kind g (placed.SpanOpen span next) = refl
edges-of_kind g (placed.SpanClose span next) = refl
edges-of_kind g (placed.Pause number reason next) = refl
edges-of_kind g (placed.Fail number reason) = refl

-- Two edges of one node: the first is not the otherwise, and does not clash with the second.
abbrev pub Apart : NamedEdge → NamedEdge → Type 0
Apart e f = (is_otherwise_edge e ≡ false) × (edges_clash e f ≡ false)

differ_number : (a b : ℕ) → a ≢ b → (a == b) ≡ false
differ_number a b h = false_from_not (a == b) (λ e. h (grind (arith, nat_tests)))

begins-not : (b : ℕ) (bytes : List ℕ) → slice_get bytes 0 ≢ Some b → begins_with_byte b bytes ≡ false
begins-not b [] h = refl
begins-not b (c ∷ bytes) h = differ_number b c (λ e. h (ap Some (sym e)))

keys-apart : (keys : List Key) → AreDistinct (key_bytes keys) → Pairs Apart (map key_named keys)
keys-apart keys d =
    pairs-map_of key_named Apart keys
    (pairs-weaker (λ (x y : Key). x.bytes ≢ y.bytes) (λ x y. Apart (key_named x) (key_named y)) keys (λ x y h. (refl, differ_bytes x.bytes y.bytes h))
    (pairs-of_map (λ (k : Key). k.bytes) ◌≢◌ keys (pairs-from_places ◌≢◌ (key_bytes keys) d)))

peeks-apart : (peeks : List Peek) → AreDistinct (map (λ (p : Peek). p.byte) peeks) → Pairs Apart (map peek_named peeks)
peeks-apart peeks d =
    pairs-map_of peek_named Apart peeks
    (pairs-weaker (λ (x y : Peek). x.byte ≢ y.byte) (λ x y. Apart (peek_named x) (peek_named y)) peeks (λ x y h. (refl, differ_number x.byte y.byte h))
    (pairs-of_map (λ (p : Peek). p.byte) ◌≢◌ peeks (pairs-from_places ◌≢◌ (map (λ (p : Peek). p.byte) peeks) d)))

answers-apart : (answers : List Answer) → AreDistinct (map (λ (a : Answer). a.number) answers) → Pairs Apart (map answer_named answers)
answers-apart answers d =
    pairs-map_of answer_named Apart answers
    (pairs-weaker (λ (x y : Answer). x.number ≢ y.number) (λ x y. Apart (answer_named x) (answer_named y)) answers (λ x y h. (refl, differ_number x.number y.number h))
    (pairs-of_map (λ (a : Answer). a.number) ◌≢◌ answers (pairs-from_places ◌≢◌ (map (λ (a : Answer). a.number) answers) d)))

peeks-behind : (keys : List Key) (peeks : List Peek) → ((k : Key) (p : Peek) (i j : ℕ) → slice_get keys i ≡ Some k → slice_get peeks j ≡ Some p → slice_get k.bytes 0 ≢ Some p.byte) → Each (λ e. Each (Apart e) (map peek_named peeks)) (map key_named keys)
peeks-behind keys peeks apart =
    each-map_of key_named (λ e. Each (Apart e) (map peek_named peeks)) keys
    (each-from_is (λ k. Each (Apart (key_named k)) (map peek_named peeks)) keys (λ i k a. each-map_of peek_named (Apart (key_named k)) peeks
    (each-from_is (λ p. Apart (key_named k) (peek_named p)) peeks (λ j p b. (refl, begins-not p.byte k.bytes (apart k p i j a b))))))

otherwise-behind : (keys : List Key) (peeks : List Peek) (skip : Bool) → Each (λ e. Each (Apart e) (edge.Otherwise skip ∷ [])) (map key_named keys ++ map peek_named peeks)
otherwise-behind keys peeks skip =
    let P : NamedEdge → Type 0 = λ e. Each (Apart e) (edge.Otherwise skip ∷ []) in
    each-append P (map key_named keys) (map peek_named peeks) (each-map_of key_named P keys (each-all (λ k. P (key_named k)) keys (λ k. ((refl, refl), tt)))) (each-map_of peek_named P peeks (each-all (λ p. P (peek_named p)) peeks (λ p. ((refl, refl), tt))))

pub edges-apart : (g : Plan) (k : Kind) → FitsIn g k → Pairs Apart (edges_in k)
edges-apart g (placed.Match fold keys peeks other) f =
    pairs-joined Apart (map key_named keys ++ map peek_named peeks) (edge.Otherwise other.skip ∷ [])
    (pairs-joined Apart (map key_named keys) (map peek_named peeks) (keys-apart keys f.0.distinct_keys) (peeks-behind keys peeks f.0.apart) (peeks-apart peeks f.0.distinct_peeks))
    (otherwise-behind keys peeks other.skip) (tt, tt)
edges-apart g (placed.Invoke what answers other) f =
    let P : NamedEdge → Type 0 = λ e. Each (Apart e) (edge.Otherwise false ∷ []) in
    pairs-joined Apart (map answer_named answers) (edge.Otherwise false ∷ []) (answers-apart answers f.1.distinct) (each-map_of answer_named P answers (each-all (λ a. P (answer_named a)) answers (λ a. ((refl, refl), tt)))) (tt, tt)
edges-apart g (placed.Consume prop next) f = (tt, tt)
edges-apart g (placed.SpanOpen span next) f = (tt, tt)
edges-apart g (placed.SpanClose span next) f = (tt, tt)
edges-apart g (placed.Pause number reason next) f = (tt, tt)
edges-apart g (placed.Fail number reason) f = tt

-- an edge may follow such a node
abbrev pub Belongs : LastNode → NamedEdge → Type 0
Belongs before (edge.Key bytes number) = before ≡ last.Match
Belongs before (edge.Peek byte) = before ≡ last.Match
Belongs before (edge.Answer number) = before ≡ last.Invoke
Belongs before (edge.Otherwise skip) = TakesOtherwise before skip

pub edges-belong : (g : Plan) (k : Kind) → Each (Belongs (last_of (named_kind g k))) (edges_in k)
edges-belong g (placed.Match fold keys peeks other) =
    let P : NamedEdge → Type 0 = Belongs last.Match in
    each-append P (map key_named keys ++ map peek_named peeks) (edge.Otherwise other.skip ∷ [])
    (each-append P (map key_named keys) (map peek_named peeks) (each-map_of key_named P keys (each-all (λ k. P (key_named k)) keys (λ k. refl))) (each-map_of peek_named P peeks (each-all (λ p. P (peek_named p)) peeks (λ p. refl))))
    (tt, tt)
edges-belong g (placed.Invoke what answers other) =
    let P : NamedEdge → Type 0 = Belongs last.Invoke in
    each-append P (map answer_named answers) (edge.Otherwise false ∷ []) (each-map_of answer_named P answers (each-all (λ a. P (answer_named a)) answers (λ a. refl))) (refl, tt)
edges-belong g (placed.Consume prop next) = (refl, tt)
edges-belong g (placed.SpanOpen span next) = (refl, tt)
edges-belong g (placed.SpanClose span next) = (refl, tt)
edges-belong g (placed.Pause number reason next) = (refl, tt)
edges-belong g (placed.Fail number reason) = tt

-- no upper case where a node compares in lower case
abbrev pub IsFolded : Bool → NamedEdge → Type 0
IsFolded lower e = (lower && has_upper_case (Some e)) ≡ false

folded-by : (fold : Fold) (b : Bool) → (fold ≡ Lower → b ≡ false) → (lower_kind (kind.Match fold) && b) ≡ false
folded-by Same b h = refl
folded-by Lower b h = h refl

pub edges-folded : (g : Plan) (k : Kind) → FitsIn g k → Each (IsFolded (lower_kind (named_kind g k))) (edges_in k)
edges-folded g (placed.Match fold keys peeks other) f =
    let P : NamedEdge → Type 0 = IsFolded (lower_kind (kind.Match fold)) in
    each-append P (map key_named keys ++ map peek_named peeks) (edge.Otherwise other.skip ∷ [])
    (each-append P (map key_named keys) (map peek_named peeks)
    (each-map_of key_named P keys (each-map (IsKey g fold) (λ k. P (key_named k)) keys (λ k s. folded-by fold (list_any is_upper_case k.bytes) s.folded) (each-from_is (IsKey g fold) keys f.0.each_key)))
    (each-map_of peek_named P peeks (each-map (IsPeek g fold) (λ p. P (peek_named p)) peeks (λ p s. folded-by fold (is_upper_case p.byte) s.folded) (each-from_is (IsPeek g fold) peeks f.0.each_peek))))
    (and_false (lower_kind (kind.Match fold)), tt)
edges-folded g (placed.Invoke what answers other) f =
    each-all (IsFolded false) (map answer_named answers ++ edge.Otherwise false ∷ []) (λ e. refl)
edges-folded g (placed.Consume prop next) f = (refl, tt)
edges-folded g (placed.SpanOpen span next) f = (refl, tt)
edges-folded g (placed.SpanClose span next) f = (refl, tt)
edges-folded g (placed.Pause number reason next) f = (refl, tt)
edges-folded g (placed.Fail number reason) f = tt

-- the keys of a kind
abbrev pub keys_in : Kind → List (List ℕ)
keys_in (placed.Match fold keys peeks other) = key_bytes keys
keys_in (placed.Invoke what answers other) = []
keys_in (placed.Consume prop next) = []
keys_in (placed.SpanOpen span next) = []
keys_in (placed.SpanClose span next) = []
keys_in (placed.Pause number reason next) = []
keys_in (placed.Fail number reason) = []

pub keys-of_kind : (k : Kind) → filter_map key_of_edge (edges_in k) ≡ keys_in k
keys-of_kind (placed.Match fold keys peeks other) =
    filter_map-append key_of_edge (map key_named keys ++ map peek_named peeks) (edge.Otherwise other.skip ∷ [])
    ∙ append-nil (filter_map key_of_edge (map key_named keys ++ map peek_named peeks))
    ∙ filter_map-append key_of_edge (map key_named keys) (map peek_named peeks)
    ∙ ap₂ ◌++◌ (told-as key_named key_of_edge (λ (k : Key). k.bytes) keys (λ k. refl)) (nothing-told peek_named key_of_edge peeks (λ p. refl))
    ∙ append-nil (key_bytes keys)
keys-of_kind (placed.Invoke what answers other) =
    filter_map-append key_of_edge (map answer_named answers) (edge.Otherwise false ∷ []) ∙ append-nil (filter_map key_of_edge (map answer_named answers)) ∙ nothing-told answer_named key_of_edge answers (λ a. refl)
keys-of_kind (placed.Consume prop next) = refl
keys-of_kind (placed.SpanOpen span next) = refl
keys-of_kind (placed.SpanClose span next) = refl
keys-of_kind (placed.Pause number reason next) = refl
keys-of_kind (placed.Fail number reason) = refl

-- none of them leaves a gap in another
abbrev pub Gapless : List (List ℕ) → List ℕ → List ℕ → Type 0
Gapless keys short long = has_gap keys short long ≡ false

pub keys-gapless : (g : Plan) (k : Kind) → FitsIn g k → Each (λ short. Each (Gapless (keys_in k) short) (keys_in k)) (keys_in k)
keys-gapless g (placed.Match fold keys peeks other) f =
    let bytes = key_bytes keys in
    each-map_of (λ (k : Key). k.bytes) (λ short. Each (Gapless bytes short) bytes) keys
    (each-from_is (λ (k : Key). Each (Gapless bytes k.bytes) bytes) keys (λ i k a. each-map_of (λ (k : Key). k.bytes) (Gapless bytes k.bytes) keys
    (each-from_is (λ (l : Key). Gapless bytes k.bytes l.bytes) keys (λ j l b. f.0.no_gap k l i j a b))))
keys-gapless g (placed.Invoke what answers other) f = tt
keys-gapless g (placed.Consume prop next) f = tt
keys-gapless g (placed.SpanOpen span next) f = tt
keys-gapless g (placed.SpanClose span next) f = tt
keys-gapless g (placed.Pause number reason next) f = tt
keys-gapless g (placed.Fail number reason) f = tt

pub keys-few : (g : Plan) (k : Kind) → FitsIn g k → length (keys_in k) ≤ 2048
keys-few g (placed.Match fold keys peeks other) f = omega (arith, length-map keys (λ (k : Key). k.bytes), f.0.few)
keys-few g (placed.Invoke what answers other) f = omega arith
keys-few g (placed.Consume prop next) f = omega arith
keys-few g (placed.SpanOpen span next) f = omega arith
keys-few g (placed.SpanClose span next) f = omega arith
keys-few g (placed.Pause number reason next) f = omega arith
keys-few g (placed.Fail number reason) f = omega arith

-- each key is short
abbrev pub IsShort : NamedEdge → Type 0
IsShort (edge.Key bytes number) = length bytes ≤ 64
IsShort (edge.Peek byte) = Unit {0}
IsShort (edge.Answer number) = Unit {0}
IsShort (edge.Otherwise skip) = Unit {0}

pub edges-short : (g : Plan) (k : Kind) → FitsIn g k → Each IsShort (edges_in k)
edges-short g (placed.Match fold keys peeks other) f =
    each-append IsShort (map key_named keys ++ map peek_named peeks) (edge.Otherwise other.skip ∷ [])
    (each-append IsShort (map key_named keys) (map peek_named peeks)
    (each-map_of key_named IsShort keys (each-map (IsKey g fold) (λ k. IsShort (key_named k)) keys (λ k s. s.short) (each-from_is (IsKey g fold) keys f.0.each_key)))
    (each-map_of peek_named IsShort peeks (each-all (λ p. IsShort (peek_named p)) peeks (λ p. tt))))
    (tt, tt)
edges-short g (placed.Invoke what answers other) f =
    each-append IsShort (map answer_named answers) (edge.Otherwise false ∷ []) (each-map_of answer_named IsShort answers (each-all (λ a. IsShort (answer_named a)) answers (λ a. tt))) (tt, tt)
edges-short g (placed.Consume prop next) f = (tt, tt)
edges-short g (placed.SpanOpen span next) f = (tt, tt)
edges-short g (placed.SpanClose span next) f = (tt, tt)
edges-short g (placed.Pause number reason next) f = (tt, tt)
edges-short g (placed.Fail number reason) f = tt
