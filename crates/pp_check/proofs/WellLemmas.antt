-- The nodes of a well-formed graph fit.
use Rattle.std.proofs.Common.{subst, ◌≡◌, ℕ, zero, suc, ◌+◌, ◌<◌, List, [], ◌∷◌, Option, Some, None, Bool, true, false, cond, refl, sym, ◌∙◌, ap, arith, length, map, take, get_or, inl, inr, ◌||◌}
use Rattle.std.specs.Prelude.{slice_get, slice_index, nat_lt, nat_eq, ◌-◌, not, All, bytes_eq}
use Rattle.std.specs.List.{list_any, starts_with, range_with_len}
use Rattle.std.proofs.lemmas.Option.{slice_get_within, get_or_from_slice_get}
use Rattle.std.proofs.lemmas.Bool.{lt-ltb, cases_Bool, cases_order, or_cases, false≢true, and_from}
use Rattle.std.proofs.lemmas.List.{length-map}
use Rattle.std.proofs.lemmas.List.Folds.{list_any_at}
use Rattle.std.proofs.lemmas.List.FromFn.{length-range_with_len, get_or-range_with_len}
use Rattle.std.proofs.lemmas.Slice.Eq.{bytes_eq-Decides}
use Rattle.pp_bytes.specs.declared.fold.Fold.{Fold}
use Rattle.pp_bytes.specs.declared.fold.Fold.TheVariants.{Same, Lower}
use Rattle.pp_bytes.specs.Fold.{folded}
use Rattle.pp_rules.specs.Keys.{is_key, has_gap, is_upper_case}
use Rattle.pp_graph.specs.declared.node.Key.{Key}
use Rattle.pp_graph.specs.declared.node.Peek.{Peek}
use Rattle.pp_graph.specs.declared.node.Kind.{Kind}
use Rattle.pp_graph.specs.declared.node.Kind.TheVariants.{Match, Invoke, Consume, SpanOpen, SpanClose, Pause, Fail}
use Rattle.pp_graph.specs.declared.node.Node.{Node}
use Rattle.pp_graph.specs.declared.node.Answer.{Answer}
use Rattle.pp_check.specs.Edges.{HasEdge, EdgeFrom}
use Rattle.pp_graph.specs.Plan.{Leads, Plan, AreDistinct, FitsIn, AreEdges, key_bytes, IsWellFormed}
use Rattle.pp_graph.specs.Ranges.{KindInRange, KeyInRange, NodeInRange}
use Rattle.pp_event.specs.Loops.{AreBytes}
use Rattle.pp_check.specs.steps.Ends.{IsKeyOf}
use Rattle.pp_flow.proofs.ListLemmas.{any-listed, any-first, any-later}
use Rattle.pp_check.proofs.MatchLemmas.{KeysFit, PeeksFit}
use Rattle.pp_check.proofs.KindLemmas.{KindFits}

map-get : {X Y : Type 0} (f : X → Y) (xs : List X) (i : ℕ) (x : X) (d : Y) → slice_get xs i ≡ Some x → get_or (map f xs) i d ≡ f x
map-get f [] i x d e = absurd cc
map-get f (y ∷ xs) zero x d e = ap f (let same : y ≡ x = cc in same)
map-get f (y ∷ xs) (suc i) x d e = map-get f xs i x d e

-- of what differs as told by f, two elements that are told alike are one
same-place : {X Y : Type 0} (f : X → Y) (xs : List X) → AreDistinct (map f xs) → (i j : ℕ) (x y : X) → slice_get xs i ≡ Some x → slice_get xs j ≡ Some y → f x ≡ f y → i ≡ j
same-place f xs distinct i j x y at there e = elim (cases_order i j) [
  | inl same ↦ same
  | inr (inl less) ↦ absurd (distinct i j (f x) less (subst (λ n. j < n) (sym (length-map xs f)) (slice_get_within xs j y there)) (map-get f xs i x (f x) at ∙ (e ∙ sym (map-get f xs j y (f x) there))))
  | inr (inr more) ↦ absurd (distinct j i (f x) more (subst (λ n. i < n) (sym (length-map xs f)) (slice_get_within xs i x at)) (map-get f xs j y (f x) there ∙ (sym e ∙ sym (map-get f xs i x (f x) at))))
]

same-element : {X : Type 0} (xs : List X) (i j : ℕ) (x y : X) → slice_get xs i ≡ Some x → slice_get xs j ≡ Some y → i ≡ j → x ≡ y
same-element xs i j x y at there e = (let moved : slice_get xs j ≡ Some x = subst (λ n. slice_get xs n ≡ Some x) e at in let both : Some x ≡ Some y = sym moved ∙ there in cc)

key-any : (keys : List Key) (bytes : List ℕ) → is_key (key_bytes keys) bytes ≡ true → IsKeyOf keys bytes
key-any [] bytes e = absurd (false≢true e)
key-any (k ∷ keys) bytes e = elim (or_cases (bytes_eq k.bytes bytes) (is_key (key_bytes keys) bytes) e) [
  | inl here ↦ any-first (λ (l : Key). l.bytes ≡ bytes) k keys ((bytes_eq-Decides k.bytes bytes).0 here)
  | inr rest ↦ any-later (λ (l : Key). l.bytes ≡ bytes) k keys (key-any keys bytes rest)
]

-- without a gap each longer front is a key
gap-closed : (keys : List (List ℕ)) (short long : List ℕ) (n : ℕ) → has_gap keys short long ≡ false → take (length short) long ≡ short → length short < n → n < length long → is_key keys (take n long) ≡ true
gap-closed keys short long n e front low high = elim (cases_Bool (is_key keys (take n long))) [
  | inl found ↦ found
  | inr none ↦
      let p : ℕ → Bool = λ m. not (is_key keys (take m long)) in
      let places : List ℕ = range_with_len (suc (length short)) (length long - suc (length short)) in
      let inner : n - suc (length short) < length long - suc (length short) = omega (arith, low, high) in
      let here : get_or places (n - suc (length short)) 0 ≡ n = get_or-range_with_len (suc (length short)) (length long - suc (length short)) (n - suc (length short)) 0 inner ∙ omega (arith, low) in
      let missed : p (get_or places (n - suc (length short)) 0) ≡ true = ap p here ∙ ap not none in
      let within : n - suc (length short) < length places = subst (λ m. n - suc (length short) < m) (sym (length-range_with_len (suc (length short)) (length long - suc (length short)))) inner in
      let third : list_any p places ≡ true = list_any_at p places (n - suc (length short)) 0 within missed in
      let first : starts_with nat_eq long short ≡ true = (bytes_eq-Decides short (take (length short) long)).1 (sym front) in
      let second : nat_lt (length short) (length long) ≡ true = lt-ltb _ _ (omega (arith, low, high)) in
      let all : has_gap keys short long ≡ true = and_from _ _ (and_from _ _ first second) third in
      absurd (false≢true (sym e ∙ all))
]

same-stays : (bytes : List ℕ) → map (folded Same) bytes ≡ bytes
same-stays [] = refl
same-stays (x ∷ bytes) = ap (λ xs. x ∷ xs) (same-stays bytes)

or-both : (t u : Bool) → (t || u) ≡ false → (t ≡ false) × (u ≡ false)
or-both true u e = absurd (false≢true (sym e))
or-both false u e = (refl, e)

lower-stays : (bytes : List ℕ) → list_any is_upper_case bytes ≡ false → map (folded Lower) bytes ≡ bytes
lower-stays [] e = refl
lower-stays (x ∷ bytes) e =
    let both : (is_upper_case x ≡ false) × (list_any is_upper_case bytes ≡ false) = or-both _ _ e in
    let first : folded Lower x ≡ x = ap (λ (t : Bool). cond t (x + 32) x) both.0 in
    let rest : map (folded Lower) bytes ≡ bytes = lower-stays bytes both.1 in
    cc

fold-stays : (fold : Fold) (bytes : List ℕ) → (fold ≡ Lower → list_any is_upper_case bytes ≡ false) → map (folded fold) bytes ≡ bytes
fold-stays Same bytes h = same-stays bytes
fold-stays Lower bytes h = lower-stays bytes (h refl)

are-bytes : (bytes : List ℕ) → All (λ b. b < 256) bytes → AreBytes bytes
are-bytes [] h i = omega arith
are-bytes (x ∷ bytes) h zero = h 0 0 (omega arith)
are-bytes (x ∷ bytes) h (suc i) = are-bytes bytes (λ k d low. h (suc k) d (omega (arith, low))) i

all-at : {X : Type 0} (P : X → Type 0) (xs : List X) → All P xs → (i : ℕ) (x : X) → slice_get xs i ≡ Some x → P x
all-at P xs h i x e = subst P (get_or_from_slice_get xs i x x e) (h i x (slice_get_within xs i x e))

keys-fit : (g : Plan) (fold : Fold) (keys : List Key) (peeks : List Peek) → AreEdges g fold keys peeks → All KeyInRange keys → KeysFit fold keys
keys-fit g fold keys peeks edges range = record {
  some = λ i k e. (edges.each_key i k e).some;
  gapless = λ short long i j n at there front low high. key-any keys (take n long.bytes) (gap-closed (key_bytes keys) short.bytes long.bytes n (edges.no_gap short long i j at there) front low high);
  once = λ k l i j at there e. ap (λ (m : Key). m.target) (same-element keys i j k l at there (same-place (λ (m : Key). m.bytes) keys edges.distinct_keys i j k l at there e));
  folds = λ i k e. fold-stays fold k.bytes (edges.each_key i k e).folded;
  bytes = λ i k e. are-bytes k.bytes (all-at KeyInRange keys range i k e).0;
}

first-some : (bytes : List ℕ) → 0 < length bytes → slice_get bytes 0 ≡ Some (slice_index bytes 0)
first-some [] h = absurd (omega (arith, h))
first-some (x ∷ bytes) h = refl

peeks-fit : (g : Plan) (fold : Fold) (keys : List Key) (peeks : List Peek) → AreEdges g fold keys peeks → PeeksFit keys peeks
peeks-fit g fold keys peeks edges = record {
  apart = λ c a q.
      (let at : slice_get keys a.0 ≡ Some a.1 = any-listed (λ (k : Key). slice_index k.bytes 0 ≡ c) keys a in
      let there : slice_get peeks q.0 ≡ Some q.1 = any-listed (λ (p : Peek). p.byte ≡ c) peeks q in
      edges.apart a.1 q.1 a.0 q.0 at there (first-some a.1.bytes (edges.each_key a.0 a.1 at).some ∙ ap Some (a.4 ∙ sym q.4)));
  once = λ p q i j at there e. ap (λ (m : Peek). m.target) (same-element peeks i j p q at there (same-place (λ (m : Peek). m.byte) peeks edges.distinct_peeks i j p q at there e));
}

kind-fits : (g : Plan) (k : Kind) → FitsIn g k → KindInRange k → KindFits k
kind-fits g (Match fold keys peeks other) fit range = (keys-fit g fold keys peeks fit.0 range.0, peeks-fit g fold keys peeks fit.0)
kind-fits g (Invoke what answers other) fit range = tt
kind-fits g (Consume prop n) fit range = tt
kind-fits g (SpanOpen span n) fit range = tt
kind-fits g (SpanClose span n) fit range = tt
kind-fits g (Pause code reason n) fit range = tt
kind-fits g (Fail code reason) fit range = tt

pub nodes-fit : (g : Plan) → IsWellFormed g → (i : ℕ) (n : Node) → slice_get g.nodes i ≡ Some n → KindFits n.kind
nodes-fit g well i n e = kind-fits g n.kind (well.kinds i n e) (all-at NodeInRange g.nodes well.in_range i n e)

leads-within : (g : Plan) (number : Option ℕ) (target : ℕ) → Leads g number target → target < length g.nodes
leads-within g None target l = slice_get_within g.nodes target l.0 l.1
leads-within g (Some number) target l = slice_get_within g.nodes target l.0 l.1

-- edges lead to nodes
kind-within : (g : Plan) (k : Kind) (next : ℕ) → FitsIn g k → HasEdge k next → next < length g.nodes
kind-within g (Match fold keys peeks other) next fit (inl a) =
    let at : slice_get keys a.0 ≡ Some a.1 = any-listed (λ (k : Key). k.target ≡ next) keys a in
    subst (λ n. n < length g.nodes) a.4 (leads-within g a.1.number a.1.target (fit.0.each_key a.0 a.1 at).leads)
kind-within g (Match fold keys peeks other) next fit (inr (inl a)) =
    let at : slice_get peeks a.0 ≡ Some a.1 = any-listed (λ (p : Peek). p.target ≡ next) peeks a in
    subst (λ n. n < length g.nodes) a.4 (leads-within g None a.1.target (fit.0.each_peek a.0 a.1 at).leads)
kind-within g (Match fold keys peeks other) next fit (inr (inr e)) = subst (λ n. n < length g.nodes) e (leads-within g None other.target fit.1)
kind-within g (Invoke what answers other) next fit (inl e) = subst (λ n. n < length g.nodes) e (leads-within g None other fit.2)
kind-within g (Invoke what answers other) next fit (inr a) =
    let at : slice_get answers a.0 ≡ Some a.1 = any-listed (λ (x : Answer). x.target ≡ next) answers a in
    subst (λ n. n < length g.nodes) a.4 (leads-within g None a.1.target (fit.1.leads a.0 a.1 at))
kind-within g (Consume prop n) next fit e = subst (λ n. n < length g.nodes) e (leads-within g None n fit.1)
kind-within g (SpanOpen span n) next fit e = subst (λ n. n < length g.nodes) e (leads-within g None n fit.1)
kind-within g (SpanClose span n) next fit e = subst (λ n. n < length g.nodes) e (leads-within g None n fit.1)
kind-within g (Pause code reason n) next fit e = subst (λ n. n < length g.nodes) e (leads-within g None n fit.1)
kind-within g (Fail code reason) next fit e = absurd e

edge-by : (g : Plan) (o : Option Node) (next : ℕ) → ((n : Node) → o ≡ Some n → FitsIn g n.kind) → EdgeFrom o next → next < length g.nodes
edge-by g None next fit e = absurd e
edge-by g (Some n) next fit e = kind-within g n.kind next (fit n refl) e

pub edge-within : (g : Plan) → IsWellFormed g → (node next : ℕ) → EdgeFrom (slice_get g.nodes node) next → next < length g.nodes
edge-within g well node next e = edge-by g (slice_get g.nodes node) next (λ n f. well.kinds node n f) e

pub entry-within : (g : Plan) → IsWellFormed g → g.entry < length g.nodes
entry-within g well = leads-within g None g.entry well.entry
