-- A well-formed graph keeps the rules that lowering needs.
use Rattle.std.proofs.Common.{subst, ◌≡◌, ℕ, zero, suc, ◌+◌, ◌-◌, ◌≤◌, ◌<◌, List, [], ◌∷◌, ◌++◌, Some, Bool, true, false, refl, sym, ◌∙◌, ap, arith, length, take, ltb, eqb, ◌&&◌, ◌||◌, inl, inr, length-append, get_or}
use Rattle.std.specs.Prelude.{not, nat_lt, nat_eq, slice_get, bytes_eq}
use Rattle.std.specs.List.{Contains, All, list_any, starts_with, range_with_len}
use Rattle.std.proofs.Math.Seq.{take-append_seam}
use Rattle.std.proofs.lemmas.Bool.{lt-ltb, ltb-true, ltb-false, eqb-true, eqb-false}
use Rattle.std.proofs.lemmas.Option.{slice_get_within}
use Rattle.std.proofs.lemmas.List.{length-map}
use Rattle.std.proofs.lemmas.List.Elements.{All-contains}
use Rattle.pp_rules.specs.Keys.{is_key, has_gap}
use Rattle.pp_graph.specs.declared.node.Key.{Key}
use Rattle.pp_graph.specs.declared.node.Peek.{Peek}
use Rattle.pp_graph.specs.declared.node.Kind.{Kind}
use Rattle.pp_graph.specs.declared.node.Kind.TheVariants.{Match, Invoke, Consume, SpanOpen, SpanClose, Pause, Fail}
use Rattle.pp_bytes.specs.declared.fold.Fold.{Fold}
use Rattle.pp_graph.specs.Plan.{Plan, EachIs, AreDistinct, key_bytes, IsKey, AreEdges, FitsIn, IsWellFormed}
use Rattle.pp_graph.specs.Ranges.{KeyInRange, PeekInRange, KindInRange, NodeInRange}
use Rattle.pp_lower.specs.steps.Order.{Has}
use Rattle.pp_lower.proofs.Keys.{has_contains, contains_has}
use Rattle.pp_lower.proofs.TreeLaws.{same_is, same_self, get_has, has_bytes}
use Rattle.pp_lower.proofs.Bond.{GoodKeys, GoodKind, CanBeLowered}

-- what is there has a place
pub has_get : {X : Type 0} (xs : List X) (x : X) → Has xs x → (i : ℕ) × (slice_get xs i ≡ Some x)
has_get [] x h = absurd h
has_get (y ∷ xs) x (inl e) = (0, ap (λ (z : _). Some z) e)
has_get (y ∷ xs) x (inr h) = (let r : (i : ℕ) × (slice_get xs i ≡ Some x) = has_get xs x h in (suc r.0, r.1))

-- what holds at each place holds of all
pub each_contains : {X : Type 0} (P : X → Type 0) (xs : List X) (x : X) → EachIs P xs → Contains xs x → P x
each_contains P xs x e c =
    let r : (i : ℕ) × (slice_get xs i ≡ Some x) = has_get xs x (contains_has xs x c) in
    e r.0 x r.1

byte_in : (p more : List ℕ) (b : ℕ) → Contains (p ++ b ∷ more) b
byte_in p more b = has_contains (p ++ b ∷ more) b (go p)
  where
    go : (q : List ℕ) → Has (q ++ b ∷ more) b
    go [] = inl refl
    go (x ∷ q) = inr (go q)

get_bytes : (keys : List Key) (i : ℕ) (k : Key) (d : List ℕ) → slice_get keys i ≡ Some k → get_or (key_bytes keys) i d ≡ k.bytes
get_bytes [] i k d e = cc
get_bytes (l ∷ keys) zero k d e = (let same : l ≡ k = cc in ap (λ (x : Key). x.bytes) same)
get_bytes (l ∷ keys) (suc i) k d e = get_bytes keys i k d e

-- keys whose bytes differ stand at one place where their bytes are the same
distinct_keys : (keys : List Key) (i j : ℕ) (k l : Key) → AreDistinct (key_bytes keys) → slice_get keys i ≡ Some k → slice_get keys j ≡ Some l → k.bytes ≡ l.bytes → k ≡ l
distinct_keys keys i j k l apart e f same = go (ltb i j) refl (ltb j i) refl
  where
    long : length (key_bytes keys) ≡ length keys
    long = length-map keys (λ (x : Key). x.bytes)

    below : (a b : ℕ) (m n : Key) → slice_get keys a ≡ Some m → slice_get keys b ≡ Some n → m.bytes ≡ n.bytes → a < b → ⊥
    below a b m n p q s h =
        let inside : b < length keys = slice_get_within keys b n q in
        apart a b [] h (omega (arith, inside, long)) (get_bytes keys a m [] p ∙ s ∙ sym (get_bytes keys b n [] q))

    go : (v : Bool) → ltb i j ≡ v → (w : Bool) → ltb j i ≡ w → k ≡ l
    go true v w x = absurd (below i j k l e f same (ltb-true i j v))
    go false v true x = absurd (below j i l k f e (sym same) (ltb-true j i x))
    go false v false x =
        let one : j ≤ i = ltb-false i j v in
        let two : i ≤ j = ltb-false j i x in
        let at : i ≡ j = omega arith in
        let there : slice_get keys j ≡ Some k = subst (λ (n : ℕ). slice_get keys n ≡ Some k) at e in
        cc

pub any_has : {X : Type 0} (test : X → Bool) (xs : List X) → list_any test xs ≡ true → (x : X) × Has xs x × (test x ≡ true)
any_has test [] h = absurd cc
any_has test (y ∷ xs) h = go (test y) refl h (any_has test xs)
  where
    go : (v : Bool) → test y ≡ v → v || list_any test xs ≡ true → (list_any test xs ≡ true → (x : _) × Has xs x × (test x ≡ true)) → (x : _) × Has (y ∷ xs) x × (test x ≡ true)
    go true e h r = (y, inl refl, e)
    go false e h r = (let s : (x : _) × Has xs x × (test x ≡ true) = r h in (s.0, inr s.1, s.2))

none_has : {X : Type 0} (test : X → Bool) (xs : List X) (x : X) → list_any test xs ≡ false → Has xs x → test x ≡ false
none_has test [] x h n = absurd n
none_has test (y ∷ xs) x h n = go (test y) refl h (λ m i. none_has test xs x m i) n
  where
    go : (v : Bool) → test y ≡ v → v || list_any test xs ≡ false → (list_any test xs ≡ false → Has xs x → test x ≡ false) → Has (y ∷ xs) x → test x ≡ false
    go true e h r n = cc
    go false e h r (inl d) = ap test (sym d) ∙ e
    go false e h r (inr i) = r h i

range_has : (a n m : ℕ) → a ≤ m → m < a + n → Has (range_with_len a n) m
range_has a zero m h k = absurd (omega arith)
range_has a (suc n) m h k = go (eqb a m) refl (λ p q. range_has (a + 1) n m p q)
  where
    go : (v : Bool) → eqb a m ≡ v → (a + 1 ≤ m → m < a + 1 + n → Has (range_with_len (a + 1) n) m) → Has (a ∷ range_with_len (a + 1) n) m
    go true e r = inl (eqb-true a m e)
    go false e r = (let differ : a ≡ m → ⊥ = eqb-false a m e in inr (r (above differ) (omega arith)))
      where
        above : (a ≡ m → ⊥) → a + 1 ≤ m
        above n = grind arith

and_third : (a b c : Bool) → a ≡ true → b ≡ true → a && b && c ≡ false → c ≡ false
and_third true true c p q h = h
and_third true false c p q h = cc
and_third false b c p q h = cc

from_not : (b : Bool) → not b ≡ false → b ≡ true
from_not true h = refl
from_not false h = cc

starts : (p more : List ℕ) → starts_with nat_eq (p ++ more) p ≡ true
starts p more = ap (bytes_eq p) (take-append_seam p more) ∙ same_self p

-- where a key begins another one, each prefix between them is a key
filled_between : (keys : List Key) (k l : List ℕ) (p more rest : List ℕ) (x y : ℕ) → has_gap (key_bytes keys) k l ≡ false →
    l ≡ k ++ x ∷ more → l ≡ p ++ y ∷ rest → length k < length p → (m : Key) × Has keys m × (m.bytes ≡ p)
filled_between keys k l p more rest x y gap e f less =
    let begins : starts_with nat_eq l k ≡ true = ap (λ (z : List ℕ). starts_with nat_eq z k) e ∙ starts k (x ∷ more) in
    let long : length l ≡ length k + suc (length more) = ap length e ∙ length-append k (x ∷ more) in
    let size : length l ≡ length p + suc (length rest) = ap length f ∙ length-append p (y ∷ rest) in
    let shorter : nat_lt (length k) (length l) ≡ true = lt-ltb (length k) (length l) (omega arith) in
    let range : List ℕ = range_with_len (suc (length k)) (length l - suc (length k)) in
    let full : list_any (λ (n : ℕ). not (is_key (key_bytes keys) (take n l))) range ≡ false = and_third _ _ _ begins shorter gap in
    let at : not (is_key (key_bytes keys) (take (length p) l)) ≡ false =
    none_has (λ (n : ℕ). not (is_key (key_bytes keys) (take n l))) range (length p) full (range_has (suc (length k)) (length l - suc (length k)) (length p) (omega arith) (omega arith)) in
    let found : (t : List ℕ) × Has (key_bytes keys) t × (bytes_eq t (take (length p) l) ≡ true) =
    any_has (λ (t : List ℕ). bytes_eq t (take (length p) l)) (key_bytes keys) (from_not (is_key (key_bytes keys) (take (length p) l)) at) in
    let key : (m : Key) × Has keys m × (m.bytes ≡ found.0) = has_bytes keys found.0 found.1 in
    (key.0, key.1, key.2 ∙ same_is found.0 (take (length p) l) found.2 ∙ ap (take (length p)) f ∙ take-append_seam p (y ∷ rest))

good_keys : (g : Plan) (fold : Fold) (keys : List Key) (peeks : List Peek) → AreEdges g fold keys peeks → All KeyInRange keys → GoodKeys keys
good_keys g fold keys peeks edges range = record {
  small = λ k p more b c e. All-contains (λ (x : ℕ). x < 256) (p ++ b ∷ more) b (subst (λ (l : List ℕ). All (λ (x : ℕ). x < 256) l) e (All-contains KeyInRange keys k range c).0) (byte_in p more b);
  filled = λ k c e.
      (let some : 0 < length k.bytes = (each_contains (IsKey g fold) keys k edges.each_key c).some in
      let none : length k.bytes ≡ 0 = ap length e in
      omega arith);
  distinct = λ k l c d e.
      (let one : (i : ℕ) × (slice_get keys i ≡ Some k) = has_get keys k (contains_has keys k c) in
      let two : (i : ℕ) × (slice_get keys i ≡ Some l) = has_get keys l (contains_has keys l d) in
      distinct_keys keys one.0 two.0 k l edges.distinct_keys one.1 two.1 e);
  no_gap = λ k l p more rest x y c d e f less.
      (let one : (i : ℕ) × (slice_get keys i ≡ Some k) = has_get keys k (contains_has keys k c) in
      let two : (i : ℕ) × (slice_get keys i ≡ Some l) = has_get keys l (contains_has keys l d) in
      let found : (m : Key) × Has keys m × (m.bytes ≡ p) = filled_between keys k.bytes l.bytes p more rest x y (edges.no_gap k l one.0 two.0 one.1 two.1) e f less in
      (found.0, has_contains keys found.0 found.1, found.2));
}

good_kind : (g : Plan) (k : Kind) → FitsIn g k → KindInRange k → GoodKind k
good_kind g (Match fold keys peeks other) fits range =
    (good_keys g fold keys peeks fits.0 range.0, record { small = λ p c. All-contains PeekInRange peeks p range.1 c })
good_kind g (Invoke what answers other) fits range = tt
good_kind g (Consume prop next) fits range = tt
good_kind g (SpanOpen span next) fits range = tt
good_kind g (SpanClose span next) fits range = tt
good_kind g (Pause number reason next) fits range = tt
good_kind g (Fail number reason) fits range = tt

-- the nodes of a well-formed graph can be lowered
pub well_formed_lowers : (g : Plan) → IsWellFormed g → CanBeLowered g.nodes
well_formed_lowers g form i n e =
    good_kind g n.kind (form.kinds i n e) (All-contains NodeInRange g.nodes n form.in_range (has_contains g.nodes n (get_has g.nodes i n e)))
