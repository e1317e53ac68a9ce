-- The states of a node have no more edges than its keys have bytes and it has peeks.
use Rattle.std.proofs.Common.{subst, ◌≡◌, ℕ, zero, suc, ◌+◌, ◌≤◌, ◌<◌, List, [], ◌∷◌, ◌++◌, Option, Some, None, Bool, true, false, cond, refl, sym, ◌∙◌, ap, arith, length, map, eqb, ltb, inl, inr, zero-le, length-append, append_assoc}
use Rattle.std.specs.Prelude.{◌⊎◌, find, sum_by, ◌==◌}
use Rattle.std.proofs.lemmas.Bool.{eqb-true, eqb-false, lt-ltb, ltb-true}
use Rattle.std.proofs.lemmas.List.Sums.{sum_by-cons, sum_by-append, sum_by-le-sum_by}
use Rattle.pp_graph.specs.declared.node.Key.{Key}
use Rattle.pp_graph.specs.declared.node.Peek.{Peek}
use Rattle.pp_graph.specs.Plan.{key_bytes}
use Rattle.pp_program.specs.declared.program.Edge.{Edge}
use Rattle.pp_program.specs.Merge.{merged}
use Rattle.pp_program.proofs.MergeLaws.{merged-short}
use Rattle.pp_lower.specs.Tree.{place_of, listed, each_below}
use Rattle.pp_lower.specs.Lowered.{inner_of, key_of, peek_of, edge_by, edge_at}
use Rattle.pp_lower.specs.steps.Order.{Has, IsOrdered}
use Rattle.pp_lower.proofs.Keys.{IsInner}
use Rattle.pp_lower.proofs.TreeLaws.{KeyIs, key_is, PlaceIs, place_is, get_has, inner_only, bytes_has}
use Rattle.pp_lower.proofs.WalkLaws.{PeekIs, find_peek}
use Rattle.pp_lower.proofs.OrderLaws.{before_self, rows_ordered}

-- 1 where a text goes on behind a front with a byte below n, else 0
abbrev goes : List ℕ → List ℕ → ℕ → ℕ
goes [] p n = 0
goes (x ∷ t) [] n = cond (ltb x n) 1 0
goes (x ∷ t) (y ∷ p) n = cond (eqb x y) (goes t p n) 0

goes_up : (t p : List ℕ) (n : ℕ) → goes t p n ≤ goes t p (suc n)
goes_up [] p n = omega arith
goes_up (x ∷ t) [] n = up (ltb x n) refl
  where
    up : (v : Bool) → ltb x n ≡ v → cond v 1 0 ≤ cond (ltb x (suc n)) 1 0
    up false e = zero-le
    up true e =
        let below : x < n = ltb-true x n e in
        subst (λ (w : Bool). 1 ≤ cond w 1 0) (sym (lt-ltb x (suc n) (omega (arith, below)))) (omega arith)
goes_up (x ∷ t) (y ∷ p) n = both (eqb x y) (goes_up t p n)
  where
    both : (v : Bool) → goes t p n ≤ goes t p (suc n) → cond v (goes t p n) 0 ≤ cond v (goes t p (suc n)) 0
    both true h = h
    both false h = zero-le

-- it goes on by this very byte
goes_on_at : (p more : List ℕ) (n : ℕ) → suc (goes (p ++ n ∷ more) p n) ≤ goes (p ++ n ∷ more) p (suc n)
goes_on_at [] more n = now (ltb n n) refl
  where
    now : (v : Bool) → ltb n n ≡ v → suc (cond v 1 0) ≤ cond (ltb n (suc n)) 1 0
    now true e = (let below : n < n = ltb-true n n e in absurd (omega (arith, below)))
    now false e = subst (λ (w : Bool). 1 ≤ cond w 1 0) (sym (lt-ltb n (suc n) (omega arith))) (omega arith)
goes_on_at (x ∷ p) more n = same (eqb x x) refl (goes_on_at p more n)
  where
    same : (v : Bool) → eqb x x ≡ v → suc (goes (p ++ n ∷ more) p n) ≤ goes (p ++ n ∷ more) p (suc n) → suc (cond v (goes (p ++ n ∷ more) p n) 0) ≤ cond v (goes (p ++ n ∷ more) p (suc n)) 0
    same true e h = h
    same false e h = absurd (eqb-false x x e refl)

goes_on : (t p more : List ℕ) (n : ℕ) → t ≡ p ++ n ∷ more → suc (goes t p n) ≤ goes t p (suc n)
goes_on t p more n e = subst (λ (z : List ℕ). suc (goes z p n) ≤ goes z p (suc n)) (sym e) (goes_on_at p more n)

-- one term is larger by one, and none is smaller
sum_up : {X : Type 0} (f g : X → ℕ) (xs : List X) (k : X) → ((x : X) → f x ≤ g x) → Has xs k → suc (f k) ≤ g k → suc (sum_by f xs) ≤ sum_by g xs
sum_up f g [] k le h more = absurd h
sum_up {X} f g (x ∷ xs) k le (inl e) more =
    let here : suc (f x) ≤ g x = subst (λ (z : X). suc (f z) ≤ g z) (sym e) more in
    let rest : sum_by f xs ≤ sum_by g xs = sum_by-le-sum_by f g xs le in
    let low : sum_by f (x ∷ xs) ≡ f x + sum_by f xs = sum_by-cons f x xs in
    let high : sum_by g (x ∷ xs) ≡ g x + sum_by g xs = sum_by-cons g x xs in
    omega (arith, here, rest, low, high)
sum_up f g (x ∷ xs) k le (inr h) more =
    let here : f x ≤ g x = le x in
    let rest : suc (sum_by f xs) ≤ sum_by g xs = sum_up f g xs k le h more in
    let low : sum_by f (x ∷ xs) ≡ f x + sum_by f xs = sum_by-cons f x xs in
    let high : sum_by g (x ∷ xs) ≡ g x + sum_by g xs = sum_by-cons g x xs in
    omega (arith, here, rest, low, high)

has_left : (l r : List (List ℕ)) (x : List ℕ) → Has l x → Has (l ++ r) x
has_left [] r x h = absurd h
has_left (y ∷ l) r x (inl e) = inl e
has_left (y ∷ l) r x (inr h) = inr (has_left l r x h)

has_right : (l r : List (List ℕ)) (x : List ℕ) → Has r x → Has (l ++ r) x
has_right [] r x h = h
has_right (y ∷ l) r x h = inr (has_right l r x h)

-- peek bytes as texts, and the texts by which a node's states go on
abbrev peek_texts : List Peek → List (List ℕ)
peek_texts peeks = map (λ (q : Peek). q.byte ∷ []) peeks

abbrev texts : List Key → List Peek → List (List ℕ)
texts keys peeks = key_bytes keys ++ peek_texts peeks

peek_has : (peeks : List Peek) (q : Peek) → Has peeks q → Has (peek_texts peeks) (q.byte ∷ [])
peek_has [] q h = h
peek_has (x ∷ peeks) q (inl e) = inl (ap (λ (z : Peek). z.byte ∷ []) e)
peek_has (x ∷ peeks) q (inr h) = inr (peek_has peeks q h)

abbrev PeekFits : List Peek → List ℕ → ℕ → Option Peek → Type 0
PeekFits peeks p b (Some q) = Has peeks q × (q.byte ∷ [] ≡ p ++ b ∷ [])
PeekFits peeks p b None = Unit {0}

peek_fits : (peeks : List Peek) (p : List ℕ) (b : ℕ) → PeekFits peeks p b (peek_of peeks p b)
peek_fits peeks [] b = go (find (λ (q : Peek). q.byte == b) peeks) (find_peek peeks b)
  where
    go : (o : Option Peek) → PeekIs peeks b o → PeekFits peeks [] b o
    go (Some q) h = (h.0, ap (λ (z : ℕ). z ∷ []) h.1)
    go None h = tt
peek_fits peeks (x ∷ p) b = tt

-- an edge on a byte is there by a text that goes on with it
by_text : (roots : ℕ → ℕ) (root : ℕ) (keys : List Key) (peeks : List Peek) (p : List ℕ) (b : ℕ) (o : Option ℕ) → PlaceIs (p ++ b ∷ []) (inner_of keys) o → (k : Option Key) → KeyIs keys (p ++ b ∷ []) k →
    (q : Option Peek) → PeekFits peeks p b q → (e : Edge) → edge_by roots root b o k q ≡ Some e → (t : List ℕ) × Has (texts keys peeks) t × (more : List ℕ) × (t ≡ p ++ b ∷ more)
by_text roots root keys peeks p b (Some i) place k key q peek e h =
    let inner : IsInner keys (p ++ b ∷ []) = inner_only keys (p ++ b ∷ []) (get_has (inner_of keys) i (p ++ b ∷ []) place) in
    (inner.0.bytes, has_left (key_bytes keys) (peek_texts peeks) inner.0.bytes (bytes_has keys inner.0 inner.1), inner.2 ∷ inner.3, inner.4 ∙ append_assoc p (b ∷ []) (inner.2 ∷ inner.3))
by_text roots root keys peeks p b None place (Some k) key q peek e h = (k.bytes, has_left (key_bytes keys) (peek_texts peeks) k.bytes (bytes_has keys k key.0), [], key.1)
by_text roots root keys peeks p b None place None key (Some q) peek e h = (q.byte ∷ [], has_right (key_bytes keys) (peek_texts peeks) (q.byte ∷ []) (peek_has peeks q peek.0), [], peek.1)
by_text roots root keys peeks p b None place None key None peek e h = absurd cc

-- the edges of a state on the bytes below n are no more than the texts that go on with one
count : (roots : ℕ → ℕ) (root : ℕ) (keys : List Key) (peeks : List Peek) (p : List ℕ) (n : ℕ) → length (each_below (edge_at roots root keys peeks p) n) ≤ sum_by (λ (t : List ℕ). goes t p n) (texts keys peeks)
count roots root keys peeks p zero = zero-le
count roots root keys peeks p (suc n) = go (count roots root keys peeks p n) (edge_at roots root keys peeks p n) refl
  where
    go : length (each_below (edge_at roots root keys peeks p) n) ≤ sum_by (λ (t : List ℕ). goes t p n) (texts keys peeks) → (o : Option Edge) → edge_at roots root keys peeks p n ≡ o → length (each_below (edge_at roots root keys peeks p) n ++ listed o) ≤ sum_by (λ (t : List ℕ). goes t p (suc n)) (texts keys peeks)
    go before None e =
        let long : length (each_below (edge_at roots root keys peeks p) n ++ []) ≡ length (each_below (edge_at roots root keys peeks p) n) + 0 = length-append (each_below (edge_at roots root keys peeks p) n) [] in
        let up : sum_by (λ (t : List ℕ). goes t p n) (texts keys peeks) ≤ sum_by (λ (t : List ℕ). goes t p (suc n)) (texts keys peeks) =
        sum_by-le-sum_by (λ (t : List ℕ). goes t p n) (λ (t : List ℕ). goes t p (suc n)) (texts keys peeks) (λ t. goes_up t p n) in
        omega (arith, long, up, before)
    go before (Some x) e =
        let long : length (each_below (edge_at roots root keys peeks p) n ++ x ∷ []) ≡ length (each_below (edge_at roots root keys peeks p) n) + 1 =
        length-append (each_below (edge_at roots root keys peeks p) n) (x ∷ []) in
        let by : (t : List ℕ) × Has (texts keys peeks) t × (more : List ℕ) × (t ≡ p ++ n ∷ more) =
        by_text roots root keys peeks p n (place_of (p ++ n ∷ []) (inner_of keys)) (place_is (p ++ n ∷ []) (inner_of keys)) (key_of keys (p ++ n ∷ [])) (key_is keys (p ++ n ∷ []))
        (peek_of peeks p n) (peek_fits peeks p n) x e in
        let up : suc (sum_by (λ (t : List ℕ). goes t p n) (texts keys peeks)) ≤ sum_by (λ (t : List ℕ). goes t p (suc n)) (texts keys peeks) =
        sum_up (λ (t : List ℕ). goes t p n) (λ (t : List ℕ). goes t p (suc n)) (texts keys peeks) by.0 (λ t. goes_up t p n) by.1 (goes_on by.0 p by.2 n by.3) in
        omega (arith, long, up, before)

-- no text of a list stands in it twice
abbrev Differ : List (List ℕ) → Type 0
Differ [] = Unit {0}
Differ (p ∷ l) = (Has l p → ⊥) × Differ l

differ : (l : List (List ℕ)) → IsOrdered l → Differ l
differ [] o = tt
differ (p ∷ l) o = ((λ h. before_self p (o.0 p h)), differ l o.1)

-- what follows a byte in the texts that begin with it
abbrev tails : ℕ → List (List ℕ) → List (List ℕ)
tails x [] = []
tails x ([] ∷ l) = tails x l
tails x ((y ∷ p) ∷ l) = cond (eqb x y) (p ∷ tails x l) (tails x l)

has_tail : (x : ℕ) (l : List (List ℕ)) (p : List ℕ) → Has (tails x l) p → Has l (x ∷ p)
has_tail x [] p h = h
has_tail x ([] ∷ l) p h = inr (has_tail x l p h)
has_tail x ((y ∷ q) ∷ l) p h = go (has_tail x l p) (eqb x y) refl h
  where
    go : (Has (tails x l) p → Has l (x ∷ p)) → (v : Bool) → eqb x y ≡ v → Has (cond v (q ∷ tails x l) (tails x l)) p → (y ∷ q ≡ x ∷ p) ⊎ Has l (x ∷ p)
    go rest true e (inl s) = inl (ap (λ (z : ℕ). z ∷ q) (sym (eqb-true x y e)) ∙ ap (λ (z : List ℕ). x ∷ z) s)
    go rest true e (inr i) = inr (rest i)
    go rest false e i = inr (rest i)

tails_differ : (x : ℕ) (l : List (List ℕ)) → Differ l → Differ (tails x l)
tails_differ x [] d = tt
tails_differ x ([] ∷ l) d = tails_differ x l d.1
tails_differ x ((y ∷ q) ∷ l) d = go (tails_differ x l d.1) (eqb x y) refl
  where
    go : Differ (tails x l) → (v : Bool) → eqb x y ≡ v → Differ (cond v (q ∷ tails x l) (tails x l))
    go rest true e = ((λ h. d.0 (subst (λ (z : ℕ). Has l (z ∷ q)) (eqb-true x y e) (has_tail x l q h))), rest)
    go rest false e = rest

-- how many are empty
abbrev empties : List (List ℕ) → ℕ
empties [] = 0
empties ([] ∷ l) = suc (empties l)
empties ((y ∷ p) ∷ l) = empties l

no_empties : (l : List (List ℕ)) → (Has l [] → ⊥) → empties l ≤ 0
no_empties [] h = omega arith
no_empties ([] ∷ l) h = absurd (h (inl refl))
no_empties ((y ∷ p) ∷ l) h = no_empties l (λ i. h (inr i))

one_empty : (l : List (List ℕ)) → Differ l → empties l ≤ 1
one_empty [] d = omega arith
one_empty ([] ∷ l) d = (let none : empties l ≤ 0 = no_empties l d.0 in omega (arith, none))
one_empty ((y ∷ p) ∷ l) d = one_empty l d.1

split : (x : ℕ) (t : List ℕ) (n : ℕ) (l : List (List ℕ)) → sum_by (λ (p : List ℕ). goes (x ∷ t) p n) l ≤ empties l + sum_by (λ (p : List ℕ). goes t p n) (tails x l)
split x t n [] = omega arith
split x t n ([] ∷ l) =
    let rest : sum_by (λ (p : List ℕ). goes (x ∷ t) p n) l ≤ empties l + sum_by (λ (p : List ℕ). goes t p n) (tails x l) = split x t n l in
    let all : sum_by (λ (p : List ℕ). goes (x ∷ t) p n) ([] ∷ l) ≡ cond (ltb x n) 1 0 + sum_by (λ (p : List ℕ). goes (x ∷ t) p n) l = sum_by-cons (λ (p : List ℕ). goes (x ∷ t) p n) [] l in
    let small : cond (ltb x n) 1 0 ≤ 1 = one (ltb x n) in
    omega (arith, rest, all, small)
  where
    one : (v : Bool) → cond v 1 0 ≤ 1
    one true = omega arith
    one false = omega arith
split x t n ((y ∷ q) ∷ l) = (let one : cond (eqb x y) (goes t q n) 0 + sum_by (λ (p : List ℕ). goes (x ∷ t) p n) l ≤ empties l + sum_by (λ (p : List ℕ). goes t p n) (cond (eqb x y) (q ∷ tails x l) (tails x l)) = at (split x t n l) (eqb x y) in omega (arith, one, all))
  where
    all : sum_by (λ (p : List ℕ). goes (x ∷ t) p n) ((y ∷ q) ∷ l) ≡ cond (eqb x y) (goes t q n) 0 + sum_by (λ (p : List ℕ). goes (x ∷ t) p n) l
    all = sum_by-cons (λ (p : List ℕ). goes (x ∷ t) p n) (y ∷ q) l

    at : sum_by (λ (p : List ℕ). goes (x ∷ t) p n) l ≤ empties l + sum_by (λ (p : List ℕ). goes t p n) (tails x l) → (v : Bool) →
        cond v (goes t q n) 0 + sum_by (λ (p : List ℕ). goes (x ∷ t) p n) l ≤ empties l + sum_by (λ (p : List ℕ). goes t p n) (cond v (q ∷ tails x l) (tails x l))
    at rest true =
        let more : sum_by (λ (p : List ℕ). goes t p n) (q ∷ tails x l) ≡ goes t q n + sum_by (λ (p : List ℕ). goes t p n) (tails x l) = sum_by-cons (λ (p : List ℕ). goes t p n) q (tails x l) in
        omega (arith, rest, more)
    at rest false = omega (arith, rest)

zeros : (n : ℕ) (l : List (List ℕ)) → sum_by (λ (p : List ℕ). goes [] p n) l ≤ 0
zeros n [] = omega arith
zeros n (p ∷ l) = (let rest : sum_by (λ (q : List ℕ). goes [] q n) l ≤ 0 = zeros n l in let all : sum_by (λ (q : List ℕ). goes [] q n) (p ∷ l) ≡ 0 + sum_by (λ (q : List ℕ). goes [] q n) l = sum_by-cons (λ (q : List ℕ). goes [] q n) p l in omega (arith, rest, all))

-- a text goes on behind no more of them than it has bytes
front_sum : (t : List ℕ) (n : ℕ) (l : List (List ℕ)) → Differ l → sum_by (λ (p : List ℕ). goes t p n) l ≤ length t
front_sum [] n l d = zeros n l
front_sum (x ∷ t) n l d =
    let parts : sum_by (λ (p : List ℕ). goes (x ∷ t) p n) l ≤ empties l + sum_by (λ (p : List ℕ). goes t p n) (tails x l) = split x t n l in
    let one : empties l ≤ 1 = one_empty l d in
    let rest : sum_by (λ (p : List ℕ). goes t p n) (tails x l) ≤ length t = front_sum t n (tails x l) (tails_differ x l d) in
    omega (arith, parts, one, rest)

none_sum : {X : Type 0} (l : List X) → sum_by (λ (x : X). 0) l ≤ 0
none_sum [] = omega arith
none_sum {X} (x ∷ l) = (let rest : sum_by (λ (y : X). 0) l ≤ 0 = none_sum l in let all : sum_by (λ (y : X). 0) (x ∷ l) ≡ 0 + sum_by (λ (y : X). 0) l = sum_by-cons (λ (y : X). 0) x l in omega (arith, rest, all))

sum_parts : {X : Type 0} (f g h : X → ℕ) (l : List X) → ((x : X) → h x ≡ f x + g x) → sum_by h l ≡ sum_by f l + sum_by g l
sum_parts f g h [] e = omega arith
sum_parts f g h (x ∷ l) e =
    let rest : sum_by h l ≡ sum_by f l + sum_by g l = sum_parts f g h l e in
    let here : h x ≡ f x + g x = e x in
    omega (arith, rest, here, sum_by-cons f x l, sum_by-cons g x l, sum_by-cons h x l)

all_sum : (ts : List (List ℕ)) (n : ℕ) (l : List (List ℕ)) → Differ l → sum_by (λ (p : List ℕ). sum_by (λ (t : List ℕ). goes t p n) ts) l ≤ sum_by length ts
all_sum [] n l d = none_sum l
all_sum (t ∷ ts) n l d =
    let parts : sum_by (λ (p : List ℕ). sum_by (λ (s : List ℕ). goes s p n) (t ∷ ts)) l ≡ sum_by (λ (p : List ℕ). goes t p n) l + sum_by (λ (p : List ℕ). sum_by (λ (s : List ℕ). goes s p n) ts) l =
    sum_parts (λ (p : List ℕ). goes t p n) (λ (p : List ℕ). sum_by (λ (s : List ℕ). goes s p n) ts) (λ (p : List ℕ). sum_by (λ (s : List ℕ). goes s p n) (t ∷ ts)) l
    (λ p. sum_by-cons (λ (s : List ℕ). goes s p n) t ts) in
    let one : sum_by (λ (p : List ℕ). goes t p n) l ≤ length t = front_sum t n l d in
    let rest : sum_by (λ (p : List ℕ). sum_by (λ (s : List ℕ). goes s p n) ts) l ≤ sum_by length ts = all_sum ts n l d in
    let all : sum_by length (t ∷ ts) ≡ length t + sum_by length ts = sum_by-cons length t ts in
    omega (arith, parts, one, rest, all)

key_sum : (keys : List Key) → sum_by length (key_bytes keys) ≡ sum_by (λ (k : Key). length k.bytes) keys
key_sum [] = refl
key_sum (k ∷ keys) =
    let rest : sum_by length (key_bytes keys) ≡ sum_by (λ (x : Key). length x.bytes) keys = key_sum keys in
    omega (arith, rest, sum_by-cons length k.bytes (key_bytes keys), sum_by-cons (λ (x : Key). length x.bytes) k keys)

peek_sum : (peeks : List Peek) → sum_by length (peek_texts peeks) ≡ length peeks
peek_sum [] = refl
peek_sum (q ∷ peeks) =
    let rest : sum_by length (peek_texts peeks) ≡ length peeks = peek_sum peeks in
    let all : sum_by length ((q.byte ∷ []) ∷ peek_texts peeks) ≡ 1 + sum_by length (peek_texts peeks) = sum_by-cons length (q.byte ∷ []) (peek_texts peeks) in
    omega (arith, rest, all)

-- over all states of a node
pub node_edges : (roots : ℕ → ℕ) (root : ℕ) (keys : List Key) (peeks : List Peek) → sum_by (λ (p : List ℕ). length (merged (each_below (edge_at roots root keys peeks p) 256))) ([] ∷ inner_of keys) ≤ sum_by (λ (k : Key). length k.bytes) keys + length peeks
node_edges roots root keys peeks =
    let by_texts : sum_by (λ (p : List ℕ). length (merged (each_below (edge_at roots root keys peeks p) 256))) ([] ∷ inner_of keys) ≤ sum_by (λ (p : List ℕ). sum_by (λ (t : List ℕ). goes t p 256) (texts keys peeks)) ([] ∷ inner_of keys) =
    sum_by-le-sum_by (λ (p : List ℕ). length (merged (each_below (edge_at roots root keys peeks p) 256))) (λ (p : List ℕ). sum_by (λ (t : List ℕ). goes t p 256) (texts keys peeks)) ([] ∷ inner_of keys)
    (λ p. (let short : length (merged (each_below (edge_at roots root keys peeks p) 256)) ≤ length (each_below (edge_at roots root keys peeks p) 256) = merged-short (each_below (edge_at roots root keys peeks p) 256) in
    let few : length (each_below (edge_at roots root keys peeks p) 256) ≤ sum_by (λ (t : List ℕ). goes t p 256) (texts keys peeks) = count roots root keys peeks p 256 in
    omega (arith, short, few))) in
    let all : sum_by (λ (p : List ℕ). sum_by (λ (t : List ℕ). goes t p 256) (texts keys peeks)) ([] ∷ inner_of keys) ≤ sum_by length (texts keys peeks) =
    all_sum (texts keys peeks) 256 ([] ∷ inner_of keys) (differ ([] ∷ inner_of keys) (rows_ordered 1 (key_bytes keys))) in
    let parts : sum_by length (texts keys peeks) ≡ sum_by length (key_bytes keys) + sum_by length (peek_texts peeks) = sum_by-append length (key_bytes keys) (peek_texts peeks) in
    omega (arith, by_texts, all, parts, key_sum keys, peek_sum peeks)
