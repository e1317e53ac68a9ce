-- What keys and a text have in common.
use Rattle.std.proofs.Common.{subst, ◌≡◌, ℕ, zero, suc, ◌+◌, ◌≤◌, ◌<◌, List, [], ◌∷◌, ◌++◌, Option, Some, None, Bool, true, false, cond, refl, sym, ◌∙◌, ap, arith, length, zero-le, ◌&&◌, ◌||◌, eqb, ltb, length-append, append_assoc, append-nil, inl, inr, get_or}
use Rattle.std.specs.Prelude.{◌⊎◌, ◌==◌, nat_lt}
use Rattle.std.specs.List.{Contains}
use Rattle.std.proofs.lemmas.Bool.{eq-eqb, eqb-true, eqb-false, ltb-true, lt-ltb, ltb-false, false_from_ne_true}
use Rattle.pp_graph.specs.declared.node.Key.{Key}
use Rattle.pp_lower.specs.steps.Order.{Has}
use Rattle.pp_mean.specs.Nodes.{common, reach, fits, longer, best, goes_on}

pub has_contains : {A : Type 0} (l : List A) (x : A) → Has l x → Contains l x
has_contains [] x h = absurd h
has_contains (y ∷ l) x (inl e) = (0, omega arith, e)
has_contains (y ∷ l) x (inr h) = (let c : Contains l x = has_contains l x h in (suc c.0, (let below : c.0 < length l = c.1 in omega arith), c.2))

contains_has_at : {A : Type 0} (l : List A) (x : A) (i : ℕ) → i < length l → get_or l i x ≡ x → Has l x
contains_has_at [] x i h e = absurd (omega arith)
contains_has_at (y ∷ l) x zero h e = inl e
contains_has_at (y ∷ l) x (suc i) h e = inr (contains_has_at l x i (omega arith) e)

pub contains_has : {A : Type 0} (l : List A) (x : A) → Contains l x → Has l x
contains_has l x c = contains_has_at l x c.0 c.1 c.2

-- the list begins with p
abbrev pub Begins : List ℕ → List ℕ → Type 0
Begins p l = (more : List ℕ) × (l ≡ p ++ more)

-- p is a proper prefix of a key
abbrev pub IsInner : List Key → List ℕ → Type 0
IsInner keys p = (k : Key) × Has keys k × (b : ℕ) × (more : List ℕ) × (k.bytes ≡ p ++ b ∷ more)

-- no key begins with p
abbrev pub NoneBegins : List Key → List ℕ → Type 0
NoneBegins keys p = (k : Key) → Has keys k → Begins p k.bytes → ⊥

common_all : (k more : List ℕ) → common k (k ++ more) ≡ length k
common_all [] more = refl
common_all (x ∷ k) more = rw (eq-eqb x x refl, common_all k more) refl

common_front : (s more : List ℕ) → common (s ++ more) s ≡ length s
common_front [] [] = refl
common_front [] (x ∷ more) = refl
common_front (x ∷ s) more = rw (eq-eqb x x refl, common_front s more) refl

common_add : (p a z : List ℕ) → common (p ++ a) (p ++ z) ≡ length p + common a z
common_add [] a z = rw zero_plus refl
  where
    zero_plus : 0 + common a z ≡ common a z
    zero_plus = omega arith
common_add (x ∷ p) a z = rw (eq-eqb x x refl, common_add p a z) (omega arith)

abbrev Split : List ℕ → List ℕ → ℕ → Type 0
Split k s n = (p : List ℕ) × (a : List ℕ) × (z : List ℕ) × (k ≡ p ++ a) × (s ≡ p ++ z) × (length p ≡ n)

split_by : (x b n : ℕ) (k s : List ℕ) (v : Bool) → eqb x b ≡ v → Split k s n → Split (x ∷ k) (b ∷ s) (cond v (suc n) 0)
split_by x b n k s true e h =
    let same : b ≡ x = sym (eqb-true x b e) in
    (x ∷ h.0, h.1, h.2, ap (λ (l : List ℕ). x ∷ l) h.3, ap (λ (y : ℕ). y ∷ s) same ∙ ap (λ (l : List ℕ). x ∷ l) h.4, ap suc h.5)
split_by x b n k s false e h = ([], x ∷ k, b ∷ s, refl, refl, refl)

-- a key and a text, cut behind what they have in common
common_split : (k s : List ℕ) → Split k s (common k s)
common_split [] s = ([], [], s, refl, refl, refl)
common_split (x ∷ k) [] = ([], x ∷ k, [], refl, refl, refl)
common_split (x ∷ k) (b ∷ s) = split_by x b (common k s) k s (eqb x b) refl (common_split k s)

no_more : (a : List ℕ) (p : List ℕ) → length p ≡ length (p ++ a) → a ≡ []
no_more [] p e = refl
no_more (x ∷ a) p e = let long : length (p ++ x ∷ a) ≡ length p + suc (length a) = length-append p (x ∷ a) in absurd (omega arith)

begins_common : (k s : List ℕ) → common k s ≡ length k → Begins k s
begins_common k s e =
    let h : Split k s (common k s) = common_split k s in
    let long : length h.0 ≡ length (h.0 ++ h.1) = h.5 ∙ e ∙ ap length h.3 in
    let none : h.1 ≡ [] = no_more h.1 h.0 long in
    let whole : k ≡ h.0 = h.3 ∙ ap (λ (l : List ℕ). h.0 ++ l) none ∙ append-nil h.0 in
    (h.2, h.4 ∙ ap (λ (l : List ℕ). l ++ h.2) (sym whole))

more_there : (a p : List ℕ) → length p < length (p ++ a) → (b : ℕ) × (more : List ℕ) × (a ≡ b ∷ more)
more_there [] p h = let same : length (p ++ []) ≡ length p = ap length (append-nil p) in absurd (omega arith)
more_there (x ∷ a) p h = (x, a, refl)

inner_common : (k s : List ℕ) → common k s ≡ length s → length s < length k → (b : ℕ) × (more : List ℕ) × (k ≡ s ++ b ∷ more)
inner_common k s e l =
    let h : Split k s (common k s) = common_split k s in
    let none : h.2 ≡ [] = no_more h.2 h.0 (h.5 ∙ e ∙ ap length h.4) in
    let whole : s ≡ h.0 = h.4 ∙ ap (λ (x : List ℕ). h.0 ++ x) none ∙ append-nil h.0 in
    let long : length k ≡ length (h.0 ++ h.1) = ap length h.3 in
    let short : length s ≡ length h.0 = ap length whole in
    let m : (b : ℕ) × (more : List ℕ) × (h.1 ≡ b ∷ more) = more_there h.1 h.0 (omega arith) in
    (m.0, m.1, h.3 ∙ ap (λ (x : List ℕ). h.0 ++ x) m.2 ∙ ap (λ (x : List ℕ). x ++ m.0 ∷ m.1) (sym whole))

-- Two ways to cut a list: the longer front has the shorter one.
abbrev Fronts : List ℕ → ℕ → List ℕ → List ℕ → List ℕ → Type 0
Fronts p x a q b = (more : List ℕ) × (q ≡ p ++ x ∷ more) × (a ≡ more ++ b)

front_tail : (y x : ℕ) (p a q b : List ℕ) → Fronts p x a q b → Fronts (y ∷ p) x a (y ∷ q) b
front_tail y x p a q b h = (h.0, ap (λ (l : List ℕ). y ∷ l) h.1, h.2)

head_is : (x y : ℕ) (a b : List ℕ) → x ∷ a ≡ y ∷ b → x ≡ y
head_is x y a b e = cc

tail_is : (x y : ℕ) (a b : List ℕ) → x ∷ a ≡ y ∷ b → a ≡ b
tail_is x y a b e = cc

pub fronts : (p : List ℕ) (x : ℕ) (a q b : List ℕ) → p ++ x ∷ a ≡ q ++ b → length p < length q → Fronts p x a q b
fronts p x a [] b e l = absurd (omega arith)
fronts [] x a (z ∷ q) b e l = (q, ap (λ (y : ℕ). y ∷ q) (sym (head_is x z a (q ++ b) e)), tail_is x z a (q ++ b) e)
fronts (y ∷ p) x a (z ∷ q) b e l =
    let same : y ≡ z = head_is y z (p ++ x ∷ a) (q ++ b) e in
    let rest : p ++ x ∷ a ≡ q ++ b = tail_is y z (p ++ x ∷ a) (q ++ b) e in
    subst (λ (w : ℕ). Fronts (y ∷ p) x a (w ∷ q) b) same (front_tail y x p a q b (fronts p x a q b rest (omega arith)))

pub same_fronts : (p a q b : List ℕ) → p ++ a ≡ q ++ b → length p ≡ length q → p ≡ q
same_fronts [] a [] b e l = refl
same_fronts [] a (z ∷ q) b e l = absurd (omega arith)
same_fronts (y ∷ p) a [] b e l = absurd (omega arith)
same_fronts (y ∷ p) a (z ∷ q) b e l =
    ap (λ (w : ℕ). w ∷ p) (head_is y z (p ++ a) (q ++ b) e) ∙ ap (λ (w : List ℕ). z ∷ w) (same_fronts p a q b (tail_is y z (p ++ a) (q ++ b) e) (omega arith))

-- Tests.
or_true : (a b : Bool) → a || b ≡ true → (a ≡ true) ⊎ (b ≡ true)
or_true true b h = inl refl
or_true false b h = inr h

and_true : (a b : Bool) → a && b ≡ true → (a ≡ true) × (b ≡ true)
and_true true b h = (refl, h)
and_true false b h = cc

goes_on_found : (keys : List Key) (s : List ℕ) → goes_on keys s ≡ true → IsInner keys s
goes_on_found [] s h = cc
goes_on_found (k ∷ keys) s h = go (or_true ((common k.bytes s == length s) && nat_lt (length s) (length k.bytes)) (goes_on keys s) h) (goes_on_found keys s)
  where
    go : (((common k.bytes s == length s) && nat_lt (length s) (length k.bytes)) ≡ true) ⊎ (goes_on keys s ≡ true) → (goes_on keys s ≡ true → IsInner keys s) → IsInner (k ∷ keys) s
    go (inl e) rest =
        let both : ((common k.bytes s == length s) ≡ true) × (nat_lt (length s) (length k.bytes) ≡ true) = and_true (common k.bytes s == length s) (nat_lt (length s) (length k.bytes)) e in
        let found : (b : ℕ) × (more : List ℕ) × (k.bytes ≡ s ++ b ∷ more) =
        inner_common k.bytes s (eqb-true (common k.bytes s) (length s) both.0) (ltb-true (length s) (length k.bytes) both.1) in
        (k, inl refl, found.0, found.1, found.2)
    go (inr e) rest = let r : IsInner keys s = rest e in (r.0, inr r.1, r.2, r.3, r.4)

goes_on_here : (k : Key) (s : List ℕ) (b : ℕ) (more : List ℕ) → k.bytes ≡ s ++ b ∷ more → (common k.bytes s == length s) && nat_lt (length s) (length k.bytes) ≡ true
goes_on_here k s b more e =
    let c : common k.bytes s ≡ length s = ap (λ (l : List ℕ). common l s) e ∙ common_front s (b ∷ more) in
    let l : length k.bytes ≡ length s + suc (length more) = ap length e ∙ length-append s (b ∷ more) in
    rw (eq-eqb (common k.bytes s) (length s) c, lt-ltb (length s) (length k.bytes) (omega arith)) refl

pub goes_on_inner : (keys : List Key) (s : List ℕ) → IsInner keys s → goes_on keys s ≡ true
goes_on_inner keys s h = go keys h.1
  where
    or_right : (a b : Bool) → b ≡ true → a || b ≡ true
    or_right true b e = refl
    or_right false b e = e

    or_left : (a b : Bool) → a ≡ true → a || b ≡ true
    or_left true b e = refl
    or_left false b e = cc

    go : (l : List Key) → Has l h.0 → goes_on l s ≡ true
    go [] n = absurd n
    go (k ∷ l) (inl e) =
        or_left ((common k.bytes s == length s) && nat_lt (length s) (length k.bytes)) (goes_on l s)
        (goes_on_here k s h.2 h.3 (ap (λ (x : Key). x.bytes) e ∙ h.4))
    go (k ∷ l) (inr n) = or_right ((common k.bytes s == length s) && nat_lt (length s) (length k.bytes)) (goes_on l s) (go l n)

-- the longest key that begins the text
abbrev pub BestIs : List Key → List ℕ → Option Key → Type 0
BestIs keys s None = (l : Key) → Has keys l → Begins l.bytes s → ⊥
BestIs keys s (Some k) = Has keys k × Begins k.bytes s × ((l : Key) → Has keys l → Begins l.bytes s → length l.bytes ≤ length k.bytes)

fits_begins : (k : Key) (s : List ℕ) → fits s k ≡ false → Begins k.bytes s → ⊥
fits_begins k s e h =
    eqb-false (common k.bytes s) (length k.bytes) e (ap (common k.bytes) h.1 ∙ common_all k.bytes h.0)

longer_is : (k : Key) (keys : List Key) (s : List ℕ) (o : Option Key) → Begins k.bytes s → BestIs keys s o → BestIs (k ∷ keys) s (Some (longer k o))
longer_is k keys s None b h = (inl refl, b, most)
  where
    most : (l : Key) → Has (k ∷ keys) l → Begins l.bytes s → length l.bytes ≤ length k.bytes
    most l (inl e) c = let same : length k.bytes ≡ length l.bytes = ap (λ (x : Key). length x.bytes) e in omega arith
    most l (inr n) c = absurd (h l n c)
longer_is k keys s (Some m) b h = go (ltb (length k.bytes) (length m.bytes)) refl
  where
    go : (v : Bool) → ltb (length k.bytes) (length m.bytes) ≡ v → BestIs (k ∷ keys) s (Some (cond v m k))
    go true e = (inr h.0, h.1, most)
      where
        most : (l : Key) → Has (k ∷ keys) l → Begins l.bytes s → length l.bytes ≤ length m.bytes
        most l (inl d) c =
            let same : length k.bytes ≡ length l.bytes = ap (λ (x : Key). length x.bytes) d in
            let less : length k.bytes < length m.bytes = ltb-true (length k.bytes) (length m.bytes) e in
            omega arith
        most l (inr n) c = h.2 l n c
    go false e = (inl refl, b, most)
      where
        most : (l : Key) → Has (k ∷ keys) l → Begins l.bytes s → length l.bytes ≤ length k.bytes
        most l (inl d) c = let same : length k.bytes ≡ length l.bytes = ap (λ (x : Key). length x.bytes) d in omega arith
        most l (inr n) c =
            let less : length m.bytes ≤ length k.bytes = ltb-false (length k.bytes) (length m.bytes) e in
            let here : length l.bytes ≤ length m.bytes = h.2 l n c in
            omega arith

more_is : (k : Key) (keys : List Key) (s : List ℕ) (o : Option Key) → (Begins k.bytes s → ⊥) → BestIs keys s o → BestIs (k ∷ keys) s o
more_is k keys s None n h = none
  where
    none : (l : Key) → Has (k ∷ keys) l → Begins l.bytes s → ⊥
    none l (inl e) c = n (subst (λ (x : Key). Begins x.bytes s) (sym e) c)
    none l (inr i) c = h l i c
more_is k keys s (Some m) n h = (inr h.0, h.1, most)
  where
    most : (l : Key) → Has (k ∷ keys) l → Begins l.bytes s → length l.bytes ≤ length m.bytes
    most l (inl e) c = absurd (n (subst (λ (x : Key). Begins x.bytes s) (sym e) c))
    most l (inr i) c = h.2 l i c

pub best_is : (keys : List Key) (s : List ℕ) → BestIs keys s (best keys s)
best_is [] s = λ l h c. h
best_is (k ∷ keys) s = go (fits s k) refl (best_is keys s)
  where
    go : (v : Bool) → fits s k ≡ v → BestIs keys s (best keys s) → BestIs (k ∷ keys) s (cond v (Some (longer k (best keys s))) (best keys s))
    go true e h = longer_is k keys s (best keys s) (begins_common k.bytes s (eqb-true (common k.bytes s) (length k.bytes) e)) h
    go false e h = more_is k keys s (best keys s) (fits_begins k s e) h

-- how far keys reach
reach_most : (keys : List Key) (s : List ℕ) (n : ℕ) → ((k : Key) → Has keys k → common k.bytes s ≤ n) → reach keys s ≤ n
reach_most [] s n h = zero-le
reach_most (k ∷ keys) s n h =
    let here : common k.bytes s ≤ n = h k (inl refl) in
    let rest : reach keys s ≤ n = reach_most keys s n (λ l i. h l (inr i)) in
    omega arith

reach_least : (keys : List Key) (s : List ℕ) (k : Key) → Has keys k → common k.bytes s ≤ reach keys s
reach_least [] s k h = absurd h
reach_least (l ∷ keys) s k (inl e) =
    let same : common l.bytes s ≡ common k.bytes s = ap (λ (x : Key). common x.bytes s) e in omega arith
reach_least (l ∷ keys) s k (inr h) = let rest : common k.bytes s ≤ reach keys s = reach_least keys s k h in omega arith

-- a key that has more than p in common with a text that goes on behind p with b begins with p and b
more_common : (k p s : List ℕ) (b : ℕ) → length p < common k (p ++ b ∷ s) → Begins (p ++ b ∷ []) k
more_common k p s b l =
    let h : Split k (p ++ b ∷ s) (common k (p ++ b ∷ s)) = common_split k (p ++ b ∷ s) in
    let f : Fronts p b s h.0 h.2 = fronts p b s h.0 h.2 h.4 (let n : length h.0 ≡ common k (p ++ b ∷ s) = h.5 in omega arith) in (
      f.0 ++ h.1,
      h.3 ∙ ap (λ (x : List ℕ). x ++ h.1) f.1 ∙ append_assoc p (b ∷ f.0) h.1 ∙ sym (append_assoc p (b ∷ []) (f.0 ++ h.1)),
    )

pub reach_off : (keys : List Key) (p s : List ℕ) (b : ℕ) → NoneBegins keys (p ++ b ∷ []) → reach keys (p ++ b ∷ s) ≤ length p
reach_off keys p s b none = reach_most keys (p ++ b ∷ s) (length p) (λ k h. most k h (ltb (length p) (common k.bytes (p ++ b ∷ s))) refl)
  where
    most : (k : Key) → Has keys k → (v : Bool) → ltb (length p) (common k.bytes (p ++ b ∷ s)) ≡ v → common k.bytes (p ++ b ∷ s) ≤ length p
    most k h true e = absurd (none k h (more_common k.bytes p s b (ltb-true (length p) (common k.bytes (p ++ b ∷ s)) e)))
    most k h false e = ltb-false (length p) (common k.bytes (p ++ b ∷ s)) e

pub reach_on : (keys : List Key) (p s : List ℕ) (k : Key) → Has keys k → Begins p k.bytes → length p ≤ reach keys (p ++ s)
reach_on keys p s k h b =
    let least : common k.bytes (p ++ s) ≤ reach keys (p ++ s) = reach_least keys (p ++ s) k h in
    let same : common k.bytes (p ++ s) ≡ length p + common b.0 s = ap (λ (l : List ℕ). common l (p ++ s)) b.1 ∙ common_add p b.0 s in
    omega arith

-- what begins a text that goes on behind p with b, where no key begins with p and b, is no longer than p
pub begins_off : (keys : List Key) (p s : List ℕ) (b : ℕ) → NoneBegins keys (p ++ b ∷ []) → (l : Key) → Has keys l → Begins l.bytes (p ++ b ∷ s) → length l.bytes ≤ length p
begins_off keys p s b none l h c = go (ltb (length p) (length l.bytes)) refl
  where
    go : (v : Bool) → ltb (length p) (length l.bytes) ≡ v → length l.bytes ≤ length p
    go true e =
        let f : Fronts p b s l.bytes c.0 = fronts p b s l.bytes c.0 c.1 (ltb-true (length p) (length l.bytes) e) in
        absurd (none l h (f.0, f.1 ∙ sym (append_assoc p (b ∷ []) f.0)))
    go false e = ltb-false (length p) (length l.bytes) e

-- nor does a key go on behind such a text
pub stops_off : (keys : List Key) (p s : List ℕ) (b : ℕ) → (IsInner keys (p ++ b ∷ []) → ⊥) → goes_on keys (p ++ b ∷ s) ≡ false
stops_off keys p s b none = false_from_ne_true (goes_on keys (p ++ b ∷ s)) (λ e. go (goes_on_found keys (p ++ b ∷ s) e))
  where
    inner : (k : List ℕ) (x : ℕ) (more t : List ℕ) → k ≡ (p ++ b ∷ t) ++ x ∷ more → (y : ℕ) × (rest : List ℕ) × (k ≡ (p ++ b ∷ []) ++ y ∷ rest)
    inner k x more [] e = (x, more, e)
    inner k x more (z ∷ t) e =
        (z, t ++ x ∷ more, e ∙ append_assoc p (b ∷ z ∷ t) (x ∷ more) ∙ sym (append_assoc p (b ∷ []) (z ∷ t ++ x ∷ more)))

    go : IsInner keys (p ++ b ∷ s) → ⊥
    go h =
        let i : (y : ℕ) × (rest : List ℕ) × (h.0.bytes ≡ (p ++ b ∷ []) ++ y ∷ rest) = inner h.0.bytes h.2 h.3 s h.4 in
        none (h.0, h.1, i.0, i.1, i.2)
