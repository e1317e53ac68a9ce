-- The edge that a state uses.
use Rattle.std.proofs.Common.{◌≡◌, ℕ, zero, suc, ◌≤◌, ◌<◌, List, [], ◌∷◌, ◌++◌, Option, Some, None, Bool, true, false, cond, refl, sym, ◌∙◌, ap, arith, eqb, ltb, leb, ◌&&◌}
use Rattle.std.specs.Prelude.{nat_le, find}
use Rattle.std.proofs.lemmas.Bool.{eqb-true, eqb-false, ltb-true, ltb-false, le-leb, leb-true}
use Rattle.pp_program.specs.declared.program.Edge.{Edge}
use Rattle.pp_bytes.specs.Ranges.{in_pair}
use Rattle.pp_program.specs.States.{edge_on}
use Rattle.pp_program.proofs.MergeLaws.{AscendsFrom, EndsBelow, ends-higher, ends-append, ascends-append}
use Rattle.pp_lower.specs.Tree.{listed, each_below}

abbrev pub or_else : {A : Type 0} → Option A → Option A → Option A
or_else (Some x) o = Some x
or_else None o = o

pub find-append : {A : Type 0} (test : A → Bool) (xs ys : List A) → find test (xs ++ ys) ≡ or_else (find test xs) (find test ys)
find-append test [] ys = refl
find-append test (x ∷ xs) ys = go (test x) (find-append test xs ys)
  where
    go : (v : Bool) → find test (xs ++ ys) ≡ or_else (find test xs) (find test ys) →
        cond v (Some x) (find test (xs ++ ys)) ≡ or_else (cond v (Some x) (find test xs)) (find test ys)
    go true i = refl
    go false i = i

-- each edge is on its own byte alone
abbrev pub OnOwn : (ℕ → Option Edge) → Type 0
OnOwn edge = (b : ℕ) (e : Edge) → edge b ≡ Some e → (e.lo ≡ b) × (e.hi ≡ b)

lies_at : (a b lo hi : ℕ) → lo ≡ a → hi ≡ a → in_pair b (lo, hi) ≡ eqb b a
lies_at a b lo hi p q = go (eqb b a) refl
  where
    go : (v : Bool) → eqb b a ≡ v → nat_le lo b && nat_le b hi ≡ v
    go true e =
        let same : b ≡ a = eqb-true b a e in
        rw (le-leb lo b (omega arith), le-leb b hi (omega arith)) refl
    go false e = split (leb lo b) refl (leb b hi) refl
      where
        split : (v : Bool) → leb lo b ≡ v → (w : Bool) → leb b hi ≡ w → v && w ≡ false
        split true d true f =
            let l : lo ≤ b = leb-true lo b d in
            let r : b ≤ hi = leb-true b hi f in
            absurd (eqb-false b a e (omega arith))
        split true d false f = refl
        split false d w f = refl

listed_find : (a b : ℕ) (o : Option Edge) → ((e : Edge) → o ≡ Some e → (e.lo ≡ a) × (e.hi ≡ a)) →
    find (λ (e : Edge). in_pair b (e.lo, e.hi)) (listed o) ≡ cond (eqb b a) o None
listed_find a b None h = go (eqb b a)
  where
    none : Option Edge
    none = None

    go : (v : Bool) → none ≡ cond v none none
    go true = refl
    go false = refl
listed_find a b (Some e) h = ap (λ (v : Bool). cond v (Some e) None) (lies_at a b e.lo e.hi (h e refl).0 (h e refl).1)

find_below : (edge : ℕ → Option Edge) → OnOwn edge → (b n : ℕ) → edge_on b (each_below edge n) ≡ cond (ltb b n) (edge b) None
find_below edge own b zero = go (ltb b 0) refl
  where
    none : Option Edge
    none = None

    go : (v : Bool) → ltb b 0 ≡ v → none ≡ cond v (edge b) none
    go true e = let less : b < 0 = ltb-true b 0 e in absurd (omega arith)
    go false e = refl
find_below edge own b (suc n) =
    find-append (λ (e : Edge). in_pair b (e.lo, e.hi)) (each_below edge n) (listed (edge n))
    ∙ ap (λ (o : Option Edge). or_else o (find (λ (e : Edge). in_pair b (e.lo, e.hi)) (listed (edge n)))) (find_below edge own b n)
    ∙ ap (or_else (cond (ltb b n) (edge b) None)) (listed_find n b (edge n) (λ e. own n e))
    ∙ go (ltb b n) refl (eqb b n) refl (ltb b (suc n)) refl
  where
    left : (o p : Option Edge) → or_else o (cond false p None) ≡ o
    left None p = refl
    left (Some e) p = refl

    go : (u : Bool) → ltb b n ≡ u → (v : Bool) → eqb b n ≡ v → (w : Bool) → ltb b (suc n) ≡ w →
        or_else (cond u (edge b) None) (cond v (edge n) None) ≡ cond w (edge b) None
    go true d true e w f =
        let less : b < n = ltb-true b n d in
        let same : b ≡ n = eqb-true b n e in
        absurd (omega arith)
    go true d false e true f = left (edge b) (edge n)
    go true d false e false f =
        let less : b < n = ltb-true b n d in
        let more : suc n ≤ b = ltb-false b (suc n) f in
        absurd (omega arith)
    go false d true e true f = ap edge (sym (eqb-true b n e))
    go false d true e false f =
        let same : b ≡ n = eqb-true b n e in
        let more : suc n ≤ b = ltb-false b (suc n) f in
        absurd (omega arith)
    go false d false e true f =
        let less : b < suc n = ltb-true b (suc n) f in
        let more : n ≤ b = ltb-false b n d in
        absurd (eqb-false b n e (omega arith))
    go false d false e false f = refl

own_ascends : (n : ℕ) (o : Option Edge) → ((e : Edge) → o ≡ Some e → (e.lo ≡ n) × (e.hi ≡ n)) → AscendsFrom n (listed o)
own_ascends n None h = tt
own_ascends n (Some e) h = (let at : (e.lo ≡ n) × (e.hi ≡ n) = h e refl in (omega (arith, at.0), omega (arith, at.0, at.1), tt))

own_ends : (n : ℕ) (o : Option Edge) → ((e : Edge) → o ≡ Some e → (e.lo ≡ n) × (e.hi ≡ n)) → EndsBelow (suc n) (listed o)
own_ends n None h = tt
own_ends n (Some e) h = (let at : (e.lo ≡ n) × (e.hi ≡ n) = h e refl in (omega (arith, at.1), tt))

ends_below : (edge : ℕ → Option Edge) → OnOwn edge → (n : ℕ) → EndsBelow n (each_below edge n)
ends_below edge own zero = tt
ends_below edge own (suc n) =
    ends-append (suc n) (each_below edge n) (listed (edge n)) (ends-higher n (suc n) (each_below edge n) (omega arith) (ends_below edge own n)) (own_ends n (edge n) (λ e. own n e))

-- edges for each byte ascend
pub own_ascend : (edge : ℕ → Option Edge) → OnOwn edge → (n : ℕ) → AscendsFrom 0 (each_below edge n)
own_ascend edge own zero = tt
own_ascend edge own (suc n) =
    ascends-append 0 n (each_below edge n) (listed (edge n)) (omega arith) (own_ascend edge own n) (ends_below edge own n) (own_ascends n (edge n) (λ e. own n e))

-- the edge on a byte is found, where bytes from 256 on have none
pub find_edge : (edge : ℕ → Option Edge) → OnOwn edge → ((b : ℕ) → 256 ≤ b → edge b ≡ None) → (b : ℕ) →
    edge_on b (each_below edge 256) ≡ edge b
find_edge edge own none b = find_below edge own b 256 ∙ go (ltb b 256) refl
  where
    go : (v : Bool) → ltb b 256 ≡ v → cond v (edge b) None ≡ edge b
    go true e = refl
    go false e = sym (none b (ltb-false b 256 e))

-- where a byte has an edge there are edges
pub some_edges : (edge : ℕ → Option Edge) → OnOwn edge → ((b : ℕ) → 256 ≤ b → edge b ≡ None) → (b : ℕ) (e : Edge) → edge b ≡ Some e →
    (x : Edge) × (l : List Edge) × (each_below edge 256 ≡ x ∷ l)
some_edges edge own none b e h = go (each_below edge 256) refl
  where
    go : (l : List Edge) → each_below edge 256 ≡ l → (x : Edge) × (m : List Edge) × (each_below edge 256 ≡ x ∷ m)
    go [] d =
        let found : find (λ (x : Edge). in_pair b (x.lo, x.hi)) (each_below edge 256) ≡ Some e = find_edge edge own none b ∙ h in
        let nothing : find (λ (x : Edge). in_pair b (x.lo, x.hi)) (each_below edge 256) ≡ None = ap (find (λ (x : Edge). in_pair b (x.lo, x.hi))) d in
        cc
    go (x ∷ m) d = (x, m, d)
