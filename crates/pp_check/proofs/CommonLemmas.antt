-- How far a key and a string go together.
use Rattle.std.proofs.Common.{subst, ◌≡◌, ℕ, zero, suc, ◌≤◌, ◌<◌, ◌⊎◌, List, [], ◌∷◌, Option, Some, None, Bool, true, false, cond, refl, sym, ap, arith, length, max, take, get_or, inl, inr, ◌&&◌, ◌||◌}
use Rattle.std.specs.Prelude.{slice_get, nat_lt, ◌==◌}
use Rattle.std.specs.List.{Any}
use Rattle.std.proofs.lemmas.Bool.{eq-eqb, eqb-true, eqb-false, ne_eqb, false≢true, lt-ltb, ltb-true, ltb-false}
use Rattle.pp_graph.specs.declared.node.Key.{Key}
use Rattle.pp_mean.specs.Nodes.{common, reach, fits, longer, best, goes_on}
use Rattle.pp_flow.proofs.ListLemmas.{any-first, any-later}

pub common-short : (l w : List ℕ) → common l w ≤ length l
common-short [] w = omega arith
common-short (x ∷ l) [] = omega arith
common-short (x ∷ l) (b ∷ w) = by (x == b) (common-short l w)
  where
    by : {n m : ℕ} (t : Bool) → n ≤ m → cond t (suc n) 0 ≤ suc m
    by true h = omega (arith, h)
    by false h = omega arith

pub common-within : (l w : List ℕ) → common l w ≤ length w
common-within [] w = omega arith
common-within (x ∷ l) [] = omega arith
common-within (x ∷ l) (b ∷ w) = by (x == b) (common-within l w)
  where
    by : {n m : ℕ} (t : Bool) → n ≤ m → cond t (suc n) 0 ≤ suc m
    by true h = omega (arith, h)
    by false h = omega arith

-- so far they are the same
pub common-same : (l w : List ℕ) (n : ℕ) → n ≤ common l w → take n l ≡ take n w
common-same l w zero h = refl
common-same [] w (suc n) h = absurd (omega (arith, h))
common-same (x ∷ l) [] (suc n) h = absurd (omega (arith, h))
common-same (x ∷ l) (b ∷ w) (suc n) h = by (λ g. common-same l w n g) (x == b) refl h
  where
    by : (n ≤ common l w → take n l ≡ take n w) → (t : Bool) → (x == b) ≡ t → suc n ≤ cond t (suc (common l w)) 0 → x ∷ take n l ≡ b ∷ take n w
    by go true e h =
        let first : x ≡ b = eqb-true x b e in
        let rest : take n l ≡ take n w = go (omega (arith, h)) in
        cc
    by go false e h = absurd (omega (arith, h))

cons-first : (x b : ℕ) (l w : List ℕ) → x ∷ l ≡ b ∷ w → x ≡ b
cons-first x b l w e = ap (λ xs. get_or xs 0 0) e

cons-rest : (x b : ℕ) (l w : List ℕ) → x ∷ l ≡ b ∷ w → l ≡ w
cons-rest x b l w e = cc

-- and they go together at least as far as they are the same
pub common-most : (l w : List ℕ) (n : ℕ) → n ≤ length l → n ≤ length w → take n l ≡ take n w → n ≤ common l w
common-most l w zero h g e = omega arith
common-most [] w (suc n) h g e = absurd (omega (arith, h))
common-most (x ∷ l) [] (suc n) h g e = absurd (omega (arith, g))
common-most (x ∷ l) (b ∷ w) (suc n) h g e =
    let first : (x == b) ≡ true = eq-eqb x b (cons-first x b (take n l) (take n w) e) in
    let rest : n ≤ common l w = common-most l w n (omega (arith, h)) (omega (arith, g)) (cons-rest x b (take n l) (take n w) e) in
    subst (λ (t : Bool). suc n ≤ cond t (suc (common l w)) 0) (sym first) (omega (arith, rest))

-- a key at a place
pub reach-most : (keys : List Key) (w : List ℕ) (i : ℕ) (k : Key) → slice_get keys i ≡ Some k → common k.bytes w ≤ reach keys w
reach-most [] w i k e = absurd cc
reach-most (l ∷ keys) w zero k e =
    let same : l ≡ k = cc in
    subst (λ (m : Key). common m.bytes w ≤ max (common l.bytes w) (reach keys w)) same (omega arith)
reach-most (l ∷ keys) w (suc i) k e =
    let rest : common k.bytes w ≤ reach keys w = reach-most keys w i k e in
    omega (arith, rest)

pub reach-met : (keys : List Key) (w : List ℕ) (n : ℕ) → reach keys w ≡ suc n → Any (λ (k : Key). common k.bytes w ≡ suc n) keys
reach-met [] w n e = absurd (omega (arith, e))
reach-met (l ∷ keys) w n e = elim (one (common l.bytes w) (reach keys w) n e) [
  | inl here ↦ any-first (λ (k : Key). common k.bytes w ≡ suc n) l keys here
  | inr rest ↦ any-later (λ (k : Key). common k.bytes w ≡ suc n) l keys (reach-met keys w n rest)
]
  where
    one : (a b n : ℕ) → max a b ≡ suc n → (a ≡ suc n) ⊎ (b ≡ suc n)
    one a b n e = grind arith

pub reach-is : (keys : List Key) (w : List ℕ) (n : ℕ) → ((i : ℕ) (k : Key) → slice_get keys i ≡ Some k → common k.bytes w ≤ n) → reach keys w ≤ n
reach-is [] w n h = omega arith
reach-is (l ∷ keys) w n h =
    let first : common l.bytes w ≤ n = h 0 l refl in
    let rest : reach keys w ≤ n = reach-is keys w n (λ i k e. h (suc i) k e) in
    omega (arith, first, rest)

some-not-none : (m : Key) → Some m ≡ None → ⊥
some-not-none m e = cc

none-rest : (m : Key) (o : Option Key) (t : Bool) → cond t (Some m) o ≡ None → o ≡ None
none-rest m o true e = absurd (some-not-none m e)
none-rest m o false e = e

-- where no key fits, none is best
pub best-none : (keys : List Key) (w : List ℕ) → best keys w ≡ None → (i : ℕ) (k : Key) → slice_get keys i ≡ Some k → common k.bytes w ≡ length k.bytes → ⊥
best-none [] w e i k listed f = absurd cc
best-none (l ∷ keys) w e zero k listed f =
    let same : l ≡ k = cc in
    let test : fits w l ≡ true = eq-eqb _ _ (subst (λ (m : Key). common m.bytes w ≡ length m.bytes) (sym same) f) in
    some-not-none (longer l (best keys w)) (subst (λ (t : Bool). cond t (Some (longer l (best keys w))) (best keys w) ≡ None) test e)
best-none (l ∷ keys) w e (suc i) k listed f = best-none keys w (none-rest (longer l (best keys w)) (best keys w) (fits w l) e) i k listed f

pub best-is-none : (keys : List Key) (w : List ℕ) → ((i : ℕ) (k : Key) → slice_get keys i ≡ Some k → common k.bytes w ≡ length k.bytes → ⊥) → best keys w ≡ None
best-is-none [] w h = refl
best-is-none (l ∷ keys) w h =
    let first : fits w l ≡ false = ne_eqb _ _ (λ e. h 0 l refl e) in
    let rest : best keys w ≡ None = best-is-none keys w (λ i k e. h (suc i) k e) in
    subst (λ (t : Bool). cond t (Some (longer l (best keys w))) (best keys w) ≡ None) (sym first) rest

-- a key of the list that fits, and is at least as long as each that does
pub record IsBest (keys : List Key) (w : List ℕ) (k : Key) : Type 0 where
  pub place : ℕ
  pub listed : slice_get keys place ≡ Some k
  pub fit : common k.bytes w ≡ length k.bytes
  pub longest : (i : ℕ) (l : Key) → slice_get keys i ≡ Some l → common l.bytes w ≡ length l.bytes → length l.bytes ≤ length k.bytes

abbrev BestIf : List Key → List ℕ → Option Key → Type 0
BestIf keys w None = (i : ℕ) (l : Key) → slice_get keys i ≡ Some l → common l.bytes w ≡ length l.bytes → ⊥
BestIf keys w (Some k) = IsBest keys w k

best-later : (l : Key) (keys : List Key) (w : List ℕ) → (common l.bytes w ≡ length l.bytes → ⊥) → (o : Option Key) → BestIf keys w o → BestIf (l ∷ keys) w o
best-later l keys w misses None h = by
  where
    by : (i : ℕ) (k : Key) → slice_get (l ∷ keys) i ≡ Some k → common k.bytes w ≡ length k.bytes → ⊥
    by zero k e f = misses (subst (λ (m : Key). common m.bytes w ≡ length m.bytes) (let same : k ≡ l = cc in same) f)
    by (suc i) k e f = h i k e f
best-later l keys w misses (Some k) h = record {
  place = suc h.place;
  listed = h.listed;
  fit = h.fit;
  longest = long;
}
  where
    long : (i : ℕ) (m : Key) → slice_get (l ∷ keys) i ≡ Some m → common m.bytes w ≡ length m.bytes → length m.bytes ≤ length k.bytes
    long zero m e f = absurd (misses (subst (λ (x : Key). common x.bytes w ≡ length x.bytes) (let same : m ≡ l = cc in same) f))
    long (suc i) m e f = h.longest i m e f

best-first : (l : Key) (keys : List Key) (w : List ℕ) → common l.bytes w ≡ length l.bytes → (o : Option Key) → BestIf keys w o → IsBest (l ∷ keys) w (longer l o)
best-first l keys w fit None h = record { place = 0; listed = refl; fit = fit; longest = long }
  where
    long : (i : ℕ) (m : Key) → slice_get (l ∷ keys) i ≡ Some m → common m.bytes w ≡ length m.bytes → length m.bytes ≤ length l.bytes
    long zero m e f = (let same : m ≡ l = cc in subst (λ (x : Key). length m.bytes ≤ length x.bytes) same (omega arith))
    long (suc i) m e f = absurd (h i m e f)
best-first l keys w fit (Some k) h = by (nat_lt (length l.bytes) (length k.bytes)) refl
  where
    by : (t : Bool) → nat_lt (length l.bytes) (length k.bytes) ≡ t → IsBest (l ∷ keys) w (cond t k l)
    by true e = record { place = suc h.place; listed = h.listed; fit = h.fit; longest = long }
      where
        long : (i : ℕ) (m : Key) → slice_get (l ∷ keys) i ≡ Some m → common m.bytes w ≡ length m.bytes → length m.bytes ≤ length k.bytes
        long zero m at f = (let same : m ≡ l = cc in subst (λ (x : Key). length x.bytes ≤ length k.bytes) (sym same) (omega (arith, ltb-true (length l.bytes) (length k.bytes) e)))
        long (suc i) m at f = h.longest i m at f
    by false e = record { place = 0; listed = refl; fit = fit; longest = long }
      where
        long : (i : ℕ) (m : Key) → slice_get (l ∷ keys) i ≡ Some m → common m.bytes w ≡ length m.bytes → length m.bytes ≤ length l.bytes
        long zero m at f = (let same : m ≡ l = cc in subst (λ (x : Key). length m.bytes ≤ length x.bytes) same (omega arith))
        long (suc i) m at f = omega (arith, h.longest i m at f, ltb-false (length l.bytes) (length k.bytes) e)

pub best-if : (keys : List Key) (w : List ℕ) → BestIf keys w (best keys w)
best-if [] w = λ i l e f. absurd cc
best-if (l ∷ keys) w = by (best-if keys w) (fits w l) refl
  where
    by : BestIf keys w (best keys w) → (t : Bool) → fits w l ≡ t → BestIf (l ∷ keys) w (cond t (Some (longer l (best keys w))) (best keys w))
    by rest true e = best-first l keys w (eqb-true _ _ e) (best keys w) rest
    by rest false e = best-later l keys w (eqb-false _ _ e) (best keys w) rest

pub best-some : (keys : List Key) (w : List ℕ) (k : Key) → best keys w ≡ Some k → IsBest keys w k
best-some keys w k e = subst (BestIf keys w) e (best-if keys w)

-- a key that goes on behind the whole string
abbrev pub GoesPast : List ℕ → Key → Type 0
GoesPast w k = (common k.bytes w ≡ length w) × (length w < length k.bytes)

past-passes : (w : List ℕ) (m : Key) → GoesPast w m → ((common m.bytes w == length w) && nat_lt (length w) (length m.bytes)) ≡ true
past-passes w m h = rw (eq-eqb _ _ h.0, lt-ltb _ _ h.1) refl

or-first : (t u : Bool) → (t || u) ≡ false → t ≡ true → ⊥
or-first true u e f = false≢true (sym e)
or-first false u e f = false≢true f

pub or-rest : (t u : Bool) → (t || u) ≡ false → u ≡ false
or-rest true u e = absurd (false≢true (sym e))
or-rest false u e = e

pub or-none : (t u : Bool) → t ≡ false → u ≡ false → (t || u) ≡ false
or-none t u e f = rw (e, f) refl

pub goes-past : (keys : List Key) (w : List ℕ) → goes_on keys w ≡ false → (i : ℕ) (k : Key) → slice_get keys i ≡ Some k → GoesPast w k → ⊥
goes-past [] w e i k listed h = absurd cc
goes-past (l ∷ keys) w e zero k listed h =
    let same : k ≡ l = cc in
    or-first _ _ e (past-passes w l (subst (GoesPast w) same h))
goes-past (l ∷ keys) w e (suc i) k listed h = goes-past keys w (or-rest _ _ e) i k listed h

pub past-none : (keys : List Key) (w : List ℕ) → ((i : ℕ) (k : Key) → slice_get keys i ≡ Some k → GoesPast w k → ⊥) → goes_on keys w ≡ false
past-none [] w h = refl
past-none (l ∷ keys) w h = or-none _ _ (fails (common l.bytes w == length w) (nat_lt (length w) (length l.bytes)) refl refl) (past-none keys w (λ i k e. h (suc i) k e))
  where
    fails : (t u : Bool) → (common l.bytes w == length w) ≡ t → nat_lt (length w) (length l.bytes) ≡ u → (t && u) ≡ false
    fails true true e f = absurd (h 0 l refl (eqb-true _ _ e, ltb-true _ _ f))
    fails true false e f = refl
    fails false u e f = refl
