-- Lists in which no element stands twice.
use Rattle.std.proofs.Common.{◌⊎◌, inl, inr, ◌≡◌, ℕ, zero, suc, ◌≤◌, ◌<◌, List, [], ◌∷◌, ◌++◌, Bool, true, false, refl, sym, subst, ◌∙◌, ap, arith, length, get_or, eqb, ◌&&◌, ◌||◌}
use Rattle.std.specs.List.{Contains, IsDistinct, AllByRecursion, list_any}
use Rattle.std.specs.Cmp.{IsEquivalence}
use Rattle.std.proofs.lemmas.Bool.{eqb-true, eq-eqb}
use Rattle.std.proofs.lemmas.List.Elements.{Contains-append_right, Contains-append_cases}
use Rattle.std.proofs.lemmas.Map.Made.{length-le_from_is_member}
use Rattle.pp_event.specs.Loops.{NoneTwice}

-- an element is the first, or one behind it
pub Contains_head : {X : Type 0} (x : X) (xs : List X) (y : X) → Contains (x ∷ xs) y → (x ≡ y) ⊎ Contains xs y
Contains_head x xs y c = at c.0 c.1 c.2
  where
    at : (k : ℕ) → k < length (x ∷ xs) → get_or (x ∷ xs) k y ≡ y → (x ≡ y) ⊎ Contains xs y
    at zero h e = inl e
    at (suc k) h e = inr (k, omega arith, e)

-- the empty list has none
pub Contains_nothing : {X : Type 0} (y : X) → Contains [] y → ⊥
Contains_nothing y c = at c.0 c.1
  where
    at : (k : ℕ) → k < 0 → ⊥
    at k h = absurd (omega arith)

-- a list of one has this one
pub Contains_one : {X : Type 0} (x y : X) → Contains (x ∷ []) y → x ≡ y
Contains_one x y c = elim (Contains_head x [] y c) [ inl e ↦ e | inr b ↦ absurd (Contains_nothing y b) ]

-- the first is an element
pub Contains_here : {X : Type 0} (x : X) (xs : List X) → Contains (x ∷ xs) x
Contains_here x xs = (0, omega arith, refl)

-- so is one behind it
pub Contains_behind : {X : Type 0} (x : X) (xs : List X) (y : X) → Contains xs y → Contains (x ∷ xs) y
Contains_behind x xs y c = (suc c.0, (let h : c.0 < length xs = c.1 in omega arith), c.2)

-- one element more, which is new
pub NoneTwice_more : {X : Type 0} (xs : List X) (x : X) → NoneTwice xs → (Contains xs x → ⊥) → NoneTwice (xs ++ x ∷ [])
NoneTwice_more [] x h fresh = (Contains_nothing x, tt)
NoneTwice_more (y ∷ xs) x h fresh = (
  (λ c. elim (Contains-append_cases xs (x ∷ []) y c) [
    | inl a ↦ h.0 a
    | inr b ↦ fresh (subst (λ (z : _). Contains (y ∷ xs) z) (sym (Contains_one x y b)) (Contains_here y xs))
  ]),
  NoneTwice_more xs x h.1 (λ c. fresh (Contains_behind y xs x c)),
)

-- an element doesn't stand before itself
pub NoneTwice_split : {X : Type 0} (xs : List X) (x : X) (ys : List X) → NoneTwice (xs ++ x ∷ ys) → Contains xs x → ⊥
NoneTwice_split [] x ys h c = Contains_nothing x c
NoneTwice_split (y ∷ xs) x ys h c = elim (Contains_head y xs x c) [
  | inl e ↦ h.0 (subst (Contains (xs ++ x ∷ ys)) (sym e) (Contains-append_right xs (x ∷ ys) x (Contains_here x ys)))
  | inr b ↦ NoneTwice_split xs x ys h.1 b
]

-- equal pairs of numbers
abbrev pub same_pair : ℕ × ℕ → ℕ × ℕ → Bool
same_pair p q = eqb p.0 q.0 && eqb p.1 q.1

-- a pair is an element
abbrev pub has_pair : List (ℕ × ℕ) → ℕ × ℕ → Bool
has_pair xs q = list_any (same_pair q) xs

-- both parts of a test
and_parts : (a b : Bool) → a && b ≡ true → (a ≡ true) × (b ≡ true)
and_parts true true e = (refl, refl)
and_parts true false e = cc
and_parts false b e = cc

-- the test decides
same_pair-true : (p q : ℕ × ℕ) → same_pair p q ≡ true → p ≡ q
same_pair-true p q e =
    let both = and_parts (eqb p.0 q.0) (eqb p.1 q.1) e in
    ap (λ (n : ℕ). let x : ℕ × ℕ = (n, p.1) in x) (eqb-true p.0 q.0 both.0) ∙ ap (λ (n : ℕ). let x : ℕ × ℕ = (q.0, n) in x) (eqb-true p.1 q.1 both.1)

-- each pair is equal to itself
same_pair-refl : (p : ℕ × ℕ) → same_pair p p ≡ true
same_pair-refl p = rw (eq-eqb p.0 p.0 refl, eq-eqb p.1 p.1 refl) refl

-- two tests that pass together are the same
true_ways : (a b : Bool) → (a ≡ true → b ≡ true) → (b ≡ true → a ≡ true) → a ≡ b
true_ways true b h k = sym (h refl)
true_ways false true h k = k refl
true_ways false false h k = refl

-- what a set of pairs needs
pairs_equiv : IsEquivalence same_pair
pairs_equiv = record {
  refl = same_pair-refl;
  symm = λ p q. true_ways (same_pair p q) (same_pair q p)
      (λ e. subst (λ (x : ℕ × ℕ). same_pair x p ≡ true) (same_pair-true p q e) (same_pair-refl p))
      (λ e. subst (λ (x : ℕ × ℕ). same_pair x q ≡ true) (same_pair-true q p e) (same_pair-refl q));
  congr = λ p q r e. ap (λ (x : ℕ × ℕ). same_pair x r) (same_pair-true p q e);
}

-- what the test finds is an element
pub has_pair-contains : (xs : List (ℕ × ℕ)) (q : ℕ × ℕ) → has_pair xs q ≡ true → Contains xs q
has_pair-contains [] q e = cc
has_pair-contains (x ∷ xs) q e = go (λ h. has_pair-contains xs q h) (same_pair q x) refl e
  where
    go : (has_pair xs q ≡ true → Contains xs q) → (b : Bool) → same_pair q x ≡ b → b || has_pair xs q ≡ true → Contains (x ∷ xs) q
    go rest true t e = subst (λ (y : ℕ × ℕ). Contains (y ∷ xs) q) (same_pair-true q x t) (Contains_here q xs)
    go rest false t e = Contains_behind x xs q (rest e)

-- one of two
or_right : (a b : Bool) → b ≡ true → a || b ≡ true
or_right true b e = refl
or_right false b e = e

-- and each element is found
pub contains-has_pair : (xs : List (ℕ × ℕ)) (q : ℕ × ℕ) → Contains xs q → has_pair xs q ≡ true
contains-has_pair [] q c = absurd (Contains_nothing q c)
contains-has_pair (x ∷ xs) q c = elim (Contains_head x xs q c) [
  | inl e ↦ subst (λ (y : ℕ × ℕ). same_pair q y || has_pair xs q ≡ true) (sym e) (ap (λ (b : Bool). b || has_pair xs q) (same_pair-refl q))
  | inr b ↦ or_right (same_pair q x) (has_pair xs q) (contains-has_pair xs q b)
]

-- what is no element differs from each
apart : (xs : List (ℕ × ℕ)) (x : ℕ × ℕ) → (Contains xs x → ⊥) → AllByRecursion (λ y. same_pair x y ≡ false) xs
apart [] x h = tt
apart (y ∷ xs) x h = (go (same_pair x y) refl, apart xs x (λ c. h (Contains_behind y xs x c)))
  where
    go : (b : Bool) → same_pair x y ≡ b → same_pair x y ≡ false
    go true e = absurd (h (subst (λ (z : ℕ × ℕ). Contains (z ∷ xs) x) (same_pair-true x y e) (Contains_here x xs)))
    go false e = e

-- pairs of which none stands twice, in std's word
distinct_pairs : (xs : List (ℕ × ℕ)) → NoneTwice xs → IsDistinct same_pair xs
unfolding IsDistinct
distinct_pairs [] h = tt
distinct_pairs (x ∷ xs) h = (apart xs x h.0, distinct_pairs xs h.1)

-- pairs of which none stands twice, and which another list has as well, are no more than that has
pub no_more_pairs : (xs ys : List (ℕ × ℕ)) → NoneTwice xs → ((q : ℕ × ℕ) → Contains xs q → Contains ys q) → length xs ≤ length ys
no_more_pairs xs ys h inside =
    length-le_from_is_member pairs_equiv xs ys (distinct_pairs xs h) (λ q e. contains-has_pair ys q (inside q (has_pair-contains xs q e)))
