-- Tests that hold of both parts, of each element, and of what they are made of.
use Rattle.std.proofs.Common.{◌≡◌, refl, subst, ℕ, zero, suc, ◌<◌, List, [], ◌∷◌, ◌++◌, Bool, true, false, ◌&&◌, map, slice_index_or, arith, length}
use Rattle.std.specs.List.{list_all}

-- both parts hold
pub and_left : (a b : Bool) → (a && b) ≡ true → a ≡ true
and_left true b e = refl
and_left false b e = e

pub and_right : (a b : Bool) → (a && b) ≡ true → b ≡ true
and_right true b e = e
and_right false b e = absurd (grind (arith, e))

-- the test holds of each element of both lists
pub all_append : (f : ℕ → Bool) (xs ys : List ℕ) → list_all f (xs ++ ys) ≡ true → (list_all f xs ≡ true) × (list_all f ys ≡ true)
all_append f [] ys e = (refl, e)
all_append f (x ∷ xs) ys e =
    let rest : (list_all f xs ≡ true) × (list_all f ys ≡ true) = all_append f xs ys (and_right (f x) (list_all f (xs ++ ys)) e) in
    (both (f x) (list_all f xs) (and_left (f x) (list_all f (xs ++ ys)) e) rest.0, rest.1)
  where
    both : (a b : Bool) → a ≡ true → b ≡ true → (a && b) ≡ true
    both true b p q = q
    both false b p q = p

-- a test that holds of each element made holds of that of a place
pub all_any : {X : Type 0} (f : ℕ → Bool) (h : X → ℕ) (xs : List X) (t k : ℕ) (x : X) → list_all f (map h xs) ≡ true → k < length xs → slice_index_or xs k x ≡ x → h x ≡ t → f t ≡ true
all_any f h [] t k x e l i p = absurd (omega (arith, l))
all_any f h (y ∷ xs) t zero x e l i p = subst (λ n. f n ≡ true) p (subst (λ z. f (h z) ≡ true) i (and_left (f (h y)) (list_all f (map h xs)) e))
all_any f h (y ∷ xs) t (suc k) x e l i p = all_any f h xs t k x (and_right (f (h y)) (list_all f (map h xs)) e) (omega (arith, l)) i p
