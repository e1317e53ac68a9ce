-- Lists cut at a place.
use Rattle.std.proofs.Common.{◌≡◌, ℕ, zero, suc, ◌<◌, List, [], ◌∷◌, ◌++◌, refl, sym, ◌∙◌, ap, arith, length, get_or, take, drop, Some}
use Rattle.std.specs.Prelude.{slice_get}

pub drop_at : {A : Type 0} (l : List A) (i : ℕ) (x : A) → i < length l → x ≡ get_or l i x → drop i l ≡ x ∷ drop (suc i) l
drop_at [] i x h e = absurd (omega arith)
drop_at (y ∷ l) zero x h e = ap (λ (z : _). z ∷ l) (sym e)
drop_at (y ∷ l) (suc i) x h e = drop_at l i x (omega arith) e

pub take_at : {A : Type 0} (l : List A) (i : ℕ) (x : A) (m : List A) → i < length l → x ≡ get_or l i x → take (suc i) l ++ m ≡ take i l ++ x ∷ m
take_at [] i x m h e = absurd (omega arith)
take_at (y ∷ l) zero x m h e = ap (λ (z : _). z ∷ m) (sym e)
take_at (y ∷ l) (suc i) x m h e = ap (λ (z : List _). y ∷ z) (take_at l i x m (omega arith) e)

pub take_drop : {A : Type 0} (l : List A) (i : ℕ) → take i l ++ drop i l ≡ l
take_drop [] zero = refl
take_drop [] (suc i) = refl
take_drop (x ∷ l) zero = refl
take_drop (x ∷ l) (suc i) = ap (λ (z : List _). x ∷ z) (take_drop l i)

pub drop_all : {A : Type 0} (l : List A) → drop (length l) l ≡ []
drop_all [] = refl
drop_all (x ∷ l) = drop_all l

take_more : {A : Type 0} (l : List A) (i : ℕ) (x : A) → slice_get l i ≡ Some x → take i l ++ x ∷ [] ≡ take (suc i) l
take_more [] i x e = cc
take_more (y ∷ l) zero x e = let same : y ≡ x = cc in ap (λ (z : _). z ∷ []) (sym same)
take_more (y ∷ l) (suc i) x e = ap (λ (z : List _). y ∷ z) (take_more l i x e)

-- one element more
pub take_next : {A : Type 0} (l : List A) (i j : ℕ) (x : A) → slice_get l i ≡ Some x → j ≡ suc i → take i l ++ x ∷ [] ≡ take j l
take_next l i j x e u = take_more l i x e ∙ ap (λ (k : ℕ). take k l) (sym u)

-- what stands at a place of the list
pub there : {A : Type 0} (l : List A) (i : ℕ) (d : A) → i < length l → slice_get l i ≡ Some (get_or l i d)
there [] i d h = absurd (omega arith)
there (x ∷ l) zero d h = refl
there (x ∷ l) (suc i) d h = there l i d (omega arith)

-- what is read inside doesn't depend on the default
pub get_same : {A : Type 0} (l : List A) (i : ℕ) (d e : A) → i < length l → get_or l i d ≡ get_or l i e
get_same [] i d e h = absurd (omega arith)
get_same (x ∷ l) zero d e h = refl
get_same (x ∷ l) (suc i) d e h = get_same l i d e (omega arith)
