-- Lists with one element more behind them.
use Rattle.std.proofs.Common.{◌≡◌, ℕ, Bool, true, List, [], ◌∷◌, ◌++◌, refl, ap, ◌∙◌, IsTrue, append_assoc, flat_map}
use Rattle.std.proofs.lemmas.Bool.{and_from}
use Rattle.std.proofs.lemmas.List.{append-nil}
use Rattle.std.proofs.lemmas.List.Concat.{flat_map-append}
use Rattle.std.proofs.lemmas.List.Folds.{list_all-append}
use Rattle.std.specs.List.{list_all}

-- a list of texts with one more behind it
pub flat_map-push : {X : Type 0} (f : X → List ℕ) (xs : List X) (x : X) (rest : List ℕ) → flat_map f (xs ++ x ∷ []) ++ rest ≡ flat_map f xs ++ (f x ++ rest)
flat_map-push f xs x rest =
    ap (λ (z : List ℕ). z ++ rest) (flat_map-append f xs (x ∷ []) ∙ ap (λ (z : List ℕ). flat_map f xs ++ z) (append-nil (f x)))
    ∙ append_assoc (flat_map f xs) (f x) rest

-- and all of them pass a test where it does
pub list_all-push : {X : Type 0} (p : X → Bool) (xs : List X) (x : X) → IsTrue (list_all p xs) → IsTrue (p x) → IsTrue (list_all p (xs ++ x ∷ []))
list_all-push p xs x all one = list_all-append p xs (x ∷ []) ∙ and_from _ _ all (and_from (p x) true one refl)
