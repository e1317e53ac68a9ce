-- The prefixes of texts are their fronts.
use Rattle.std.proofs.Common.{◌≡◌, ℕ, zero, suc, List, [], ◌∷◌, ◌++◌, refl, sym, ◌∙◌, ap, arith, take, drop, inl, inr}
use Rattle.std.specs.Prelude.{◌⊎◌}
use Rattle.pp_lower.specs.Tree.{prefixes}
use Rattle.pp_lower.specs.steps.Order.{Has}
use Rattle.pp_lower.proofs.TreeLaws.{IsFront, front_only, front_there, front_take}

parts : (n : ℕ) (t : List ℕ) → t ≡ take n t ++ drop n t
parts zero t = refl
parts (suc n) [] = refl
parts (suc n) (x ∷ t) = ap (λ (z : List ℕ). x ∷ z) (parts n t)

pub prefix_only : (texts : List (List ℕ)) (p : List ℕ) → Has (prefixes texts) p → (p ≡ []) ⊎ ((text more : List ℕ) × Has texts text × (text ≡ p ++ more))
prefix_only texts p (inl e) = inl (sym e)
prefix_only texts p (inr h) =
    let front : IsFront 0 texts p = front_only 0 texts p h in
    inr (front.text, drop (suc front.front.at) front.text, front.has, parts (suc front.front.at) front.text ∙ ap (λ (z : List ℕ). z ++ drop (suc front.front.at) front.text) (sym front.front.is))

pub prefix_there : (texts : List (List ℕ)) (text p more : List ℕ) → Has texts text → text ≡ p ++ more → Has (prefixes texts) p
prefix_there texts text [] more h e = inl refl
prefix_there texts text (x ∷ p) more h e = inr (front_there 0 texts (x ∷ p) (record { text = text; has = h; front = front_take 0 text p more x e (omega arith) }))
