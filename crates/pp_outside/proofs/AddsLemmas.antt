-- Writes, one after the other.
use Rattle.std.proofs.Common.{◌≡◌, ℕ, List, ◌++◌, None, Some, refl, ap, ◌∙◌, append_assoc}
use Rattle.std.specs.declared.option.Option.{Option}
use Rattle.pp_outside.specs.Sink.{with_added, Adds}

-- one part and then another are the two joined
pub with_added-with_added : (a : Option (List ℕ)) (xs ys : List ℕ) → with_added (with_added a xs) ys ≡ with_added a (xs ++ ys)
with_added-with_added None xs ys = refl
with_added-with_added (Some bytes) xs ys = ap Some (append_assoc bytes xs ys)

-- a write and then another are a write of the two parts joined
pub Adds-then : (a b c : Option (List ℕ)) (xs ys : List ℕ) → Adds a b xs → Adds b c ys → Adds a c (xs ++ ys)
Adds-then a b c xs ys first second = second ∙ ap (λ (o : Option (List ℕ)). with_added o ys) first ∙ with_added-with_added a xs ys
