-- The front is the first bytes, and the others are left.
use Rattle.std.proofs.Common.{◌≡◌, ℕ, suc, ◌≤◌, ◌<◌, ◌⊎◌, inl, inr, List, ◌++◌, Some, length, take, drop, Option, refl, sym, ◌∙◌, ap, subst, arith}
use Rattle.std.specs.Prelude.{Result, Ok, Err, IfOk, OnOk, Vec}
use Rattle.std.specs.declared.alloc.Global.{Global}
use Rattle.std.proofs.Math.ListN.{drop_of_length-le}
use Rattle.std.proofs.lemmas.Bool.{cases_lt}
use Rattle.std.proofs.lemmas.List.{take-append-drop, length-take-le}
use Rattle.pp_text.specs.Text.{limit}
use Rattle.pp_tool.specs.declared.stop.Stop.{Stop}
use Rattle.pp_tool.specs.steps.Reading.{IsFront}
use Rattle.pp_tool.proofs.FrontLemmas.{Follows}
use Rattle.pp_tool.proofs.input.take_front.Goals as goal

follows-by : (room : ℕ) (bytes : List ℕ) → (room < length bytes) ⊎ (length bytes ≤ room) → Follows room (take (suc room) bytes) (drop (suc room) bytes)
follows-by room bytes (inl h) = inr (omega (arith, length-take-le (suc room) bytes (omega arith)))
follows-by room bytes (inr h) = inl (drop_of_length-le bytes {i = suc room} (omega arith))

front-of : (room : ℕ) (bytes : List ℕ) (result : Result (Vec ℕ Global) Stop) (left : Option (List ℕ)) → room ≡ limit →
    IfOk result (λ v. v.items ≡ take (suc room) bytes) → OnOk result (left ≡ Some (drop (suc room) bytes)) → IfOk result (λ v. IsFront bytes v.items left)
front-of room bytes (Ok v) left r taken rest = record {
  more = drop (suc room) bytes;
  is = sym (take-append-drop (suc room) bytes) ∙ ap (λ x. x ++ drop (suc room) bytes) (sym taken);
  left_is = rest;
  follows = subst (λ x. Follows x v.items (drop (suc room) bytes)) r (subst (λ x. Follows room x (drop (suc room) bytes)) (sym taken) (follows-by room bytes (cases_lt room (length bytes))));
}
front-of room bytes (Err e) left r taken rest = tt

-- one byte more than a text may have
front_is : (n : ℕ) (bytes : List ℕ) (result : Result (Vec ℕ Global) Stop) (left : Option (List ℕ)) → suc limit ≡ n →
    IfOk result (λ v. v.items ≡ take n bytes) → OnOk result (left ≡ Some (drop n bytes)) → IfOk result (λ v. IsFront bytes v.items left)
front_is n bytes result left e taken rest =
    front-of limit bytes result left refl (subst (λ m. IfOk result (λ v. v.items ≡ take m bytes)) (sym e) taken) (subst (λ m. OnOk result (left ≡ Some (drop m bytes))) (sym e) rest)

pub returns-clause-front : goal.returns-clause-front
returns-clause-front g c bytes told =
    front_is _ bytes _ _ refl (c.take_some.ensures.taken bytes told) (c.take_some.ensures.left bytes told)
