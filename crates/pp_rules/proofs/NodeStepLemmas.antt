-- The walk over the nodes of a graph, and the first call of which a fact holds.
use Rattle.std.proofs.Common.{◌≡◌, ℕ, ◌+◌, ◌<◌, ◌≤◌, inl, inr, suc, List, [], ◌∷◌, ◌++◌, true, Option, get_or, take, drop, length, refl, ap, sym, ◌∙◌, subst, arith}
use Rattle.std.proofs.lemmas.Bool.{cases_lt}
use Rattle.std.proofs.lemmas.List.{take_more, take-append-drop, length-take-le, drop_all}
use Rattle.std.proofs.Math.Seq.{drop-cons}
use Rattle.pp_rules.specs.declared.call.BuilderCall.{BuilderCall}
use Rattle.pp_rules.specs.Calls.{is_node, own_calls, since_node}
use Rattle.pp_rules.specs.steps.Least.{IsLeast, IsFrom, lesser}
use Rattle.pp_rules.specs.steps.ByNode.{HoldsBelow, HoldsBetween, end_of_node}
use Rattle.pp_rules.proofs.LeastLemmas.{IsLeast-same, IsLeast-lesser}
use Rattle.pp_rules.proofs.NodeLemmas.{IsByNode, least-node, since-node, own-node}

drop-here : (calls : List BuilderCall) (i : ℕ) (c : BuilderCall) → i < length calls → c ≡ get_or calls i c → drop i calls ≡ c ∷ drop (i + 1) calls
drop-here calls i c h e =
    let s : suc i ≡ i + 1 = omega arith in
    drop-cons calls i c h ∙ ap (λ x. x ∷ drop (suc i) calls) (sym e) ∙ ap (λ n. c ∷ drop n calls) s

-- a node ends the calls of the one before it
pub end-node : (calls : List BuilderCall) (i : ℕ) (c : BuilderCall) → i < length calls → c ≡ get_or calls i c → is_node c ≡ true → end_of_node calls i ≡ i
end-node calls i c h e n =
    let size : length (own_calls (drop i calls)) ≡ 0 = ap (λ x. length (own_calls x)) (drop-here calls i c h e) ∙ ap length (own-node c (drop (i + 1) calls) n) in
    omega arith

module _ (Among Own : List BuilderCall → ℕ → Type 0) (by : IsByNode Among Own) where
  -- the calls that belong to the node that this one adds
  pub behind-node : (calls : List BuilderCall) (i : ℕ) (c : BuilderCall) (found : Option ℕ) → i < length calls → c ≡ get_or calls i c → is_node c ≡ true → IsLeast (IsFrom (Own (own_calls (drop (i + 1) calls))) (i + 1)) found → IsLeast (HoldsBetween Among calls (end_of_node calls i) (end_of_node calls (i + 1))) found
  behind-node calls i c found h e n s =
      let before = take (i + 1) calls in
      let rest = drop (i + 1) calls in
      let size : length before ≡ i + 1 = length-take-le (i + 1) calls (omega arith) in
      let last : before ≡ take i calls ++ c ∷ [] = take_more calls i c h ∙ ap (λ x. take i calls ++ x ∷ []) (sym e) in
      let anew : since_node before ≡ [] = ap since_node last ∙ since-node (take i calls) c n in
      let within = least-node Among Own by before rest found anew (subst (λ k. IsLeast (IsFrom (Own (own_calls rest)) k) found) (sym size) s) in
      let whole = subst (λ x. IsLeast (HoldsBetween Among x (length before) (length before + length (own_calls rest))) found) (take-append-drop (i + 1) calls) within in
      let here : IsLeast (HoldsBetween Among calls (i + 1) (end_of_node calls (i + 1))) found = subst (λ k. IsLeast (HoldsBetween Among calls k (k + length (own_calls rest))) found) size whole in
      let start = end-node calls i c h e n in
      IsLeast-same (HoldsBetween Among calls (i + 1) (end_of_node calls (i + 1))) (HoldsBetween Among calls (end_of_node calls i) (end_of_node calls (i + 1))) found (λ m (low, (high, f)). (omega arith, (high, f))) (λ m (low, (high, f)). elim (cases_lt i m) [
        | inl more ↦ (omega arith, (high, f))
        | inr less ↦ absurd (let same : m ≡ i = omega arith in by.no_node calls i c h e n (subst (Among calls) same f))
      ]) here

  -- the calls before the first node
  pub below-first : (calls : List BuilderCall) (found : Option ℕ) → IsLeast (IsFrom (Own (own_calls calls)) 0) found → IsLeast (HoldsBelow Among calls (end_of_node calls 0)) found
  below-first calls found s =
      IsLeast-same (HoldsBetween Among calls 0 (0 + length (own_calls calls))) (HoldsBelow Among calls (end_of_node calls 0)) found (λ m h. h.1) (λ m h. (omega arith, h)) (least-node Among Own by [] calls found refl s)

  -- and those of one node more
  pub below-more : (calls : List BuilderCall) (i j : ℕ) (found here : Option ℕ) → end_of_node calls i ≤ end_of_node calls j → IsLeast (HoldsBelow Among calls (end_of_node calls i)) found → IsLeast (HoldsBetween Among calls (end_of_node calls i) (end_of_node calls j)) here → IsLeast (HoldsBelow Among calls (end_of_node calls j)) (lesser found here)
  below-more calls i j found here up s t =
      IsLeast-lesser (HoldsBelow Among calls (end_of_node calls i)) (HoldsBetween Among calls (end_of_node calls i) (end_of_node calls j)) (HoldsBelow Among calls (end_of_node calls j)) found here (λ m (low, f). (omega arith, f)) (λ m h. h.1) (λ m (low, f). elim (cases_lt m (end_of_node calls i)) [ inl less ↦ inl (less, f) | inr more ↦ inr (more, (low, f)) ]) s t

  -- all the calls
  pub below-last : (calls : List BuilderCall) (i : ℕ) (found : Option ℕ) → i ≡ length calls → IsLeast (HoldsBelow Among calls (end_of_node calls i)) found → IsLeast (Among calls) found
  below-last calls i found e s =
      let size : length (own_calls (drop i calls)) ≡ 0 = ap (λ x. length (own_calls x)) (drop_all i calls (omega arith)) in
      IsLeast-same (HoldsBelow Among calls (end_of_node calls i)) (Among calls) found (λ m h. h.1) (λ m f. (let low : m < length calls = by.within calls m f in (omega arith, f))) s
