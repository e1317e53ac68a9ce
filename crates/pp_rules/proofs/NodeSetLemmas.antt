-- The walk over the nodes of a graph by the calls that are kept, those of a set as one.
use Rattle.std.proofs.Common.{◌≡◌, ℕ, ◌+◌, ◌-◌, ◌<◌, ◌≤◌, List, [], ◌∷◌, ◌++◌, Bool, true, false, Option, Some, get_or, take, drop, length, map, refl, ap, ap₂, sym, ◌∙◌, subst, length-append, arith}
use Rattle.std.specs.Prelude.{None as none}
use Rattle.std.specs.FinSet as set
use Rattle.std.specs.Ordering.{nat_cmp}
use Rattle.std.proofs.lemmas.Bool.{false≢true}
use Rattle.std.proofs.lemmas.List.{take_all, length-drop}
use Rattle.std.proofs.lemmas.List.Sums.{sum_by_more}
use Rattle.std.proofs.Math.Seq.{drop-append_seam, get_or-append_seam}
use Rattle.pp_bytes.specs.Bytes.{bytes_of}
use Rattle.pp_rules.specs.declared.call.BuilderCall.{BuilderCall}
use Rattle.pp_rules.specs.declared.call.BuilderCall.TheVariants as call
use Rattle.pp_rules.specs.Calls.{is_node, own_calls}
use Rattle.pp_rules.specs.Sets.{call_with, spread, all_calls, IsSetOf, AreSets, size_of}
use Rattle.pp_rules.specs.steps.Least.{IsLeast, IsFrom, lesser}
use Rattle.pp_rules.specs.steps.ByNode.{HoldsBelow, end_of_node}
use Rattle.pp_rules.proofs.SetLemmas.{length-spread, length-sets, all-split, all-drop, number-is, number-le, sets-drop}
use Rattle.pp_rules.proofs.NodeLemmas.{IsByNode, own-node, own-call}
use Rattle.pp_rules.proofs.NodeStepLemmas.{behind-node, below-more, end-node}

-- the number of the first call that the one kept at a place stands for
abbrev pub number_at : List BuilderCall → List (Option (set.FinSet nat_cmp)) → ℕ → ℕ
number_at calls sets i = length (all_calls (take i calls) (take i sets))

-- no node has a set
node-alone : (c : BuilderCall) (s : Option (set.FinSet nat_cmp)) → IsSetOf c s → is_node c ≡ true → s ≡ none
node-alone c none h n = refl
node-alone c (Some bytes) (how, target, b, e, few) n = absurd (let no : is_node c ≡ false = ap is_node e in false≢true (sym no ∙ n))

same-node : (c : BuilderCall) (b : ℕ) → is_node (call_with c b) ≡ is_node c
same-node (call.Node name what) b = refl
same-node c b = refl

-- no call of a set ends the calls of a node
own-map : (c : BuilderCall) (bytes : List ℕ) (rest : List BuilderCall) → is_node c ≡ false → own_calls (map (call_with c) bytes ++ rest) ≡ map (call_with c) bytes ++ own_calls rest
own-map c [] rest n = refl
own-map c (b ∷ bytes) rest n =
    own-call (call_with c b) (map (call_with c) bytes ++ rest) (same-node c b ∙ n) ∙ ap (λ x. call_with c b ∷ x) (own-map c bytes rest n)

own-spread : (c : BuilderCall) (s : Option (set.FinSet nat_cmp)) (rest : List BuilderCall) → is_node c ≡ false → own_calls (spread c s ++ rest) ≡ spread c s ++ own_calls rest
own-spread c none rest n = own-call c rest n
own-spread c (Some bytes) rest n = own-map c (bytes_of bytes) rest n

own-none : (c : BuilderCall) (s : Option (set.FinSet nat_cmp)) (rest : List BuilderCall) → IsSetOf c s → is_node c ≡ true → own_calls (spread c s ++ rest) ≡ []
own-none c s rest h n = ap (λ x. own_calls (spread c x ++ rest)) (node-alone c s h n) ∙ own-node c rest n

-- the calls that belong to a node are those of the kept ones that do
own-step : (c : BuilderCall) (s : Option (set.FinSet nat_cmp)) (calls : List BuilderCall) (sets : List (Option (set.FinSet nat_cmp))) (b : Bool) → is_node c ≡ b → IsSetOf c s → own_calls (all_calls calls sets) ≡ all_calls (own_calls calls) (take (length (own_calls calls)) sets) → own_calls (spread c s ++ all_calls calls sets) ≡ all_calls (own_calls (c ∷ calls)) (take (length (own_calls (c ∷ calls))) (s ∷ sets))
own-step c s calls sets true n h e =
    own-none c s (all_calls calls sets) h n
    ∙ sym (ap (λ x. all_calls x (take (length x) (s ∷ sets))) (own-node c calls n))
own-step c s calls sets false n h e =
    own-spread c s (all_calls calls sets) n
    ∙ ap (λ x. spread c s ++ x) e
    ∙ sym (ap (λ x. all_calls x (take (length x) (s ∷ sets))) (own-call c calls n))

pub own-all : (calls : List BuilderCall) (sets : List (Option (set.FinSet nat_cmp))) → AreSets calls sets → own_calls (all_calls calls sets) ≡ all_calls (own_calls calls) (take (length (own_calls calls)) sets)
own-all [] [] h = refl
own-all [] (s ∷ sets) h = absurd h
own-all (c ∷ calls) [] h = absurd h
own-all (c ∷ calls) (s ∷ sets) h = own-step c s calls sets (is_node c) refl h.0 (own-all calls sets h.1)

-- and their sets come first
sets-step : (c : BuilderCall) (s : Option (set.FinSet nat_cmp)) (calls : List BuilderCall) (sets : List (Option (set.FinSet nat_cmp))) (b : Bool) → is_node c ≡ b → IsSetOf c s → AreSets (own_calls calls) (take (length (own_calls calls)) sets) → AreSets (own_calls (c ∷ calls)) (take (length (own_calls (c ∷ calls))) (s ∷ sets))
sets-step c s calls sets true n h t =
    subst (λ x. AreSets x (take (length x) (s ∷ sets))) (sym (own-node c calls n)) tt
sets-step c s calls sets false n h t =
    subst (λ x. AreSets x (take (length x) (s ∷ sets))) (sym (own-call c calls n)) (h, t)

pub own-sets : (calls : List BuilderCall) (sets : List (Option (set.FinSet nat_cmp))) → AreSets calls sets → AreSets (own_calls calls) (take (length (own_calls calls)) sets)
own-sets [] [] h = tt
own-sets [] (s ∷ sets) h = absurd h
own-sets (c ∷ calls) [] h = absurd h
own-sets (c ∷ calls) (s ∷ sets) h = sets-step c s calls sets (is_node c) refl h.0 (own-sets calls sets h.1)

-- so each has its set
few-step : (c : BuilderCall) (calls : List BuilderCall) (b : Bool) → is_node c ≡ b → length (own_calls calls) ≤ length calls → length (own_calls (c ∷ calls)) ≤ length (c ∷ calls)
few-step c calls true n h = let size = ap length (own-node c calls n) in omega arith
few-step c calls false n h = let size = ap length (own-call c calls n) in omega arith

pub own-few : (calls : List BuilderCall) → length (own_calls calls) ≤ length calls
own-few [] = omega arith
own-few (c ∷ calls) = few-step c calls (is_node c) refl (own-few calls)

pub own-fits : (calls : List BuilderCall) (sets : List (Option (set.FinSet nat_cmp))) → AreSets calls sets → length (own_calls calls) ≤ length sets
own-fits calls sets h = let size = length-sets calls sets h in let few = own-few calls in omega arith

-- the calls from a kept one on
drop-number : (calls : List BuilderCall) (sets : List (Option (set.FinSet nat_cmp))) (i : ℕ) → AreSets calls sets → drop (number_at calls sets i) (all_calls calls sets) ≡ all_calls (drop i calls) (drop i sets)
drop-number calls sets i h =
    ap (drop (number_at calls sets i)) (all-split calls sets i h) ∙ drop-append_seam (all_calls (take i calls) (take i sets)) (all_calls (drop i calls) (drop i sets))

pub number-rest : (calls : List BuilderCall) (sets : List (Option (set.FinSet nat_cmp))) (i : ℕ) → AreSets calls sets → number_at calls sets i + length (all_calls (drop i calls) (drop i sets)) ≡ length (all_calls calls sets)
number-rest calls sets i h =
    sym (ap length (all-split calls sets i h) ∙ length-append (all_calls (take i calls) (take i sets)) (all_calls (drop i calls) (drop i sets)))

pub number-last : (calls : List BuilderCall) (sets : List (Option (set.FinSet nat_cmp))) (i : ℕ) → AreSets calls sets → i ≡ length calls → number_at calls sets i ≡ length (all_calls calls sets)
number-last calls sets i h e =
    let size = length-sets calls sets h in
    ap₂ (λ x y. length (all_calls x y)) (take_all i calls (omega arith)) (take_all i sets (omega arith))

number-more : (calls : List BuilderCall) (sets : List (Option (set.FinSet nat_cmp))) (i : ℕ) (s : Option (set.FinSet nat_cmp)) → AreSets calls sets → i < length calls → s ≡ get_or sets i s → number_at calls sets i + size_of s ≡ number_at calls sets (i + 1)
number-more calls sets i s h low f =
    let size = length-sets calls sets h in
    ap₂ ◌+◌ (number-is calls sets i h) (ap size_of f) ∙ sym (number-is calls sets (i + 1) h ∙ sum_by_more size_of sets i s (omega arith))

pub number-fits : (calls : List BuilderCall) (sets : List (Option (set.FinSet nat_cmp))) (i n : ℕ) (s : Option (set.FinSet nat_cmp)) → AreSets calls sets → i < length calls → s ≡ get_or sets i s → n ≡ number_at calls sets i → n + size_of s ≤ length (all_calls calls sets)
number-fits calls sets i n s h low f at =
    let more = number-more calls sets i s h low f in
    let fits = number-le calls sets (i + 1) h in
    omega arith

-- a part of a list up to its end
part-drop : {A : Type 0} → (k : ℕ) (xs : List A) → take (length xs - k) (drop k xs) ≡ drop k xs
part-drop k xs = take_all (length xs - k) (drop k xs) (omega (arith, length-drop k xs))

pub part-all : (calls : List BuilderCall) (sets : List (Option (set.FinSet nat_cmp))) (k : ℕ) → all_calls (take (length calls - k) (drop k calls)) (take (length sets - k) (drop k sets)) ≡ all_calls (drop k calls) (drop k sets)
part-all calls sets k = ap₂ all_calls (part-drop k calls) (part-drop k sets)

pub part-sets : (calls : List BuilderCall) (sets : List (Option (set.FinSet nat_cmp))) (k : ℕ) → AreSets calls sets → AreSets (take (length calls - k) (drop k calls)) (take (length sets - k) (drop k sets))
part-sets calls sets k h =
    subst (λ x. AreSets x (take (length sets - k) (drop k sets))) (sym (part-drop k calls))
    (subst (AreSets (drop k calls)) (sym (part-drop k sets)) (sets-drop calls sets k h))

-- the step from a kept call to the next
module _ (calls : List BuilderCall) (sets : List (Option (set.FinSet nat_cmp))) (i : ℕ) (c : BuilderCall) (s : Option (set.FinSet nat_cmp)) (h : AreSets calls sets) (low : i < length calls) (e : c ≡ get_or calls i c) (f : s ≡ get_or sets i s) where
  abbrev all : List BuilderCall
  all = all_calls calls sets

  abbrev here : ℕ
  here = number_at calls sets i

  abbrev next : ℕ
  next = number_at calls sets (i + 1)

  abbrev rest : List BuilderCall
  rest = all_calls (drop (i + 1) calls) (drop (i + 1) sets)

  more : here + size_of s ≡ next
  more = number-more calls sets i s h low f

  pub next-at : (n k : ℕ) → n ≡ here → k ≡ size_of s → n + k ≡ next
  next-at n k at size = ap₂ ◌+◌ at size ∙ more

  -- a call that adds no node, and those of a set, belong to the same node
  end-same : is_node c ≡ false → end_of_node all here ≡ end_of_node all next
  end-same n =
      let whole : own_calls (drop here all) ≡ spread c s ++ own_calls (drop next all) =
      ap own_calls (drop-number calls sets i h ∙ all-drop calls sets i c s h low e f)
      ∙ own-spread c s rest n
      ∙ ap (λ x. spread c s ++ own_calls x) (sym (drop-number calls sets (i + 1) h)) in
      let size : length (own_calls (drop here all)) ≡ size_of s + length (own_calls (drop next all)) =
      ap length whole
      ∙ length-append (spread c s) (own_calls (drop next all))
      ∙ ap (λ k. k + length (own_calls (drop next all))) (length-spread c s) in
      let up = more in
      omega arith

  -- a node stands among all the calls
  node-there : s ≡ none → all ≡ all_calls (take i calls) (take i sets) ++ c ∷ rest
  node-there alone =
      all-split calls sets i h
      ∙ ap (λ x. all_calls (take i calls) (take i sets) ++ x) (all-drop calls sets i c s h low e f ∙ ap (λ x. spread c x ++ rest) alone)

  node-at : s ≡ none → c ≡ get_or all here c
  node-at alone =
      sym (ap (λ x. get_or x here c) (node-there alone) ∙ get_or-append_seam (all_calls (take i calls) (take i sets)) c rest c)

  node-below : s ≡ none → here < length all
  node-below alone =
      let size = ap length (node-there alone) ∙ length-append (all_calls (take i calls) (take i sets)) (c ∷ rest) in
      omega arith

  module _ (Among Own : List BuilderCall → ℕ → Type 0) (by : IsByNode Among Own) where
    -- so nothing more is looked for
    pub below-call : (n k : ℕ) (found : Option ℕ) → n ≡ here → k ≡ size_of s → is_node c ≡ false → IsLeast (HoldsBelow Among all (end_of_node all n)) found → IsLeast (HoldsBelow Among all (end_of_node all (n + k))) found
    below-call n k found at size plain t =
        subst (λ m. IsLeast (HoldsBelow Among all m) found) (ap (end_of_node all) at ∙ end-same plain ∙ sym (ap (end_of_node all) (next-at n k at size))) t

    node-step : (found behind : Option ℕ) → IsSetOf c s → is_node c ≡ true → IsLeast (HoldsBelow Among all (end_of_node all here)) found → IsLeast (IsFrom (Own (own_calls rest)) next) behind → IsLeast (HoldsBelow Among all (end_of_node all next)) (lesser found behind)
    node-step found behind g n t u =
        let alone : s ≡ none = node-alone c s g n in
        let size : here + 1 ≡ next = ap (λ x. here + size_of x) (sym alone) ∙ more in
        let own : IsLeast (IsFrom (Own (own_calls (drop next all))) next) behind = subst (λ x. IsLeast (IsFrom (Own (own_calls x)) next) behind) (sym (drop-number calls sets (i + 1) h)) u in
        let own-next : IsLeast (IsFrom (Own (own_calls (drop (here + 1) all))) (here + 1)) behind = subst (λ k. IsLeast (IsFrom (Own (own_calls (drop k all))) k) behind) (sym size) own in
        let between = behind-node Among Own by all here c behind (node-below alone) (node-at alone) n own-next in
        let start = end-node all here c (node-below alone) (node-at alone) n in
        subst (λ k. IsLeast (HoldsBelow Among all (end_of_node all k)) (lesser found behind)) size (below-more Among Own by all here (here + 1) found behind (omega arith) t between)

    -- and those behind a node are looked for
    pub below-node : (n k : ℕ) (found behind : Option ℕ) → n ≡ here → k ≡ size_of s → IsSetOf c s → is_node c ≡ true → IsLeast (HoldsBelow Among all (end_of_node all n)) found → IsLeast (IsFrom (Own (own_calls rest)) (n + k)) behind → IsLeast (HoldsBelow Among all (end_of_node all (n + k))) (lesser found behind)
    below-node n k found behind at size g is t u =
        subst (λ m. IsLeast (HoldsBelow Among all (end_of_node all m)) (lesser found behind)) (sym (next-at n k at size))
        (node-step found behind g is
        (subst (λ m. IsLeast (HoldsBelow Among all (end_of_node all m)) found) at t)
        (subst (λ m. IsLeast (IsFrom (Own (own_calls rest)) m) behind) (next-at n k at size) u))
