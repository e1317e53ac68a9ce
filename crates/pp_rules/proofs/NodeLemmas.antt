-- Facts of calls that belong to a node: the same fact among those of its node and among all calls.
use Rattle.std.proofs.Common.{◌≡◌, ℕ, ◌+◌, ◌-◌, ◌<◌, zero, suc, List, [], ◌∷◌, ◌++◌, Bool, true, false, ◌||◌, Option, Some, option_map, get_or, length, refl, ap, sym, ◌∙◌, subst, append_assoc, length-append, arith}
use Rattle.std.proofs.lemmas.Bool.{false≢true}
use Rattle.std.proofs.lemmas.List.{append-nil}
use Rattle.std.specs.Prelude.{if◌then◌else◌, IfSome}
use Rattle.std.specs.Prelude.{None as none}
use Rattle.std.specs.List.{list_any}
use Rattle.std.proofs.lemmas.List.Sums.{fold_push}
use Rattle.pp_rules.specs.declared.call.BuilderCall.{BuilderCall}
use Rattle.pp_rules.specs.declared.call.BuilderCall.TheVariants as call
use Rattle.pp_rules.specs.Calls.{is_node, own_calls, since_node, since_after}
use Rattle.pp_rules.specs.Edges.{edge_of}
use Rattle.pp_rules.specs.steps.Least.{IsLeast, IsFrom}
use Rattle.pp_rules.specs.steps.ByNode.{HoldsBetween}
use Rattle.pp_rules.proofs.LeastLemmas.{IsLeast-same, IsLeast-image}
use Rattle.pp_rules.proofs.ListLemmas.{or_false_left, or_false_right}

-- a call that adds a node adds no edge
pub node-edge : (c : BuilderCall) → is_node c ≡ true → edge_of c ≡ none
node-edge (call.Node name what) h = refl
node-edge (call.Edge when target) h = absurd (false≢true h)
node-edge c h = refl

-- a node begins anew
pub since-node : (before : List BuilderCall) (c : BuilderCall) → is_node c ≡ true → since_node (before ++ c ∷ []) ≡ []
since-node before c h =
    fold_push since_after [] before c ∙ ap (λ b. if b then [] else since_node before ++ c ∷ []) h

-- and any other call goes on
since-call : (before : List BuilderCall) (c : BuilderCall) → is_node c ≡ false → since_node (before ++ c ∷ []) ≡ since_node before ++ c ∷ []
since-call before c h =
    fold_push since_after [] before c ∙ ap (λ b. if b then [] else since_node before ++ c ∷ []) h

-- calls without a node stay behind the last one
since-append : (before front : List BuilderCall) → list_any is_node front ≡ false → since_node (before ++ front) ≡ since_node before ++ front
since-append before [] h = ap since_node (append-nil before) ∙ sym (append-nil (since_node before))
since-append before (d ∷ front) h =
    let plain : is_node d ≡ false = or_false_left (is_node d) (list_any is_node front) h in
    let rest : list_any is_node front ≡ false = or_false_right (is_node d) (list_any is_node front) h in
    ap since_node (sym (append_assoc before (d ∷ []) front)) ∙ since-append (before ++ d ∷ []) front rest ∙ ap (λ x. x ++ front) (since-call before d plain) ∙ append_assoc (since_node before) (d ∷ []) front

pub own-node : (c : BuilderCall) (rest : List BuilderCall) → is_node c ≡ true → own_calls (c ∷ rest) ≡ []
own-node c rest h = ap (λ b. if b then [] else c ∷ own_calls rest) h

pub own-call : (c : BuilderCall) (rest : List BuilderCall) → is_node c ≡ false → own_calls (c ∷ rest) ≡ c ∷ own_calls rest
own-call c rest h = ap (λ b. if b then [] else c ∷ own_calls rest) h

-- the call at a place of those that belong to a node, with those before it and those behind it
record IsSplit (rest : List BuilderCall) (j : ℕ) : Type 0 where
  front : List BuilderCall
  here : BuilderCall
  after : List BuilderCall
  whole : rest ≡ front ++ here ∷ after
  own : own_calls rest ≡ front ++ here ∷ own_calls after
  size : length front ≡ j
  plain : list_any is_node front ≡ false

split-call : (c : BuilderCall) (rest : List BuilderCall) → is_node c ≡ false → ((i : ℕ) → i < length (own_calls rest) → IsSplit rest i) → (j : ℕ) → j < length (c ∷ own_calls rest) → IsSplit (c ∷ rest) j
split-call c rest p f zero h = record {
  front = [];
  here = c;
  after = rest;
  whole = refl;
  own = own-call c rest p;
  size = refl;
  plain = refl;
}
split-call c rest p f (suc i) h =
    let s = f i (omega arith) in
    record {
      front = c ∷ s.front;
      here = s.here;
      after = s.after;
      whole = ap (λ x. c ∷ x) s.whole;
      own = own-call c rest p ∙ ap (λ x. c ∷ x) s.own;
      size = ap suc s.size;
      plain = ap (λ b. b || list_any is_node s.front) p ∙ s.plain;
    }

split-step : (c : BuilderCall) (rest : List BuilderCall) (b : Bool) → is_node c ≡ b → ((i : ℕ) → i < length (own_calls rest) → IsSplit rest i) → (j : ℕ) → j < length (own_calls (c ∷ rest)) → IsSplit (c ∷ rest) j
split-step c rest true e f j h =
    absurd (let none_left : j < 0 = subst (λ x. j < length x) (own-node c rest e) h in omega arith)
split-step c rest false e f j h = split-call c rest e f j (subst (λ x. j < length x) (own-call c rest e) h)

split-own : (rest : List BuilderCall) (j : ℕ) → j < length (own_calls rest) → IsSplit rest j
split-own [] j h = absurd (omega arith)
split-own (c ∷ rest) j h = split-step c rest (is_node c) refl (split-own rest) j h

-- a fact of a call among all calls is one of it among those of its node, and never one of a call that adds a node
pub record IsByNode (Among Own : List BuilderCall → ℕ → Type 0) : Type 0 where
  pub within : (calls : List BuilderCall) (m : ℕ) → Among calls m → m < length calls
  pub no_node : (calls : List BuilderCall) (i : ℕ) (c : BuilderCall) → i < length calls → c ≡ get_or calls i c → is_node c ≡ true → Among calls i → ⊥
  pub below : (own : List BuilderCall) (m : ℕ) → Own own m → m < length own
  pub to : (before front after : List BuilderCall) (c : BuilderCall) → since_node before ≡ front → Among (before ++ c ∷ after) (length before) → Own (front ++ c ∷ own_calls after) (length front)
  pub from : (before front after : List BuilderCall) (c : BuilderCall) → since_node before ≡ front → Own (front ++ c ∷ own_calls after) (length front) → Among (before ++ c ∷ after) (length before)

module _ (Among Own : List BuilderCall → ℕ → Type 0) (by : IsByNode Among Own) where
  -- the place of such a call is within those of its node
  pub place-fits : (own : List BuilderCall) (start limit : ℕ) (found : Option ℕ) → start + length own < limit → IsLeast (Own own) found → IfSome found (λ p. start + p < limit)
  place-fits own start limit none h s = tt
  place-fits own start limit (Some p) h s = let low : p < length own = by.below own p s.holds in omega arith

  -- the call among all calls
  whole : (before rest : List BuilderCall) (j : ℕ) (s : IsSplit rest j) → before ++ rest ≡ (before ++ s.front) ++ s.here ∷ s.after
  whole before rest j s = ap (λ x. before ++ x) s.whole ∙ sym (append_assoc before s.front (s.here ∷ s.after))

  -- its number
  size : (before rest : List BuilderCall) (j : ℕ) (s : IsSplit rest j) → length before + j ≡ length (before ++ s.front)
  size before rest j s = ap (λ n. length before + n) (sym s.size) ∙ sym (length-append before s.front)

  -- and the calls of its node before it
  seen : (before rest : List BuilderCall) (j : ℕ) → since_node before ≡ [] → (s : IsSplit rest j) → since_node (before ++ s.front) ≡ s.front
  seen before rest j e s = since-append before s.front s.plain ∙ ap (λ x. x ++ s.front) e

  -- what holds of it among all calls holds of it among those of its node, and the other way round
  own-of_among : (before rest : List BuilderCall) (j : ℕ) → since_node before ≡ [] → j < length (own_calls rest) → Among (before ++ rest) (length before + j) → Own (own_calls rest) j
  own-of_among before rest j e h f =
      let s = split-own rest j h in
      let there : Among ((before ++ s.front) ++ s.here ∷ s.after) (length (before ++ s.front)) = subst (Among ((before ++ s.front) ++ s.here ∷ s.after)) (size before rest j s) (subst (λ x. Among x (length before + j)) (whole before rest j s) f) in
      let own = by.to (before ++ s.front) s.front s.after s.here (seen before rest j e s) there in
      subst (Own (own_calls rest)) s.size (subst (λ x. Own x (length s.front)) (sym s.own) own)

  among-of_own : (before rest : List BuilderCall) (j : ℕ) → since_node before ≡ [] → Own (own_calls rest) j → Among (before ++ rest) (length before + j)
  among-of_own before rest j e own =
      let s = split-own rest j (by.below (own_calls rest) j own) in
      let there : Own (s.front ++ s.here ∷ own_calls s.after) (length s.front) = subst (λ x. Own x (length s.front)) s.own (subst (Own (own_calls rest)) (sym s.size) own) in
      let among = by.from (before ++ s.front) s.front s.after s.here (seen before rest j e s) there in
      subst (λ x. Among x (length before + j)) (sym (whole before rest j s)) (subst (Among ((before ++ s.front) ++ s.here ∷ s.after)) (sym (size before rest j s)) among)

  -- the first among the calls that belong to a node is the first of these among all
  pub least-node : (before rest : List BuilderCall) (found : Option ℕ) → since_node before ≡ [] → IsLeast (IsFrom (Own (own_calls rest)) (length before)) found → IsLeast (HoldsBetween Among (before ++ rest) (length before) (length before + length (own_calls rest))) found
  least-node before rest found e s =
      IsLeast-same (IsFrom (Own (own_calls rest)) (length before)) (HoldsBetween Among (before ++ rest) (length before) (length before + length (own_calls rest))) found to_among to_own s
    where
      to_among : (m : ℕ) → IsFrom (Own (own_calls rest)) (length before) m → HoldsBetween Among (before ++ rest) (length before) (length before + length (own_calls rest)) m
      to_among m (j, own, at) =
          let low : j < length (own_calls rest) = by.below (own_calls rest) j own in
          (omega arith, (omega arith, subst (Among (before ++ rest)) (sym at) (among-of_own before rest j e own)))

      to_own : (m : ℕ) → HoldsBetween Among (before ++ rest) (length before) (length before + length (own_calls rest)) m → IsFrom (Own (own_calls rest)) (length before) m
      to_own m (low, (high, f)) =
          let j = m - length before in
          let at : m ≡ length before + j = omega arith in
          (j, own-of_among before rest j e (omega arith) (subst (Among (before ++ rest)) at f), at)

-- what is least counts from a start
pub least-from : (P : ℕ → Type 0) (start : ℕ) (found : Option ℕ) → IsLeast P found → IsLeast (IsFrom P start) (option_map (λ p. start + p) found)
least-from P start found s =
    IsLeast-image P (IsFrom P start) (λ p. start + p) found (λ i j h. omega arith) (λ p h. (p, h, refl)) (λ m h. h) s
