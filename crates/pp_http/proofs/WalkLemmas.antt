-- A rule that is tried call by call with a state that a fold keeps.
use Rattle.std.proofs.Common.{◌++◌, ◌≡◌, refl, sym, subst, ◌∙◌, ℕ, zero, suc, List, [], ◌∷◌, Bool, true, false, not, ◌&&◌, fold, take, drop, slice_get, Option, Some, None, length, ◌==◌, arith}
use Rattle.pp_rules.specs.declared.call.BuilderCall.{BuilderCall}
use Rattle.pp_rules.specs.declared.rules.GraphRule.{GraphRule}
use Rattle.pp_rules.specs.Rules.{fails, fails_at_end, fails_at_call, Keeps}
use Rattle.pp_http.proofs.TestLemmas.{and_left, and_right}
use Rattle.pp_http.proofs.LoopLemmas.{append_assoc, append_nil}

module _ {S : Type 0} (test : S → BuilderCall → List BuilderCall → Bool) (next : S → BuilderCall → S) where
  abbrev pub walk : S → List BuilderCall → Bool
  walk s [] = true
  walk s (c ∷ cs) = not (test s c cs) && walk (next s c) cs

  pub not_false : (b : Bool) → not b ≡ true → b ≡ false
  not_false false e = refl
  not_false true e = sym e

  pub walk_at : (s : S) (calls : List BuilderCall) (i : ℕ) (c : BuilderCall) → walk s calls ≡ true → slice_get calls i ≡ Some c → test (fold next s (take i calls)) c (drop (suc i) calls) ≡ false
  walk_at s [] i c e g = grind (arith, g)
  walk_at s (x ∷ xs) zero c e g = let same : x ≡ c = grind (arith, g) in subst (λ y. test s y xs ≡ false) same (not_false (test s x xs) (and_left (not (test s x xs)) (walk (next s x) xs) e))
  walk_at s (x ∷ xs) (suc i) c e g = walk_at (next s x) xs i c (and_right (not (test s x xs)) (walk (next s x) xs) e) g

  false_true : (b : Bool) → b ≡ false → b ≡ true → ⊥
  false_true b e h = grind (arith, e, h)

  and_none : (a b : Bool) → b ≡ false → (a && b) ≡ true → ⊥
  and_none true b e h = false_true b e h
  and_none false b e h = grind (arith, h)

  pub keeps_by : (rule : GraphRule) (calls : List BuilderCall) (s : S) →
      ((before : List BuilderCall) (c : BuilderCall) (after : List BuilderCall) → fails rule calls before c after ≡ test (fold next s before) c after) →
      fails_at_end rule calls ≡ false → walk s calls ≡ true → Keeps calls rule
  keeps_by rule calls s is end e i f = here (slice_get calls i) refl f
    where
      here : (o : Option BuilderCall) → slice_get calls i ≡ o → fails_at_call rule calls i o ≡ true → ⊥
      here None g h = and_none (i == length calls) (fails_at_end rule calls) end h
      here (Some c) g h = false_true (fails rule calls (take i calls) c (drop (suc i) calls)) (is (take i calls) c (drop (suc i) calls) ∙ walk_at s calls i c e g) h

-- the calls so far, as the state of a fold
abbrev pub snoc : {X : Type 0} → List X → X → List X
snoc xs x = xs ++ (x ∷ [])

pub snoc_onto : {X : Type 0} (ys xs : List X) → fold snoc ys xs ≡ ys ++ xs
snoc_onto ys [] = sym (append_nil ys)
snoc_onto ys (x ∷ xs) = snoc_onto (ys ++ (x ∷ [])) xs ∙ append_assoc ys (x ∷ []) xs

pub snoc_all : {X : Type 0} (xs : List X) → fold snoc [] xs ≡ xs
snoc_all xs = snoc_onto [] xs
