-- The first call at which a rule fails: from the first kept call at which it does, and what follows of it.
use Rattle.std.proofs.Common.{◌≡◌, ℕ, zero, suc, ◌∷◌, [], ◌<◌, ◌≤◌, inl, inr, Bool, true, false, ◌&&◌, ◌==◌, List, Option, Some, length, take, get_or, refl, ap, sym, ◌∙◌, subst, arith}
use Rattle.std.specs.Prelude.{sum_by}
use Rattle.std.specs.Prelude.{None as none}
use Rattle.std.specs.FinSet as set
use Rattle.std.specs.Ordering.{nat_cmp}
use Rattle.std.proofs.lemmas.Bool.{false≢true, cases_lt}
use Rattle.std.proofs.lemmas.Bool.Decides.{nat_tests}
use Rattle.std.proofs.lemmas.Option.{slice_get_past}
use Rattle.std.proofs.lemmas.List.Sums.{sum_by-cons}
use Rattle.pp_rules.specs.declared.call.BuilderCall.{BuilderCall}
use Rattle.pp_rules.specs.declared.rules.GraphRule.{GraphRule}
use Rattle.pp_rules.specs.declared.rules.GraphRule.TheVariants.{NoEntry}
use Rattle.pp_rules.specs.Rules.{fails_at, fails_at_call, fails_at_end, FailsAt}
use Rattle.pp_rules.specs.Sets.{all_calls, AreSets, size_of}
use Rattle.pp_rules.specs.steps.Seen.{IsByName}
use Rattle.pp_rules.specs.steps.Least.{IsLeast}
use Rattle.pp_rules.proofs.LeastLemmas.{IsLeast-none, IsLeast-some}
use Rattle.pp_rules.proofs.RuleLemmas.{fails_at-length, fails_at-within}
use Rattle.pp_rules.proofs.SetLemmas.{number-is, number-le}
use Rattle.pp_rules.proofs.TransferLemmas.{there-is, number, fails-all, fails-kept, end-same}

and-left : (a b : Bool) → (a && b) ≡ true → a ≡ true
and-left true b h = refl
and-left false b h = h

-- a rule fails at a call or at the end
pub fails-within : (rule : GraphRule) (calls : List BuilderCall) (p : ℕ) → FailsAt rule calls p → p ≤ length calls
fails-within rule calls p f =
    elim (cases_lt p (length calls)) [
      | inl low ↦ omega arith
      | inr past ↦
          let at : ((p == length calls) && fails_at_end rule calls) ≡ true = sym (ap (fails_at_call rule calls p) (slice_get_past calls p past)) ∙ f in
          let same : (p == length calls) ≡ true = and-left (p == length calls) (fails_at_end rule calls) at in
          grind (arith, nat_tests)
    ]

-- more kept calls stand for as many calls or more
sum-up : (sets : List (Option (set.FinSet nat_cmp))) (i j : ℕ) → i ≤ j → sum_by size_of (take i sets) ≤ sum_by size_of (take j sets)
sum-up sets zero j h = omega arith
sum-up sets (suc i) zero h = absurd (omega arith)
sum-up [] (suc i) (suc j) h = omega arith
sum-up (s ∷ sets) (suc i) (suc j) h =
    let rest : sum_by size_of (take i sets) ≤ sum_by size_of (take j sets) = sum-up sets i j (omega arith) in
    omega (arith, sum_by-cons size_of s (take i sets), sum_by-cons size_of s (take j sets))

-- and no more than all do
pub sum-within : (calls : List BuilderCall) (sets : List (Option (set.FinSet nat_cmp))) (i : ℕ) → AreSets calls sets → sum_by size_of (take i sets) ≤ length (all_calls calls sets)
sum-within calls sets i h =
    let same : number calls sets i ≡ sum_by size_of (take i sets) = number-is calls sets i h in
    let inside : number calls sets i ≤ length (all_calls calls sets) = number-le calls sets i h in
    omega arith

module _ (rule : GraphRule) (named : IsByName rule) (calls : List BuilderCall) (sets : List (Option (set.FinSet nat_cmp))) (h : AreSets calls sets) where
  -- a call at which such a rule fails comes behind the first kept one at which it does
  behind-first : (i p : ℕ) → ((j : ℕ) → j < i → ¬ (FailsAt rule calls j)) → p < length (all_calls calls sets) → FailsAt rule (all_calls calls sets) p → sum_by size_of (take i sets) ≤ p
  behind-first i p before l f =
      let kept = fails-kept rule named calls sets h p l f in
      elim (cases_lt kept.0 i) [
        | inl low ↦ absurd (before kept.0 low kept.2)
        | inr up ↦
            let more : sum_by size_of (take i sets) ≤ sum_by size_of (take kept.0 sets) = sum-up sets i kept.0 up in
            let same : number calls sets kept.0 ≡ sum_by size_of (take kept.0 sets) = number-is calls sets kept.0 h in
            let low : number calls sets kept.0 ≤ p = kept.3 in
            omega arith
      ]

  -- the first kept call at which such a rule fails
  pub least-kept : (i : ℕ) → i < length calls → FailsAt rule calls i → ((j : ℕ) → j < i → ¬ (FailsAt rule calls j)) → IsLeast (FailsAt rule (all_calls calls sets)) (Some (sum_by size_of (take i sets)))
  least-kept i l f before =
      let same : number calls sets i ≡ sum_by size_of (take i sets) = number-is calls sets i h in
      let inside : number calls sets i ≤ length (all_calls calls sets) = number-le calls sets i h in
      IsLeast-some (FailsAt rule (all_calls calls sets)) (sum_by size_of (take i sets))
      (subst (FailsAt rule (all_calls calls sets)) same (fails-all rule named calls sets h i l f))
      (λ p g. elim (cases_lt p (length (all_calls calls sets))) [ inl low ↦ behind-first i p before low g | inr past ↦ omega arith ])

  -- where it fails at no kept call it fails at no call
  no-call : ((j : ℕ) → j < length calls → ¬ (FailsAt rule calls j)) → (p : ℕ) → FailsAt rule (all_calls calls sets) p → p ≡ length (all_calls calls sets)
  no-call kept_all p f =
      elim (cases_lt p (length (all_calls calls sets))) [
        | inl low ↦ (let kept = fails-kept rule named calls sets h p low f in absurd (kept_all kept.0 kept.1 kept.2))
        | inr past ↦ (let within : p ≤ length (all_calls calls sets) = fails-within rule (all_calls calls sets) p f in omega arith)
      ]

  -- and at the end where the kept calls lack something
  at-end : fails_at rule (all_calls calls sets) (length (all_calls calls sets)) ≡ fails_at_end rule calls
  at-end = fails_at-length rule (all_calls calls sets) ∙ end-same rule named calls sets h

  -- a rule that fails at no kept call, nor at the end, fails nowhere
  pub least-none : ((j : ℕ) → j < length calls → ¬ (FailsAt rule calls j)) → fails_at_end rule calls ≡ false → IsLeast (FailsAt rule (all_calls calls sets)) none
  least-none kept_all e =
      IsLeast-none (FailsAt rule (all_calls calls sets)) (λ p f. false≢true (sym (at-end ∙ e) ∙ (ap (fails_at rule (all_calls calls sets)) (sym (no-call kept_all p f)) ∙ f)))

  -- and one that fails at the end alone fails there first
  least-end : ((j : ℕ) → j < length calls → ¬ (FailsAt rule calls j)) → fails_at_end rule calls ≡ true → IsLeast (FailsAt rule (all_calls calls sets)) (Some (length (all_calls calls sets)))
  least-end kept_all e =
      IsLeast-some (FailsAt rule (all_calls calls sets)) (length (all_calls calls sets))
      (at-end ∙ e)
      (λ p f. let last : p ≡ length (all_calls calls sets) = no-call kept_all p f in omega arith)

-- at a call the rule that there is an entry doesn't fail
entry-at : (calls : List BuilderCall) (j : ℕ) → j < length calls → ¬ (FailsAt NoEntry calls j)
entry-at calls j l f =
    let there : (c : BuilderCall) × (c ≡ get_or calls j c) = there-is calls j l in
    false≢true (sym (fails_at-within NoEntry calls j there.0 l there.1) ∙ f)

-- it holds where some call gives the entry, and else fails at the end
pub entry-there : (calls : List BuilderCall) (sets : List (Option (set.FinSet nat_cmp))) → AreSets calls sets → fails_at_end NoEntry calls ≡ false → IsLeast (FailsAt NoEntry (all_calls calls sets)) none
entry-there calls sets h = least-none NoEntry tt calls sets h (entry-at calls)

pub entry-missing : (calls : List BuilderCall) (sets : List (Option (set.FinSet nat_cmp))) → AreSets calls sets → fails_at_end NoEntry calls ≡ true → IsLeast (FailsAt NoEntry (all_calls calls sets)) (Some (length (all_calls calls sets)))
entry-missing calls sets h = least-end NoEntry tt calls sets h (entry-at calls)
