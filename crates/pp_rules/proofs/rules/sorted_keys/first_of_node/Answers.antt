use Rattle.std.proofs.Common.{◌≡◌, ◌∙◌, ℕ, ◌+◌, ◌<◌, ◌≤◌, ◌^◌, List, Option, take, length, sym, ap, subst, arith}
use Rattle.std.specs.Prelude.{IfSome}
use Rattle.std.specs.FinSet as set
use Rattle.std.specs.Ordering.{nat_cmp}
use Rattle.std.proofs.lemmas.List.{length-take-le}
use Rattle.pp_rules.specs.declared.call.BuilderCall.{BuilderCall}
use Rattle.pp_rules.specs.declared.rules.sorted_keys.faults.KeyFaults.{KeyFaults}
use Rattle.pp_rules.specs.Calls.{own_calls}
use Rattle.pp_rules.specs.declared.rules.GraphRule.TheVariants.{PrefixGap}
use Rattle.pp_rules.specs.Rules.{FailsAt}
use Rattle.pp_rules.specs.Sets.{all_calls, AreSets}
use Rattle.pp_rules.specs.steps.Least.{IsLeast, IsFrom}
use Rattle.pp_rules.specs.steps.Clashes.{ComesAgainAt}
use Rattle.pp_rules.specs.steps.Gaps.{IsGapAt}
use Rattle.pp_rules.specs.steps.KeyFaults.{AreFirst, IsAgainAt}
use Rattle.pp_rules.proofs.NodeLemmas.{place-fits, least-from}
use Rattle.pp_rules.proofs.GapLemmas.{gap-by_node}
use Rattle.pp_rules.proofs.AgainLemmas.{again-by_node}
use Rattle.pp_rules.proofs.NodeSetLemmas.{own-all, own-sets, own-few, own-fits}
use Rattle.pp_rules.proofs.rules.sorted_keys.first_of_node.Goals as goal

pub slice_bounds-first_places-end : goal.slice_bounds-first_places-end
slice_bounds-first_places-end c =
    let own = c.own_calls-own.result.now in
    let few : length own ≤ length c.args.sets.now = subst (λ x. length x ≤ length c.args.sets.now) (sym c.own_calls-own.ensures) (own-fits c.args.calls.now c.args.sets.now c.requires.sets) in
    sym (length-take-le (length own) c.args.sets.now few)

pub first_places-requires-clause-sets : goal.first_places-requires-clause-sets
first_places-requires-clause-sets c =
    subst (λ x. AreSets x (take (length x) c.args.sets.now)) (sym c.own_calls-own.ensures) (own-sets c.args.calls.now c.args.sets.now c.requires.sets)

-- the calls of the kept ones of the node are those that belong to it
same-own : (calls own : List BuilderCall) (sets : List (Option (set.FinSet nat_cmp))) → own ≡ own_calls calls → AreSets calls sets → all_calls own (take (length own) sets) ≡ own_calls (all_calls calls sets)
same-own calls own sets e h = ap (λ x. all_calls x (take (length x) sets)) e ∙ sym (own-all calls sets h)

pub first_places-requires-clause-small : goal.first_places-requires-clause-small
first_places-requires-clause-small c =
    let same = same-own c.args.calls.now c.own_calls-own.result.now c.args.sets.now c.own_calls-own.ensures c.requires.sets in
    omega (arith, ap length same, own-few (all_calls c.args.calls.now c.args.sets.now))

-- so what is found among them is the first among all of these, and within them
module _ (calls own : List BuilderCall) (sets : List (Option (set.FinSet nat_cmp))) (e : own ≡ own_calls calls) (h : AreSets calls sets) (places : KeyFaults) (found : AreFirst (IsAgainAt (all_calls own (take (length own) sets))) (IsGapAt (all_calls own (take (length own) sets))) places) where
  abbrev among : List BuilderCall
  among = own_calls (all_calls calls sets)

  first-own : AreFirst (IsAgainAt among) (IsGapAt among) places
  first-own = subst (λ x. AreFirst (IsAgainAt x) (IsGapAt x) places) (same-own calls own sets e h) found

  again-fits : (number : ℕ) → number + length (all_calls calls sets) < 2 ^ 64 → IfSome places.again (λ p. number + p < 2 ^ 64)
  again-fits number small =
      place-fits ComesAgainAt IsAgainAt again-by_node among number (2 ^ 64) places.again (omega (arith, small, own-few (all_calls calls sets))) first-own.again

  gap-fits : (number : ℕ) → number + length (all_calls calls sets) < 2 ^ 64 → IfSome places.gap (λ p. number + p < 2 ^ 64)
  gap-fits number small =
      place-fits (FailsAt PrefixGap) IsGapAt gap-by_node among number (2 ^ 64) places.gap (omega (arith, small, own-few (all_calls calls sets))) first-own.gap

pub counted_from-requires-clause-again : goal.counted_from-requires-clause-again
counted_from-requires-clause-again c =
    again-fits c.args.calls.now c.own_calls-own.result.now c.args.sets.now c.own_calls-own.ensures c.requires.sets c.in_ok-places.places c.in_ok-places.ensures c.args.number c.requires.small

pub counted_from-requires-clause-gap : goal.counted_from-requires-clause-gap
counted_from-requires-clause-gap c =
    gap-fits c.args.calls.now c.own_calls-own.result.now c.args.sets.now c.own_calls-own.ensures c.requires.sets c.in_ok-places.places c.in_ok-places.ensures c.args.number c.requires.small

pub returns : goal.returns
returns c =
    let own = own_calls (all_calls c.args.calls.now c.args.sets.now) in
    let first = first-own c.args.calls.now c.own_calls-own.result.now c.args.sets.now c.own_calls-own.ensures c.requires.sets c.in_ok-places.places c.in_ok-places.ensures in
    record {
      again = subst (IsLeast (IsFrom (IsAgainAt own) c.args.number)) (sym c.counted_from.ensures.again) (least-from (IsAgainAt own) c.args.number c.in_ok-places.places.again first.again);
      gap = subst (IsLeast (IsFrom (IsGapAt own) c.args.number)) (sym c.counted_from.ensures.gap) (least-from (IsGapAt own) c.args.number c.in_ok-places.places.gap first.gap);
    }
