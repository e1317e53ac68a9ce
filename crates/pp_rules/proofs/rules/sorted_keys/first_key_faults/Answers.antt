use Rattle.std.proofs.Common.{◌∙◌, ◌+◌, drop, length, refl, sym, subst, ap, arith}
use Rattle.pp_rules.specs.declared.rules.GraphRule.TheVariants.{PrefixGap}
use Rattle.pp_rules.specs.Calls.{own_calls}
use Rattle.pp_rules.specs.Rules.{FailsAt}
use Rattle.pp_rules.specs.Sets.{all_calls}
use Rattle.pp_rules.specs.steps.Least.{IsFrom}
use Rattle.pp_rules.specs.steps.ByNode.{HoldsBelow, end_of_node}
use Rattle.pp_rules.specs.steps.Clashes.{ComesAgainAt}
use Rattle.pp_rules.specs.steps.Gaps.{IsGapAt}
use Rattle.pp_rules.specs.steps.KeyFaults.{AreFirst, IsAgainAt}
use Rattle.pp_rules.proofs.SetLemmas.{length-sets, set-at}
use Rattle.pp_rules.proofs.NodeStepLemmas.{below-first, below-last}
use Rattle.pp_rules.proofs.NodeSetLemmas.{number-last, number-rest, number-fits, next-at, part-all, part-sets, below-call, below-node}
use Rattle.pp_rules.proofs.GapLemmas.{gap-by_node}
use Rattle.pp_rules.proofs.AgainLemmas.{again-by_node}
use Rattle.pp_rules.proofs.rules.sorted_keys.first_key_faults.Goals as goal
use Rattle.pp_rules.proofs.rules.sorted_keys.first_key_faults.Goals.{then-is_node+in_ok-behind, else-is_node}

pub loop-i-init : goal.loop-i-init
loop-i-init c =
    let all = all_calls c.args.calls.now c.args.sets.now in
    let first = c.in_ok-found.ensures in (
      refl,
      record {
        again = below-first ComesAgainAt IsAgainAt again-by_node all c.in_ok-found.found.again first.again;
        gap = below-first (FailsAt PrefixGap) IsGapAt gap-by_node all c.in_ok-found.found.gap first.gap;
      },
    )

pub bounds-sets-i : goal.bounds-sets-i
bounds-sets-i c = let size = length-sets c.args.calls.now c.args.sets.now c.requires.sets in omega arith

pub overflow_add-number : goal.overflow_add-number
overflow_add-number c =
    let fits = number-fits c.args.calls.now c.args.sets.now c.loop-i.i c.loop-i.number c.index-sets-i.result c.requires.sets c.loop-i-test.true c.index-sets-i.is c.loop-i.invariant.0 in
    omega arith

pub slice_bounds-first_of_node-count-then-is_node :
    goal.slice_bounds-first_of_node-count-then-is_node
slice_bounds-first_of_node-count-then-is_node c =
    let size = length-sets c.args.calls.now c.args.sets.now c.requires.sets in omega arith

pub slice_bounds-first_of_node-start-then-is_node :
    goal.slice_bounds-first_of_node-start-then-is_node
slice_bounds-first_of_node-start-then-is_node c =
    let size = length-sets c.args.calls.now c.args.sets.now c.requires.sets in omega arith

pub first_of_node-requires-then-is_node-clause-sets :
    goal.first_of_node-requires-then-is_node-clause-sets
first_of_node-requires-then-is_node-clause-sets c =
    part-sets c.args.calls.now c.args.sets.now (c.loop-i.i + 1) c.requires.sets

pub first_of_node-requires-then-is_node-clause-small :
    goal.first_of_node-requires-then-is_node-clause-small
first_of_node-requires-then-is_node-clause-small c =
    let calls = c.args.calls.now in
    let sets = c.args.sets.now in
    let i = c.loop-i.i in
    let at = next-at calls sets i c.index-calls-i.result c.index-sets-i.result c.requires.sets c.loop-i-test.true c.index-calls-i.is c.index-sets-i.is c.loop-i.number c.size_of-number.result c.loop-i.invariant.0 c.size_of-number.ensures in
    let rest = number-rest calls sets (i + 1) c.requires.sets in
    let same = ap length (part-all calls sets (i + 1)) in
    omega arith

pub loop-i-preserved : goal.loop-i-preserved
loop-i-preserved c =
    let calls = c.args.calls.now in
    let sets = c.args.sets.now in
    let all = all_calls calls sets in
    let i = c.loop-i.i in
    let call = c.index-calls-i.result in
    let s = c.index-sets-i.result in
    let n = c.loop-i.number in
    let k = c.size_of-number.result in
    let h = c.requires.sets in
    let at = c.loop-i.invariant.0 in
    let size = c.size_of-number.ensures in
    let low = c.loop-i-test.true in
    let e = c.index-calls-i.is in
    let f = c.index-sets-i.is in
    let first = c.loop-i.invariant.1 in (
      next-at calls sets i call s h low e f n k at size,
      elim c.if-is_node.branch [
        | then-is_node+in_ok-behind w ↦
            (let behind = w.in_ok-behind.behind in
            let rest = all_calls (drop (i + 1) calls) (drop (i + 1) sets) in
            let own : AreFirst (IsFrom (IsAgainAt (own_calls rest)) (n + k)) (IsFrom (IsGapAt (own_calls rest)) (n + k)) behind =
            subst (λ x. AreFirst (IsFrom (IsAgainAt (own_calls x)) (n + k)) (IsFrom (IsGapAt (own_calls x)) (n + k)) behind) (part-all calls sets (i + 1)) w.in_ok-behind.ensures in
            subst (AreFirst (HoldsBelow ComesAgainAt all (end_of_node all (n + k))) (HoldsBelow (FailsAt PrefixGap) all (end_of_node all (n + k)))) (sym (w.found-is ∙ w.earlier-found.ensures)) (record {
              again = below-node calls sets i call s h low e f ComesAgainAt IsAgainAt again-by_node n k c.loop-i.found.again behind.again at size (set-at calls sets i call s h low e f) (sym w.if-is_node.ensures) first.again own.again;
              gap = below-node calls sets i call s h low e f (FailsAt PrefixGap) IsGapAt gap-by_node n k c.loop-i.found.gap behind.gap at size (set-at calls sets i call s h low e f) (sym w.if-is_node.ensures) first.gap own.gap;
            }))
        | else-is_node w ↦
            subst (AreFirst (HoldsBelow ComesAgainAt all (end_of_node all (n + k))) (HoldsBelow (FailsAt PrefixGap) all (end_of_node all (n + k)))) (sym w.found-is) (record {
              again = below-call calls sets i call s h low e f ComesAgainAt IsAgainAt again-by_node n k c.loop-i.found.again at size (sym w.if-is_node.ensures) first.again;
              gap = below-call calls sets i call s h low e f (FailsAt PrefixGap) IsGapAt gap-by_node n k c.loop-i.found.gap at size (sym w.if-is_node.ensures) first.gap;
            })
      ],
    )

pub returns : goal.returns
returns c =
    let all = all_calls c.args.calls.now c.args.sets.now in
    let last = c.loop-i.invariant.0 ∙ number-last c.args.calls.now c.args.sets.now c.loop-i.i c.requires.sets (omega arith) in
    let first = c.loop-i.invariant.1 in
    record {
      again = below-last ComesAgainAt IsAgainAt again-by_node all c.loop-i.number c.loop-i.found.again last first.again;
      gap = below-last (FailsAt PrefixGap) IsGapAt gap-by_node all c.loop-i.number c.loop-i.found.gap last first.gap;
    }
