use Rattle.std.proofs.Common.{◌+◌, [], take, refl, sym, subst, arith}
use Rattle.std.specs.Prelude.{None as none}
use Rattle.std.specs.Prelude.{IsNone}
use Rattle.pp_rules.specs.Sets.{all_calls, spread}
use Rattle.pp_rules.specs.steps.Least.{IsLeast}
use Rattle.pp_rules.specs.steps.Seen.{TakesIn, FailsBehind}
use Rattle.pp_rules.proofs.LeastLemmas.{IsLeast-none}
use Rattle.pp_rules.proofs.SetLemmas.{length-sets, set-at, all-more, number-is, number-le}
use Rattle.pp_rules.proofs.LookingBackLemmas.{least-within, sets-found, sets-kept, sets-all}
use Rattle.pp_rules.proofs.rules.looking_back.first_looking_back.Goals as goal

pub loop-i-init : goal.loop-i-init
loop-i-init c = (c.new-seen.ensures c.args.rule, IsLeast-none (FailsBehind c.args.rule [] []) (λ j f. f))

pub bounds-sets-i : goal.bounds-sets-i
bounds-sets-i c = omega (arith, length-sets c.args.calls.now c.args.sets.now c.requires.sets)

pub first_of_kept-requires : goal.first_of_kept-requires
first_of_kept-requires c =
    set-at c.args.calls.now c.args.sets.now c.loop-i.i c.index-calls-i.result c.index-sets-i.result c.requires.sets (omega arith) c.index-calls-i.is c.index-sets-i.is

pub number_of-requires-clause-within : goal.number_of-requires-clause-within
number_of-requires-clause-within c = omega (arith, length-sets c.args.calls.now c.args.sets.now c.requires.sets)

pub number_of-requires-clause-small : goal.number_of-requires-clause-small
number_of-requires-clause-small c =
    omega (arith, c.requires.small, number-is c.args.calls.now c.args.sets.now c.loop-i.i c.requires.sets, number-le c.args.calls.now c.args.sets.now c.loop-i.i c.requires.sets)

pub overflow_add-result : goal.overflow_add-result
overflow_add-result c =
    let first = all_calls (take c.loop-i.i c.args.calls.now) (take c.loop-i.i c.args.sets.now) in
    let least = sets-found c.args.rule c.args.calls.now c.args.sets.now c.loop-i.i c.in-Some.rank c.number_of.result c.index-calls-i.result c.index-sets-i.result c.in_ok-rank.field-0 c.requires.sets (omega arith) c.index-calls-i.is c.index-sets-i.is c.number_of.ensures c.loop-i.invariant.1 (c.in_ok-rank.ensures.fails first c.loop-i.invariant.0) c.in-Some.is in
    omega (arith, c.requires.small, least-within c.args.rule [] (all_calls c.args.calls.now c.args.sets.now) (c.number_of.result + c.in-Some.rank) least)

pub returns-in-Some : goal.returns-in-Some
returns-in-Some c =
    let first = all_calls (take c.loop-i.i c.args.calls.now) (take c.loop-i.i c.args.sets.now) in
    sets-found c.args.rule c.args.calls.now c.args.sets.now c.loop-i.i c.in-Some.rank c.number_of.result c.index-calls-i.result c.index-sets-i.result c.in_ok-rank.field-0 c.requires.sets (omega arith) c.index-calls-i.is c.index-sets-i.is c.number_of.ensures c.loop-i.invariant.1 (c.in_ok-rank.ensures.fails first c.loop-i.invariant.0) c.in-Some.is

pub loop-i-preserved : goal.loop-i-preserved
loop-i-preserved c =
    let first = all_calls (take c.loop-i.i c.args.calls.now) (take c.loop-i.i c.args.sets.now) in
    let few = spread c.index-calls-i.result c.index-sets-i.result in
    let kept : IsLeast (FailsBehind c.args.rule first few) none = subst (IsLeast (FailsBehind c.args.rule first few)) c.in_default.is (c.in_ok-rank.ensures.fails first c.loop-i.invariant.0) in
    let more = all-more c.args.calls.now c.args.sets.now c.loop-i.i c.index-calls-i.result c.index-sets-i.result c.requires.sets (omega arith) c.index-calls-i.is c.index-sets-i.is in
    let nowhere : IsNone c.in_ok-rank.field-0 = subst IsNone (sym c.in_default.is) refl in
    (subst (TakesIn c.args.rule c.first_of_kept.new.seen) (sym more) (c.in_ok-rank.ensures.taken nowhere first c.loop-i.invariant.0), sets-kept c.args.rule c.args.calls.now c.args.sets.now c.loop-i.i c.index-calls-i.result c.index-sets-i.result c.requires.sets (omega arith) c.index-calls-i.is c.index-sets-i.is c.loop-i.invariant.1 kept)

pub returns : goal.returns
returns c =
    let all = sets-all c.args.calls.now c.args.sets.now c.loop-i.i c.requires.sets (omega arith) in
    subst (λ xs. IsLeast (FailsBehind c.args.rule [] xs) none) all c.loop-i.invariant.1
