use Rattle.std.proofs.Common.{◌≡◌, ◌<◌, length, get_or, false, refl, sym, subst, ◌∙◌, arith}
use Rattle.std.proofs.lemmas.List.{take_rest}
use Rattle.pp_rules.specs.declared.rules.GraphRule.TheVariants.{NoOtherwise}
use Rattle.pp_rules.specs.Rules.{fails_at}
use Rattle.pp_rules.proofs.RuleLemmas.{fails_at-within, kept-more}
use Rattle.pp_rules.proofs.rules.otherwise.first_without_otherwise.Goals as goal

pub returns-then-lacks_otherwise-clause-first : goal.returns-then-lacks_otherwise-clause-first
returns-then-lacks_otherwise-clause-first c =
    let calls = c.calls-calls.result.now in
    let same : calls ≡ c.args.values.now = c.calls-calls.ensures ∙ c.declared.ensures in
    let in_calls : c.loop-i.i < length calls = omega arith in
    let inside : c.loop-i.i < length c.args.values.now = subst (λ cs. c.loop-i.i < length cs) same in_calls in
    let there : c.index-calls-i.result ≡ get_or c.args.values.now c.loop-i.i c.index-calls-i.result =
    subst (λ cs. c.index-calls-i.result ≡ get_or cs c.loop-i.i c.index-calls-i.result) same c.index-calls-i.is in
    (inside, fails_at-within NoOtherwise c.args.values.now c.loop-i.i c.index-calls-i.result inside there ∙ (sym (c.lacks_otherwise.ensures ∙ rw (take_rest, same) refl) ∙ c.if-lacks_otherwise.true), c.loop-i.invariant)

pub loop-i-preserved : goal.loop-i-preserved
loop-i-preserved c =
    let calls = c.calls-calls.result.now in
    let same : calls ≡ c.args.values.now = c.calls-calls.ensures ∙ c.declared.ensures in
    let in_calls : c.loop-i.i < length calls = omega arith in
    let inside : c.loop-i.i < length c.args.values.now = subst (λ cs. c.loop-i.i < length cs) same in_calls in
    let there : c.index-calls-i.result ≡ get_or c.args.values.now c.loop-i.i c.index-calls-i.result =
    subst (λ cs. c.index-calls-i.result ≡ get_or cs c.loop-i.i c.index-calls-i.result) same c.index-calls-i.is in
    let here : fails_at NoOtherwise c.args.values.now c.loop-i.i ≡ false = fails_at-within NoOtherwise c.args.values.now c.loop-i.i c.index-calls-i.result inside there ∙ (sym (c.lacks_otherwise.ensures ∙ rw (take_rest, same) refl) ∙ c.if-lacks_otherwise.false) in
    kept-more NoOtherwise c.args.values.now c.loop-i.i here c.loop-i.invariant
