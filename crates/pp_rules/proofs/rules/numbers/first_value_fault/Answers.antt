use Rattle.std.proofs.Common.{◌≡◌, ◌<◌, length, get_or, false, sym, subst, ◌∙◌, arith}
use Rattle.pp_rules.specs.declared.rules.GraphRule.TheVariants.{ValueTarget}
use Rattle.pp_rules.specs.Rules.{fails_at}
use Rattle.pp_rules.proofs.RuleLemmas.{fails_at-within, kept-more}
use Rattle.pp_rules.proofs.rules.numbers.first_value_fault.Goals as goal

pub returns-then-is_value_fault-clause-first : goal.returns-then-is_value_fault-clause-first
returns-then-is_value_fault-clause-first c =
    let calls = c.calls-calls.result.now in
    let same : calls ≡ c.args.values.now = c.calls-calls.ensures ∙ c.declared.ensures in
    let in_calls : c.loop-i.i < length calls = omega arith in
    let inside : c.loop-i.i < length c.args.values.now = subst (λ cs. c.loop-i.i < length cs) same in_calls in
    let there : c.index-calls-i.result ≡ get_or c.args.values.now c.loop-i.i c.index-calls-i.result =
    subst (λ cs. c.index-calls-i.result ≡ get_or cs c.loop-i.i c.index-calls-i.result) same c.index-calls-i.is in
    (inside, fails_at-within ValueTarget c.args.values.now c.loop-i.i c.index-calls-i.result inside there ∙ (sym c.is_value_fault.ensures ∙ c.if-is_value_fault.true), c.loop-i.invariant)

pub loop-i-preserved : goal.loop-i-preserved
loop-i-preserved c =
    let calls = c.calls-calls.result.now in
    let same : calls ≡ c.args.values.now = c.calls-calls.ensures ∙ c.declared.ensures in
    let in_calls : c.loop-i.i < length calls = omega arith in
    let inside : c.loop-i.i < length c.args.values.now = subst (λ cs. c.loop-i.i < length cs) same in_calls in
    let there : c.index-calls-i.result ≡ get_or c.args.values.now c.loop-i.i c.index-calls-i.result =
    subst (λ cs. c.index-calls-i.result ≡ get_or cs c.loop-i.i c.index-calls-i.result) same c.index-calls-i.is in
    let here : fails_at ValueTarget c.args.values.now c.loop-i.i ≡ false = fails_at-within ValueTarget c.args.values.now c.loop-i.i c.index-calls-i.result inside there ∙ (sym c.is_value_fault.ensures ∙ c.if-is_value_fault.false) in
    kept-more ValueTarget c.args.values.now c.loop-i.i here c.loop-i.invariant
