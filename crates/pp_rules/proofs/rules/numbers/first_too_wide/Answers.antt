use Rattle.std.proofs.Common.{◌≡◌, ◌<◌, length, get_or, false, sym, subst, ◌∙◌, arith}
use Rattle.pp_rules.specs.declared.rules.GraphRule.TheVariants.{ValueTooWide}
use Rattle.pp_rules.specs.Rules.{fails_at}
use Rattle.pp_rules.proofs.RuleLemmas.{fails_at-within, kept-more}
use Rattle.pp_rules.proofs.rules.numbers.first_too_wide.Goals as goal

pub returns-then-is_too_wide-clause-first : goal.returns-then-is_too_wide-clause-first
returns-then-is_too_wide-clause-first c =
    let calls = c.calls-calls.result.now in
    let same : calls ≡ c.args.values.now = c.calls-calls.ensures ∙ c.declared.ensures in
    let in_calls : c.loop-i.i < length calls = omega arith in
    let inside : c.loop-i.i < length c.args.values.now = subst (λ cs. c.loop-i.i < length cs) same in_calls in
    let there : c.index-calls-i.result ≡ get_or c.args.values.now c.loop-i.i c.index-calls-i.result =
    subst (λ cs. c.index-calls-i.result ≡ get_or cs c.loop-i.i c.index-calls-i.result) same c.index-calls-i.is in
    (inside, fails_at-within ValueTooWide c.args.values.now c.loop-i.i c.index-calls-i.result inside there ∙ (sym c.is_too_wide.ensures ∙ c.if-is_too_wide.true), c.loop-i.invariant)

pub loop-i-preserved : goal.loop-i-preserved
loop-i-preserved c =
    let calls = c.calls-calls.result.now in
    let same : calls ≡ c.args.values.now = c.calls-calls.ensures ∙ c.declared.ensures in
    let in_calls : c.loop-i.i < length calls = omega arith in
    let inside : c.loop-i.i < length c.args.values.now = subst (λ cs. c.loop-i.i < length cs) same in_calls in
    let there : c.index-calls-i.result ≡ get_or c.args.values.now c.loop-i.i c.index-calls-i.result =
    subst (λ cs. c.index-calls-i.result ≡ get_or cs c.loop-i.i c.index-calls-i.result) same c.index-calls-i.is in
    let here : fails_at ValueTooWide c.args.values.now c.loop-i.i ≡ false = fails_at-within ValueTooWide c.args.values.now c.loop-i.i c.index-calls-i.result inside there ∙ (sym c.is_too_wide.ensures ∙ c.if-is_too_wide.false) in
    kept-more ValueTooWide c.args.values.now c.loop-i.i here c.loop-i.invariant
