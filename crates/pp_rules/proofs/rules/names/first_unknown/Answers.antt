use Rattle.std.proofs.Common.{◌≡◌, ◌<◌, length, get_or, false, sym, subst, ◌∙◌, arith}
use Rattle.pp_rules.specs.declared.rules.GraphRule.TheVariants.{UnknownName}
use Rattle.pp_rules.specs.Rules.{fails_at}
use Rattle.pp_rules.proofs.RuleLemmas.{fails_at-within, kept-more}
use Rattle.pp_rules.proofs.rules.names.first_unknown.Goals as goal

pub returns-then-names_unknown-clause-first : goal.returns-then-names_unknown-clause-first
returns-then-names_unknown-clause-first c =
    let calls = c.calls-calls.result.now in
    let same : calls ≡ c.args.declared.now = c.calls-calls.ensures in
    let in_calls : c.loop-i.i < length calls = omega arith in
    let inside : c.loop-i.i < length c.args.declared.now = subst (λ cs. c.loop-i.i < length cs) same in_calls in
    let there : c.index-calls-i.result ≡ get_or c.args.declared.now c.loop-i.i c.index-calls-i.result =
    subst (λ cs. c.index-calls-i.result ≡ get_or cs c.loop-i.i c.index-calls-i.result) same c.index-calls-i.is in
    (inside, fails_at-within UnknownName c.args.declared.now c.loop-i.i c.index-calls-i.result inside there ∙ (sym c.names_unknown.ensures ∙ c.if-names_unknown.true), c.loop-i.invariant)

pub loop-i-preserved : goal.loop-i-preserved
loop-i-preserved c =
    let calls = c.calls-calls.result.now in
    let same : calls ≡ c.args.declared.now = c.calls-calls.ensures in
    let in_calls : c.loop-i.i < length calls = omega arith in
    let inside : c.loop-i.i < length c.args.declared.now = subst (λ cs. c.loop-i.i < length cs) same in_calls in
    let there : c.index-calls-i.result ≡ get_or c.args.declared.now c.loop-i.i c.index-calls-i.result =
    subst (λ cs. c.index-calls-i.result ≡ get_or cs c.loop-i.i c.index-calls-i.result) same c.index-calls-i.is in
    let here : fails_at UnknownName c.args.declared.now c.loop-i.i ≡ false = fails_at-within UnknownName c.args.declared.now c.loop-i.i c.index-calls-i.result inside there ∙ (sym c.names_unknown.ensures ∙ c.if-names_unknown.false) in
    kept-more UnknownName c.args.declared.now c.loop-i.i here c.loop-i.invariant
