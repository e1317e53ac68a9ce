use Rattle.std.proofs.Common.{sym, ap, ◌∙◌, ◌≡◌, false}
use Rattle.std.proofs.lemmas.Bool.{false≢true}
use Rattle.pp_program.specs.Targets.{is_state}
use Rattle.pp_program.proofs.LeastLemmas.{least-more, least-all}
use Rattle.pp_program.proofs.targets.first_wrong_state.Goals as goal

pub loop-i-preserved : goal.loop-i-preserved
loop-i-preserved c =
    least-more (λ s. is_state c.args.program.now s ≡ false) c.items-states.result.now c.args.program.now.states c.loop-i.i c.index-states-i.result c.items-states.ensures c.loop-i-test.true c.loop-i.invariant
    (λ wrong. false≢true (sym wrong ∙ ap (is_state c.args.program.now) (sym c.index-states-i.is) ∙ (sym c.is_state.ensures ∙ c.if-not-is_state.false)))

pub returns : goal.returns
returns c = least-all (λ s. is_state c.args.program.now s ≡ false) c.items-states.result.now c.args.program.now.states c.loop-i.i c.items-states.ensures c.loop-i-test.false c.loop-i.invariant
