use Rattle.std.proofs.Common.{sym, ◌∙◌, ◌≡◌, true}
use Rattle.std.proofs.lemmas.Bool.{false≢true}
use Rattle.pp_program.specs.Widths.{is_wide_instr}
use Rattle.pp_program.proofs.LeastLemmas.{least-more, least-all}
use Rattle.pp_program.proofs.widths.first_wide_state.Goals as goal

pub loop-i-preserved : goal.loop-i-preserved
loop-i-preserved c =
    least-more (λ s. is_wide_instr c.args.program.now s.instr ≡ true) c.items-states.result.now c.args.program.now.states c.loop-i.i _ c.items-states.ensures c.loop-i-test.true c.loop-i.invariant
    (λ wide. false≢true (sym c.if-is_wide_instr.false ∙ (c.is_wide_instr.ensures ∙ wide)))

pub returns : goal.returns
returns c = least-all (λ s. is_wide_instr c.args.program.now s.instr ≡ true) c.items-states.result.now c.args.program.now.states c.loop-i.i c.items-states.ensures c.loop-i-test.false c.loop-i.invariant
