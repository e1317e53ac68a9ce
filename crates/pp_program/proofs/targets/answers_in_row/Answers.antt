use Rattle.std.proofs.Common.{sym, ◌∙◌}
use Rattle.pp_program.specs.Targets.{answer_follows}
use Rattle.pp_program.proofs.LeastLemmas.{row-more, row-all}
use Rattle.pp_program.proofs.targets.answers_in_row.Goals as goal

pub loop-i-preserved : goal.loop-i-preserved
loop-i-preserved c =
    row-more answer_follows c.args.answers.now c.loop-i.i _ _ c.loop-i.auto.i c.loop-i-test.true c.loop-i.invariant (sym c.answer_follows.ensures ∙ c.if-not-answer_follows.false)

pub returns : goal.returns
returns c = row-all answer_follows c.args.answers.now c.loop-i.i c.loop-i.auto.i c.loop-i-test.false c.loop-i.invariant
