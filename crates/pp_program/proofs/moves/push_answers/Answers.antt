use Rattle.pp_program.proofs.FlowLemmas.{answers-more}
use Rattle.pp_program.proofs.moves.push_answers.Goals as goal

pub loop-answer-preserved : goal.loop-answer-preserved
loop-answer-preserved c = answers-more _ _ _ c.args.answers.now c.loop-answer.answer-index _ c.loop-answer-test.true c.loop-answer.invariant c.in_ok-push_free.ensures
