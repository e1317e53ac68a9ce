use Rattle.std.proofs.Common.{◌≡◌, take, sym, arith}
use Rattle.std.proofs.lemmas.List.{take_all}
use Rattle.std.proofs.lemmas.List.Elements.{All-more, All-same}
use Rattle.pp_graph.specs.Ranges.{AnswerInRange}
use Rattle.pp_graph.proofs.ranges.answers_fit.Goals as goal

pub loop-answer-preserved : goal.loop-answer-preserved
loop-answer-preserved c =
    All-more AnswerInRange c.args.answers.now c.loop-answer.answer-index _ (omega arith) c.loop-answer.invariant c.answer_fits.ensures

pub returns : goal.returns
returns c =
    let done : take c.loop-answer.answer-index c.args.answers.now ≡ c.args.answers.now = take_all c.loop-answer.answer-index c.args.answers.now (omega arith) in
    All-same AnswerInRange c.args.answers.now (take c.loop-answer.answer-index c.args.answers.now) (sym done) c.loop-answer.invariant
