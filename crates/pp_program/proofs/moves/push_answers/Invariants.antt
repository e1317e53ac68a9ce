use Rattle.std.proofs.Common.{take}
use Rattle.pp_program.specs.steps.Ends.{AnswerEnds}
use Rattle.pp_flow.specs.Rows.{Rowed}
use Rattle.pp_program.proofs.moves.push_answers.Given as goal

abbrev pub invariant-loop-answer : goal.invariant-loop-answer
invariant-loop-answer l = Rowed l.fn.flow l.flow (AnswerEnds (take l.answer-index l.answers))
