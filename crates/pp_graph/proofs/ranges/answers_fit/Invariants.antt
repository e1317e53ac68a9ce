use Rattle.std.proofs.Common.{take}
use Rattle.std.specs.Prelude.{All}
use Rattle.pp_graph.specs.Ranges.{AnswerInRange}
use Rattle.pp_graph.proofs.ranges.answers_fit.Given as goal

abbrev pub invariant-loop-answer : goal.invariant-loop-answer
invariant-loop-answer l = All AnswerInRange (take l.answer-index l.answers)
