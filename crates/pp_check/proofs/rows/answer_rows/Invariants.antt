use Rattle.std.proofs.Common.{take}
use Rattle.pp_check.specs.steps.Ends.{AnswerEnds}
use Rattle.pp_flow.specs.Rows.{Adds}
use Rattle.pp_check.proofs.rows.answer_rows.Given as goal

abbrev pub invariant-loop-place : goal.invariant-loop-place
invariant-loop-place l = Adds l.from l.fn.rows.items l.rows.items (AnswerEnds (take l.place l.answers) l.other)
