-- What is written so far and what is left give the whole.
use Rattle.std.proofs.Common.{◌≡◌, ◌++◌, drop, flat_map}
use Rattle.pp_file.specs.Spelling.{spelled_answer}
use Rattle.pp_file.proofs.writing.put_each_answer.Given as goal

abbrev pub invariant-loop-answer : goal.invariant-loop-answer
invariant-loop-answer l = l.out.items ++ flat_map spelled_answer (drop l.answer-index l.answers) ≡ l.fn.out.items ++ flat_map spelled_answer l.answers
