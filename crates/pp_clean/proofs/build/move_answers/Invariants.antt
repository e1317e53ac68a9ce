use Rattle.std.proofs.Common.{◌≡◌, take, map, get_or}
use Rattle.pp_clean.specs.Map.{mapped_answer}
use Rattle.pp_clean.proofs.build.move_answers.Given as goal

abbrev pub invariant-loop-answer : goal.invariant-loop-answer
invariant-loop-answer l = l.out.items ≡ map (mapped_answer (λ t. get_or l.places t 0)) (take l.answer-index l.answers)
