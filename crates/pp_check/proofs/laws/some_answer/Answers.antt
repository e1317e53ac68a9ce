use Rattle.pp_check.proofs.SomeAnswerLemmas.{some_answer, some_gap, some_masks}
use Rattle.pp_check.proofs.laws.some_answer.Goals as goal

pub returns-clause-answer : goal.returns-clause-answer
returns-clause-answer c g = some_answer g

pub returns-clause-gap : goal.returns-clause-gap
returns-clause-gap c g free = some_gap g free

pub returns-clause-masks : goal.returns-clause-masks
returns-clause-masks c g = some_masks g
