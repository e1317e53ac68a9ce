use Rattle.pp_check.proofs.OneAnswerLemmas.{no_fault, one_loop, alike}
use Rattle.pp_check.proofs.laws.one_answer.Goals as goal

pub returns-clause-accepted : goal.returns-clause-accepted
returns-clause-accepted c g f some free fit h = some (no_fault g f free fit h)

pub returns-clause-loops : goal.returns-clause-loops
returns-clause-loops c g a b x y h k = one_loop g a b x y h k

pub returns-clause-faults : goal.returns-clause-faults
returns-clause-faults c g f h x y p q = alike g f h x y p q
