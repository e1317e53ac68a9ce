use Rattle.pp_event.proofs.AgreeLaws.{agree_for}
use Rattle.pp_event.proofs.laws.same_answers.Goals as goal

pub returns : goal.returns
returns c turn one other s r honest h = (h.0, agree_for turn one other h.0 s r honest h.1)
