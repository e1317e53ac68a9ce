use Rattle.pp_event.proofs.RunLaws.{one_more_resume as once}
use Rattle.pp_event.proofs.laws.one_more_resume.Goals as goal

pub returns : goal.returns
returns c turn oracle s r q h = once turn oracle s r q h
