use Rattle.pp_event.proofs.RunLaws.{keeps_for}
use Rattle.pp_event.proofs.laws.ended_for_good.Goals as goal

pub returns : goal.returns
returns c turn oracle s more r steady h = keeps_for turn oracle steady h.0 s more r h.1
