use Rattle.pp_event.proofs.RunLaws.{onward}
use Rattle.pp_event.proofs.laws.goes_on.Goals as goal

pub returns : goal.returns
returns c turn oracle s more r q steady resumable h = onward turn oracle steady resumable s more r q h
