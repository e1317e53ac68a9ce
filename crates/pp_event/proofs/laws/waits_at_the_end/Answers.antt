use Rattle.pp_event.proofs.PlaceLaws.{waits_at_end}
use Rattle.pp_event.proofs.laws.waits_at_the_end.Goals as goal

pub returns : goal.returns
returns c turn oracle s r h e = waits_at_end turn oracle s r h e
