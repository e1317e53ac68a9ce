use Rattle.pp_event.proofs.JoinerLaws.{items_taken-new}
use Rattle.pp_event.proofs.laws.takes_join.Goals as goal

pub returns : goal.returns
returns c log = items_taken-new log
