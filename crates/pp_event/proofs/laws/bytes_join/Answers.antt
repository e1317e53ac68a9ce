use Rattle.pp_event.proofs.JoinerLaws.{bytes_taken-new}
use Rattle.pp_event.proofs.laws.bytes_join.Goals as goal

pub returns : goal.returns
returns c log span h = bytes_taken-new log span h
