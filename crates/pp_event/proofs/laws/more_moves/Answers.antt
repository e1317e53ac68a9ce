use Rattle.pp_event.specs.Run.{move}
use Rattle.pp_event.proofs.ChainLaws.{more_moves as more}
use Rattle.pp_event.proofs.laws.more_moves.Goals as goal

pub returns : goal.returns
returns c turn oracle k n s r h = more (move turn oracle) k n s r h
