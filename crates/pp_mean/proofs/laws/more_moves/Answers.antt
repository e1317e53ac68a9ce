use Rattle.pp_event.specs.Run.{move}
use Rattle.pp_mean.specs.Nodes.{graph_turn}
use Rattle.pp_event.proofs.ChainLaws.{more_moves as more}
use Rattle.pp_mean.proofs.laws.more_moves.Goals as goal

pub returns : goal.returns
returns c g oracle k n s r h = more (move (graph_turn g) oracle) k n s r h
