use Rattle.pp_event.specs.Run.{move}
use Rattle.pp_mean.specs.Nodes.{graph_turn}
use Rattle.pp_event.proofs.ChainLaws.{one_result}
use Rattle.pp_mean.proofs.laws.at_most_one_run.Goals as goal

pub returns : goal.returns
returns c g values bytes oracle resumes r q a b = one_result (move (graph_turn g) oracle) _ r q a b
