use Rattle.pp_event.proofs.RunLaws.{prefix}
use Rattle.pp_mean.specs.Mean.{entry_with}
use Rattle.pp_mean.specs.Nodes.{graph_turn}
use Rattle.pp_mean.proofs.SteadyLaws.{graph-steady}
use Rattle.pp_mean.proofs.laws.longer_strings.Goals as goal

pub returns : goal.returns
returns c g values bytes more oracle resumes r q p h =
    prefix (graph_turn g) oracle (graph-steady g) (entry_with g values) bytes more resumes r q p h
