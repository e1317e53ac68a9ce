use Rattle.pp_flow.proofs.RankingLemmas.{way_falls}
use Rattle.pp_flow.proofs.laws.ways_fall.Goals as goal

pub returns : goal.returns
returns c moves entry b rank table node n end r w = way_falls moves entry b rank table r w
