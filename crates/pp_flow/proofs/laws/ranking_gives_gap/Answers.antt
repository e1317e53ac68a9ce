use Rattle.pp_flow.proofs.RankingLemmas.{gives_gap}
use Rattle.pp_flow.proofs.laws.ranking_gives_gap.Goals as goal

pub returns : goal.returns
returns c moves entry gap rank table most met = gives_gap moves entry gap rank table most met
