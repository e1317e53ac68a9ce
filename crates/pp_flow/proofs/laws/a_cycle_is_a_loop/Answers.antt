use Rattle.std.proofs.Common.{get_or}
use Rattle.pp_flow.proofs.RankingLemmas.{cycle_is}
use Rattle.pp_flow.proofs.laws.a_cycle_is_a_loop.Goals as goal

pub returns : goal.returns
returns c moves entry b cycle round r free = free b (get_or cycle 0 0) (cycle_is moves entry b cycle round r)
