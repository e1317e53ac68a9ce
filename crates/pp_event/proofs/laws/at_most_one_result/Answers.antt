use Rattle.pp_event.specs.Run.{move}
use Rattle.pp_event.proofs.ChainLaws.{one_result}
use Rattle.pp_event.proofs.laws.at_most_one_result.Goals as goal

pub returns : goal.returns
returns c turn oracle d bytes resumes r q a b = one_result (move turn oracle) _ r q a b
