use Rattle.pp_trace.proofs.OrderLaws.{stands-begun}
use Rattle.pp_trace.proofs.laws.begun_by_begin.Goals as goal

pub returns : goal.returns
returns c subject mode limit n list = stands-begun subject mode limit n list
