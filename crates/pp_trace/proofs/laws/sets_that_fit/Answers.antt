use Rattle.pp_trace.proofs.FaultLaws.{sets_fit}
use Rattle.pp_trace.proofs.laws.sets_that_fit.Goals as goal

pub returns : goal.returns
returns c = sets_fit
