use Rattle.pp_clean.proofs.LoweredLaws.{lowered_finishable}
use Rattle.pp_clean.proofs.MeaningLaws.{keeps_meaning_on}
use Rattle.pp_clean.proofs.laws.lowered_can_be_finished.Goals as goal

pub returns-clause-finishable : goal.returns-clause-finishable
returns-clause-finishable c = lowered_finishable

pub returns-clause-keeps : goal.returns-clause-keeps
returns-clause-keeps c = keeps_meaning_on
