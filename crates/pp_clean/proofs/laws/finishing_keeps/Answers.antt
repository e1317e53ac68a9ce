use Rattle.pp_clean.proofs.FinishedLaws.{finished_keeps}
use Rattle.pp_clean.proofs.ResultLaws.{finished_is}
use Rattle.pp_clean.proofs.laws.finishing_keeps.Goals as goal

pub returns-clause-keeps : goal.returns-clause-keeps
returns-clause-keeps c p h = finished_keeps p h

pub returns-clause-form : goal.returns-clause-form
returns-clause-form c p h = finished_is p h
