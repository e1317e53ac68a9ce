use Rattle.pp_mean.proofs.ReturnLaws.{ends_once, never_back}
use Rattle.pp_mean.proofs.laws.one_run.Goals as goal

pub returns : goal.returns
returns c = record { run = λ x free bounded bytes. ends_once x free bounded bytes; once = λ x free bounded bytes node byte b. never_back x free bounded bytes node byte b }
