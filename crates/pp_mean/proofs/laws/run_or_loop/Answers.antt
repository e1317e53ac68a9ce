use Rattle.pp_mean.proofs.ReturnLaws.{ends_or_comes_back, not_both}
use Rattle.pp_mean.proofs.laws.run_or_loop.Goals as goal

pub returns : goal.returns
returns c = record { some = λ x. ends_or_comes_back x; one = λ x r node byte e b. not_both x r node byte e b }
