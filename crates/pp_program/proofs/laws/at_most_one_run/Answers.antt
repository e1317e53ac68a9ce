use Rattle.pp_event.specs.Run.{move}
use Rattle.pp_event.proofs.ChainLaws.{one_result}
use Rattle.pp_program.specs.States.{program_turn}
use Rattle.pp_program.proofs.laws.at_most_one_run.Goals as goal

pub returns : goal.returns
returns c p values bytes oracle resumes r q a b = one_result (move (program_turn p) oracle) _ r q a b
