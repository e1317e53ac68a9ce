use Rattle.pp_event.specs.Run.{move}
use Rattle.pp_event.proofs.ChainLaws.{one_result}
use Rattle.pp_program.specs.declared.fault.VerifyRule.TheVariants.{Loop}
use Rattle.pp_program.specs.States.{program_turn}
use Rattle.pp_program.proofs.ValidLaws.{loop-rule, has-run, no-return}
use Rattle.pp_program.proofs.laws.one_run.Goals as goal

pub returns : goal.returns
returns c = record {
  run = λ p values bytes oracle resumes valid bounded are. has-run p ((loop-rule p).1 (valid Loop)) values bytes oracle resumes bounded are;
  only = λ p values bytes oracle resumes r q valid a b. one_result (move (program_turn p) oracle) _ r q a b;
  once = λ p values bytes oracle resumes n valid bounded are. no-return p ((loop-rule p).1 (valid Loop)) values bytes oracle resumes n bounded are;
}
