use Rattle.pp_event.proofs.RunLaws.{prefix}
use Rattle.pp_program.specs.States.{program_turn, program_entry}
use Rattle.pp_program.proofs.StateTurns.{program-steady}
use Rattle.pp_program.proofs.laws.longer_strings.Goals as goal

pub returns : goal.returns
returns c p values bytes more oracle resumes r q a b =
    prefix (program_turn p) oracle (program-steady p) (program_entry p values) bytes more resumes r q a b
