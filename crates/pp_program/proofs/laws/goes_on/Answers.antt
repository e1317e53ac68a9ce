use Rattle.pp_event.specs.Run.{start}
use Rattle.pp_event.proofs.RunLaws.{onward}
use Rattle.pp_program.specs.States.{program_turn, program_entry}
use Rattle.pp_program.proofs.StateTurns.{program-steady, program-resumable}
use Rattle.pp_program.proofs.laws.goes_on.Goals as goal

pub returns : goal.returns
returns c p values bytes more oracle resumes r q h =
    onward (program_turn p) oracle (program-steady p) (program-resumable p) (start (program_entry p values) bytes resumes) more r q h
