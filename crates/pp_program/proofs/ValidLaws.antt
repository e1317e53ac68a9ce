-- A program without a loop has a run on each string of bytes, which comes to no state twice at one place.
use Rattle.std.proofs.Common.{◌↔◌, ℕ, List, length, map, refl, inl, inr}
use Rattle.pp_event.specs.Chain.{stages}
use Rattle.pp_event.specs.Loops.{AreBytes, NoneTwice, stand}
use Rattle.pp_event.specs.Run.{Oracle, RunResult, move, start}
use Rattle.pp_event.specs.Runs.{IsBounded}
use Rattle.pp_event.proofs.LoopLaws.{none_twice}
use Rattle.pp_event.proofs.ReturnLaws as run
use Rattle.pp_program.specs.declared.fault.VerifyRule.TheVariants.{Loop}
use Rattle.pp_program.specs.declared.program.Program.{Program}
use Rattle.pp_program.specs.Moves.{IsLoopFree, program_moves}
use Rattle.pp_program.specs.States.{program_turn, program_entry, ProgramMeans}
use Rattle.pp_program.specs.Valid.{Holds}
use Rattle.pp_program.proofs.StateTurns.{program-steady, program-placed, program-elsewhere}

-- the rule on loops holds exactly where there is no loop
pub loop-rule : (p : Program) → IsLoopFree p ↔ Holds p Loop
loop-rule p = (
  (λ free at cycle. free cycle.0 at cycle.1.size cycle.1.reached cycle.1.way),
  (λ holds b node n reached way. holds node (b, record { reached = reached; size = n; way = way })),
)

-- its runs end
pub has-run : (p : Program) → IsLoopFree p → (values bytes : List ℕ) (oracle : Oracle) (resumes : ℕ) → IsBounded oracle → AreBytes bytes →
    (r : RunResult) × ProgramMeans p values bytes oracle resumes r
has-run p free values bytes oracle resumes bounded are =
    elim (run.run_or_return (program_turn p) (program-steady p) (program-placed p) (length p.states) (program-elsewhere p) oracle (start (program_entry p values) bytes resumes)) [
      | inl e ↦ (e.0, (e.1.moves_made, e.1.ended))
      | inr back ↦ absurd (run.never_returns (program_moves p) free (program-steady p) (program-placed p) oracle bounded (program_entry p values) bytes resumes refl are back.0 back.1)
    ]

-- and come to no state twice at one place
pub no-return : (p : Program) → IsLoopFree p → (values bytes : List ℕ) (oracle : Oracle) (resumes n : ℕ) → IsBounded oracle → AreBytes bytes →
    NoneTwice (map stand (stages (move (program_turn p) oracle) n (start (program_entry p values) bytes resumes)))
no-return p free values bytes oracle resumes n bounded are =
    none_twice (program_moves p) free (program-steady p) (program-placed p) oracle bounded n (program_entry p values) bytes resumes refl are
