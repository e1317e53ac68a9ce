-- The report of a graph or a program, by its runs.
use Rattle.std.specs.Prelude.{◌≡◌, ℕ, List}
use Rattle.pp_capture.specs.Spelling.{Record}
use Rattle.pp_program.specs.declared.program.Program.{Program}
use Rattle.pp_trace.specs.declared.mode.Mode.{Mode}
use Rattle.pp_trace.specs.Programs.{program_meaning, program_subject}
use Rattle.pp_trace.specs.Report.{report}
use Rattle.pp_trace.specs.Subject.{Meaning, SeenRuns, AreRunsOf, Subject}

-- how many bytes a connection may hold
abbrev pub held_limit : ℕ
held_limit = 16777216

-- there are runs, and whatever the runs are, the report of these records by them is these bytes
pub record IsReport (m : Meaning) (subject : SeenRuns → Subject) (mode : Mode) (list : List Record) (bytes : List ℕ) : Type 0 where
  pub runs : (run : SeenRuns) × AreRunsOf m run
  pub by_runs : (run : SeenRuns) → AreRunsOf m run → bytes ≡ report (subject run) mode held_limit list

-- the report of a program
abbrev pub IsProgramReport : Program → Mode → List Record → List ℕ → Type 0
IsProgramReport p mode list bytes = IsReport (program_meaning p) (program_subject p) mode list bytes
