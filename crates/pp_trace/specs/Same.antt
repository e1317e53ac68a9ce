-- Two machines of which a report shows the same.
use Rattle.std.specs.Prelude.{◌≡◌, ℕ, List}
use Rattle.pp_event.specs.declared.script.ScriptEntry.{ScriptEntry}
use Rattle.pp_event.specs.Answers.{by_script}
use Rattle.pp_event.specs.Run.{RunResult, RunEnds}
use Rattle.pp_trace.specs.Subject.{Meaning, seen}

-- each run of the first is matched by one of the second that shows the same
abbrev pub ShowsTheSame : Meaning → Meaning → Type 0
ShowsTheSame m n = (values : List ℕ) (script : List ScriptEntry) (bytes : List ℕ) (resumes : ℕ) (r : RunResult) →
    RunEnds m.turn (by_script script) (m.start values) bytes resumes r →
    (q : RunResult) × RunEnds n.turn (by_script script) (n.start values) bytes resumes q × (seen m r ≡ seen n q)
