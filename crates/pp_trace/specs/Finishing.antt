-- What a Finish record makes of a connection.
use Rattle.std.specs.Prelude.{ℕ, zero, suc, [], ◌∷◌, ◌++◌, Option, Some, None, codes, slice_index}
use Rattle.pp_capture.specs.Spelling.{Record, Begins, Carries, Resumes, Finishes, Halts}
use Rattle.pp_event.specs.Pieces.{AskCall}
use Rattle.pp_event.specs.Run.{Finish, Waiting, Paused, Failed}
use Rattle.pp_trace.specs.declared.mode.Mode.{Mode}
use Rattle.pp_trace.specs.Feed.{Step, tells, closes}
use Rattle.pp_trace.specs.Lines.{CallLine, DoneLine, RefusedLine, ErrorLine}
use Rattle.pp_trace.specs.Script.{call_answer}
use Rattle.pp_trace.specs.Standing.{part_lines, standing}

-- the finish is granted
abbrev pub all_done : Mode → Step → Step
all_done mode s = closes s (part_lines mode s.connection ++ DoneLine s.connection.run.at s.connection.run.values ∷ [])

-- by the answer of the finish rule's host code: 0 grants it
abbrev pub finish_answered : Mode → Step → ℕ → Step
finish_answered mode s zero = all_done mode s
finish_answered mode s (suc n) =
    closes s (part_lines mode s.connection ++ RefusedLine (suc n) s.connection.run.at s.connection.run.values ∷ [])

-- the finish call with its answer, and its line
abbrev pub asks_finish : Step → ℕ → ℕ → Step
asks_finish s host answer = record {
  connection = record s.connection { asked = s.connection.asked ++ AskCall host 0 s.connection.run.at s.connection.run.values answer ∷ [] };
  lines = s.lines ++ CallLine host 0 s.connection.run.at answer s.connection.run.values ∷ [];
}

-- the answer to the finish call, which is the next question to its code
abbrev pub finish_answer : Step → ℕ → ℕ
finish_answer s host = call_answer s.connection.script s.connection.asked host

-- by the value of the finish rule's property: 0 grants it, 1 asks the host code, and above the input may not end
abbrev pub finish_at : Mode → Step → ℕ → ℕ → Step
finish_at mode s host zero = all_done mode s
finish_at mode s host (suc zero) = finish_answered mode (asks_finish s host (finish_answer s host)) (finish_answer s host)
finish_at mode s host (suc (suc n)) = closes s (ErrorLine 14 s.connection.run.at (codes "Invalid EOF state") ∷ [])

-- by the finish rule, a property and a host code, if there is one
abbrev pub finish_by : Mode → Step → Option (ℕ × ℕ) → Step
finish_by mode s None = all_done mode s
finish_by mode s (Some rule) = finish_at mode s rule.1 (slice_index s.connection.run.values rule.0)

-- by how the run stands: while it is paused only that is told
abbrev pub finished : Mode → Option (ℕ × ℕ) → Step → Finish → Step
finished mode rule s Waiting = finish_by mode s rule
finished mode rule s (Paused code) = tells s (standing mode s.connection (Paused code))
finished mode rule s (Failed code) = s

-- the finish of a record, which only a Finish record has
abbrev pub finish_step : Mode → Option (ℕ × ℕ) → Step → Record → Step
finish_step mode rule s (Begins conn sets script) = s
finish_step mode rule s (Carries conn part) = s
finish_step mode rule s (Resumes conn) = s
finish_step mode rule s (Finishes conn) = finished mode rule s s.connection.run.finish
finish_step mode rule s Halts = s
