-- The report of a list of records.
use Rattle.std.specs.Prelude.{ℕ, zero, suc, List, [], ◌∷◌, ◌++◌, Option, Some, None, Bool, true, false, ◌==◌, filter, flat_map, fold, length, map, option_map}
use Rattle.pp_capture.specs.Spelling.{Record, Begins, Carries, Resumes, Finishes, Halts}
use Rattle.pp_event.specs.Values.{values_of}
use Rattle.pp_trace.specs.declared.mode.Mode.{Mode}
use Rattle.pp_trace.specs.Connection.{Connection, unfed}
use Rattle.pp_trace.specs.Feed.{Step}
use Rattle.pp_trace.specs.Lines.{Line, text}
use Rattle.pp_trace.specs.Script.{script_of}
use Rattle.pp_trace.specs.Standing.{standing}
use Rattle.pp_trace.specs.Step.{step}
use Rattle.pp_trace.specs.Subject.{Subject}

-- the connection of a record; of a Halt none has this number
abbrev pub number_of : Record → ℕ
number_of (Begins conn sets script) = conn
number_of (Carries conn part) = conn
number_of (Resumes conn) = conn
number_of (Finishes conn) = conn
number_of Halts = 256

-- the records of one connection
abbrev pub own : ℕ → List Record → List Record
own n list = filter (λ rec. number_of rec == n) list

-- lines with the number of their connection
abbrev pub numbered : ℕ → List Line → List (ℕ × Line)
numbered n lines = map (λ line. (n, line)) lines

module _ (subject : Subject) (mode : Mode) (limit : ℕ) where
  -- a record of a connection that isn't begun: a Begin record begins it, and another one does nothing
  abbrev pub first_step : Record → Option Step
  first_step (Begins conn sets script) =
      Some (step subject mode limit (unfed (values_of (length subject.props) sets) (script_of script)) (Begins conn sets script))
  first_step (Carries conn part) = None
  first_step (Resumes conn) = None
  first_step (Finishes conn) = None
  first_step Halts = None

  -- a record of a connection that stands so, or isn't begun
  abbrev pub step_of : Option Connection → Record → Option Step
  step_of None rec = first_step rec
  step_of (Some c) rec = Some (step subject mode limit c rec)

  -- how it stands afterwards
  abbrev pub stands_after : Option Connection → Record → Option Connection
  stands_after c rec = option_map (λ s. s.connection) (step_of c rec)

  -- how a connection stands after its own records, if it is begun
  abbrev pub stands : List Record → Option Connection
  stands records = fold stands_after None records

  -- the lines of a step, if there is one
  abbrev pub lines_in : Option Step → List Line
  lines_in None = []
  lines_in (Some s) = s.lines

  -- the lines of a record behind these others of its connection
  abbrev pub lines_of : List Record → Record → List Line
  lines_of records rec = lines_in (step_of (stands records) rec)

  -- the lines of a connection at the end of the capture, if it is begun and not done
  abbrev pub standing_of : Option Connection → List Line
  standing_of None = []
  standing_of (Some c) = unless c.done
    where
      unless : Bool → List Line
      unless true = []
      unless false = standing mode c c.run.finish

  -- the lines of a connection at the end of the capture, behind its own records
  abbrev pub last_lines : List Record → List Line
  last_lines records = standing_of (stands records)

  -- the lines of a record behind all these others
  abbrev pub record_lines : List Record → Record → List (ℕ × Line)
  record_lines before rec = numbered (number_of rec) (lines_of (own (number_of rec) before) rec)

  -- the lines at the end of the capture, of so many connections from number n on
  abbrev pub halt_lines : List Record → ℕ → ℕ → List (ℕ × Line)
  halt_lines list n zero = []
  halt_lines list n (suc more) = numbered n (last_lines (own n list)) ++ halt_lines list (suc n) more

  -- the lines of the records that come behind others, in order
  abbrev pub lines_after : List Record → List Record → List (ℕ × Line)
  lines_after before [] = []
  lines_after before (rec ∷ later) = record_lines before rec ++ lines_after (before ++ rec ∷ []) later

  -- the lines of the records in order, and then those at the end of the capture, by connection
  abbrev pub report_lines : List Record → List (ℕ × Line)
  report_lines list = lines_after [] list ++ halt_lines list 0 256

  -- the report, byte for byte
  abbrev pub report : List Record → List ℕ
  report list = flat_map (text subject) (report_lines list)
