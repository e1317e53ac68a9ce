-- The lines of one connection.
use Rattle.std.specs.Prelude.{◌≡◌, ℕ, ◌<◌, List, [], ◌∷◌, ◌++◌, ◌==◌, filter}
use Rattle.pp_capture.specs.Spelling.{Record}
use Rattle.pp_trace.specs.declared.mode.Mode.{Mode}
use Rattle.pp_trace.specs.Lines.{Line}
use Rattle.pp_trace.specs.Report.{own, lines_of, last_lines, numbered, report_lines}
use Rattle.pp_trace.specs.Subject.{Subject}

-- the lines of this connection
abbrev pub of_connection : ℕ → List (ℕ × Line) → List (ℕ × Line)
of_connection n lines = filter (λ line. line.0 == n) lines

module _ (subject : Subject) (mode : Mode) (limit : ℕ) where
  -- the lines of those of a connection's records that come behind others
  abbrev pub own_lines_after : List Record → List Record → List Line
  own_lines_after before [] = []
  own_lines_after before (rec ∷ later) = lines_of subject mode limit before rec ++ own_lines_after (before ++ rec ∷ []) later

  -- the report of a connection, by its own records alone
  abbrev pub own_report : List Record → List Line
  own_report records = own_lines_after [] records ++ last_lines subject mode limit records

  -- the lines of a connection in the report are those that its own records give
  abbrev pub GivesItsOwn : Type 0
  GivesItsOwn = (n : ℕ) (list : List Record) → n < 256 → of_connection n (report_lines subject mode limit list) ≡ numbered n (own_report (own n list))

  -- two lists with the same records of a connection give the same lines of it
  abbrev pub IsIsolated : Type 0
  IsIsolated = (n : ℕ) (xs ys : List Record) → n < 256 → own n xs ≡ own n ys →
      of_connection n (report_lines subject mode limit xs) ≡ of_connection n (report_lines subject mode limit ys)
