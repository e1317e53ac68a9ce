-- How a connection stands after some of its records.
use Rattle.std.specs.Prelude.{ℕ, ◌+◌, List, [], ◌++◌, Bool, false}
use Rattle.pp_capture.specs.Spelling.{Record, Begins, Carries, Resumes, Finishes, Halts}
use Rattle.pp_event.specs.declared.script.ScriptEntry.{ScriptEntry}
use Rattle.pp_event.specs.Pieces.{Ask}
use Rattle.pp_event.specs.Run.{Finish, Waiting, Paused, Failed}
use Rattle.pp_trace.specs.Subject.{Subject, Seen}

-- the values that it began with and its script; its string and its resumes so far, and the run on them; what was asked
-- in all its feeds and at its finish; whether it is done
pub record Connection : Type 0 where
  pub values : List ℕ
  pub script : List ScriptEntry
  pub bytes : List ℕ
  pub resumes : ℕ
  pub run : Seen
  pub asked : List Ask
  pub done : Bool

-- before the first feed there are no items, and the place is 0
abbrev pub unrun : List ℕ → Seen
unrun values = record { items = []; finish = Waiting; node = []; reason = []; at = 0; values = values; spans = [] }

-- before the empty feed of its Begin record
abbrev pub unfed : List ℕ → List ScriptEntry → Connection
unfed values script = record { values = values; script = script; bytes = []; resumes = 0; run = unrun values; asked = []; done = false }

-- the bytes that a record brings
abbrev pub carried : Record → List ℕ
carried (Begins conn sets script) = []
carried (Carries conn part) = part
carried (Resumes conn) = []
carried (Finishes conn) = []
carried Halts = []

-- how many resumes a Resume record counts for: one where the run so far is paused
abbrev pub counted : Finish → ℕ
counted Waiting = 0
counted (Paused code) = 1
counted (Failed code) = 0

-- how many resumes a record counts for
abbrev pub resumed : Finish → Record → ℕ
resumed finish (Begins conn sets script) = 0
resumed finish (Carries conn part) = 0
resumed finish (Resumes conn) = counted finish
resumed finish (Finishes conn) = 0
resumed finish Halts = 0

-- the string, the resumes and the run with one record more, where the connection isn't done
abbrev pub advanced : Subject → Connection → Record → Connection
advanced subject c rec =
    let bytes = c.bytes ++ carried rec in
    let resumes = c.resumes + resumed c.run.finish rec in
    record c { bytes = bytes; resumes = resumes; run = subject.run c.values c.script bytes resumes }
