-- How a command stops, and the pieces of its line.
use Rattle.std.specs.Prelude.{ℕ, List, [], ◌++◌, Result, Ok, Err, codes, decimal, flat_map}
use Rattle.std.specs.Borrow.{Bor}
use Rattle.pp_outside.specs.Faults.{Rose}
use Rattle.pp_text.specs.declared.fault.TextFault.{TextFault}
use Rattle.pp_text.specs.declared.fault.TextFault.TheVariants as fault
use Rattle.pp_tool.specs.declared.refusal.GraphReason.TheVariants as graph
use Rattle.pp_tool.specs.declared.refusal.Refusal.{Refusal}
use Rattle.pp_tool.specs.declared.refusal.Refusal.TheVariants as refusal
use Rattle.pp_tool.specs.declared.stop.Stop.{Stop}
use Rattle.pp_tool.specs.declared.stop.Stop.TheVariants as stop
use Rattle.pp_tool.specs.declared.status.Status.{Status}
use Rattle.pp_tool.specs.declared.status.Status.TheVariants as status
use Rattle.pp_tool.specs.Answers.{stop_status, stop_line}

-- the status of what was done
abbrev pub status_after : Result (Unit {0}) Stop → Status
status_after (Ok done) = status.Ok
status_after (Err s) = stop_status s

-- nothing is told where all went well
abbrev pub line_after : Result (Unit {0}) Stop → List ℕ
line_after (Ok done) = []
line_after (Err s) = stop_line s

-- a text that is refused
abbrev pub stop_of : TextFault → Stop
stop_of (fault.Syntax line) = stop.Refused (refusal.Graph (graph.WrongLine line))
stop_of fault.TooLong = stop.Refused (refusal.Graph graph.LongLine)
stop_of (fault.Graph line rule) = stop.Refused (refusal.Graph (graph.BrokenRule line rule))
stop_of fault.NoMemory = stop.NoMemory

-- what is wrong at a line of the text
abbrev pub line_with : ℕ → List ℕ → List ℕ
line_with line text = codes "graph: line " ++ decimal line ++ codes ": " ++ text ++ codes "\n"

-- the bytes of slices, joined
abbrev pub concat_slices : List (Bor (List ℕ)) → List ℕ
concat_slices pieces = flat_map (λ piece. piece.now) pieces

-- a function that reads and writes nothing stops so: by a read fault only where the count of faults rose, and by those
-- refusals alone that it can come to
abbrev pub StopsReading : (Refusal → Type 0) → ℕ → ℕ → Stop → Type 0
StopsReading Can old new (stop.Refused why) = Can why
StopsReading Can old new stop.ReadFault = Rose old new
StopsReading Can old new stop.WriteFault = ⊥
StopsReading Can old new stop.NoMemory = Unit {0}

-- it fails by the source or by memory alone
abbrev pub FailsReading : ℕ → ℕ → Stop → Type 0
FailsReading = StopsReading (λ why. ⊥)

-- a function that neither reads nor writes stops so
abbrev pub IsQuiet : Stop → Type 0
IsQuiet (stop.Refused why) = Unit {0}
IsQuiet stop.ReadFault = ⊥
IsQuiet stop.WriteFault = ⊥
IsQuiet stop.NoMemory = Unit {0}

-- nothing is refused: the outside or memory fails
abbrev pub IsNoRefusal : Stop → Type 0
IsNoRefusal (stop.Refused why) = ⊥
IsNoRefusal stop.ReadFault = Unit {0}
IsNoRefusal stop.WriteFault = Unit {0}
IsNoRefusal stop.NoMemory = Unit {0}
