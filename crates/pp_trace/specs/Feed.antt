-- What a feed makes of a connection, and its lines.
use Rattle.std.specs.Prelude.{ℕ, List, [], ◌∷◌, ◌++◌, Option, Some, None, Bool, true, false, drop, flat_map, length, slice_range}
use Rattle.pp_event.specs.declared.item.Item.{Item}
use Rattle.pp_event.specs.declared.item.Item.TheVariants as item
use Rattle.pp_event.specs.Pieces.{Ask, AskCall, AskPiece, asks}
use Rattle.pp_event.specs.Run.{Finish, Waiting, Paused, Failed}
use Rattle.pp_trace.specs.declared.mode.Mode.{Mode}
use Rattle.pp_trace.specs.declared.mode.Mode.TheVariants.{Joined, Raw}
use Rattle.pp_trace.specs.Connection.{Connection}
use Rattle.pp_trace.specs.Heard.{heard}
use Rattle.pp_trace.specs.Lines.{Line, CallLine, SpanLine, MoreLine, LastLine, PauseLine, ErrorLine, StopLine}

-- a connection behind a record, or behind a part of what a record does, and the lines so far
pub record Step : Type 0 where
  pub connection : Connection
  pub lines : List Line

-- with these lines more
abbrev pub tells : Step → List Line → Step
tells s lines = record { connection = s.connection; lines = s.lines ++ lines }

-- with the last lines of the connection, which is done by them
abbrev pub closes : Step → List Line → Step
closes s lines = record { connection = record s.connection { done = true }; lines = s.lines ++ lines }

-- The line of a piece of a span in the string: raw it has the piece's own bytes. Joined it has those from where the span was
-- opened, once the span is closed.
abbrev pub piece_lines : List ℕ → (span from at to : ℕ) → Mode → Bool → List Line
piece_lines bytes span from at to Raw false = MoreLine span at (slice_range bytes at to) ∷ []
piece_lines bytes span from at to Raw true = LastLine span at (slice_range bytes at to) ∷ []
piece_lines bytes span from at to Joined false = []
piece_lines bytes span from at to Joined true = SpanLine span from (slice_range bytes from to) ∷ []

-- the line of a question
abbrev pub ask_lines : Mode → List ℕ → Ask → List Line
ask_lines mode bytes (AskCall code value at values answer) = CallLine code value at answer values ∷ []
ask_lines mode bytes (AskPiece span from at to last) = piece_lines bytes span from at to mode last

-- the line of a pause with this reason, and none of another item
abbrev pub pause_lines : List ℕ → Item → List Line
pause_lines reason (item.Call code value at values answer) = []
pause_lines reason (item.Span span from to) = []
pause_lines reason (item.Pause code at) = PauseLine code at reason ∷ []

-- an error is the end of the connection
abbrev pub error_end : Finish → Step → Step
error_end Waiting s = s
error_end (Paused code) s = s
error_end (Failed code) s = closes s (ErrorLine code s.connection.run.at s.connection.run.reason ∷ [])

-- the pauses among these items and the error, unless a piece stopped the connection
abbrev pub feed_end : List Item → Option (ℕ × ℕ) → Step → Step
feed_end news (Some stop) s = closes s (StopLine stop.0 stop.1 ∷ [])
feed_end news None s = error_end s.connection.run.finish (tells s (flat_map (pause_lines s.connection.run.reason) news))

-- From the connection before to the one that a record advanced: the items of its run beyond those of the run before, and
-- what is asked in a feed that begins at the place of the run before and gives these items.
abbrev pub fed : Mode → Connection → Connection → Step
fed mode c d =
    let news = drop (length c.run.items) d.run.items in
    let h = heard c.script c.asked (asks news c.run.at d.run.finish d.run.at d.run.spans) in
    feed_end news h.stop (record {
      connection = record d { asked = c.asked ++ h.asks };
      lines = flat_map (ask_lines mode d.bytes) h.asks;
    })
