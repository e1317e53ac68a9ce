-- The script of a connection, and what it answers to the questions of a feed.
use Rattle.std.specs.Prelude.{ℕ, ◌-◌, List, Bool, false, map, count_by, nat_lt, ◌==◌, if◌then◌else◌}
use Rattle.pp_event.specs.declared.script.ScriptEntry.{ScriptEntry}
use Rattle.pp_event.specs.declared.script.ScriptTo.{ScriptTo}
use Rattle.pp_event.specs.declared.script.ScriptTo.TheVariants.{Code, Span}
use Rattle.pp_event.specs.Pieces.{Ask, AskCall, AskPiece}
use Rattle.pp_event.specs.Script.{answer_in}

-- whom an entry of a Begin record answers: below 128 the host code of this number, else the span of this number less 128
abbrev pub target_of : ℕ → ScriptTo
target_of to = if nat_lt to 128 then Code to else Span (to - 128)

-- an entry of a Begin record
abbrev pub entry_of : ℕ × ℕ → ScriptEntry
entry_of pair = record { to = target_of pair.0; answer = pair.1 }

-- the script of a Begin record
abbrev pub script_of : List (ℕ × ℕ) → List ScriptEntry
script_of pairs = map entry_of pairs

-- a question calls this host code
abbrev pub asks_code : ℕ → Ask → Bool
asks_code host (AskCall code value at values answer) = code == host
asks_code host (AskPiece span from at to last) = false

-- a question is a piece of this span
abbrev pub asks_span : ℕ → Ask → Bool
asks_span n (AskCall code value at values answer) = false
asks_span n (AskPiece span from at to last) = span == n

-- the answer to a piece, which is the next question behind these. A call has its answer already, and stops nothing.
abbrev pub piece_answer : List ScriptEntry → List Ask → Ask → ℕ
piece_answer script before (AskCall code value at values answer) = 0
piece_answer script before (AskPiece span from at to last) = answer_in script (Span span) (count_by (asks_span span) before)

-- the answer to a call of this code, which is the next question behind these
abbrev pub call_answer : List ScriptEntry → List Ask → ℕ → ℕ
call_answer script before code = answer_in script (Code code) (count_by (asks_code code) before)
