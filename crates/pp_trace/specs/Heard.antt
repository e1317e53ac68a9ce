-- The questions of a feed, up to the first one that stops it.
use Rattle.std.specs.Prelude.{ℕ, zero, suc, List, [], ◌∷◌, ◌++◌, Option, Some, None}
use Rattle.pp_event.specs.declared.script.ScriptEntry.{ScriptEntry}
use Rattle.pp_event.specs.Pieces.{Ask, AskCall, AskPiece}
use Rattle.pp_trace.specs.Script.{piece_answer}

-- the questions that are asked, and the answer and the end of the piece that was answered otherwise than by 0, if one was
pub record Heard : Type 0 where
  pub asks : List Ask
  pub stop : Option (ℕ × ℕ)

-- where a question is asked: a piece at its end
abbrev pub end_of : Ask → ℕ
end_of (AskCall code value at values answer) = at
end_of (AskPiece span from at to last) = to

-- a question with this answer, and what is heard behind it
abbrev pub heard_first : Ask → ℕ → Heard → Heard
heard_first a zero later = record { asks = a ∷ later.asks; stop = later.stop }
heard_first a (suc n) later = record { asks = a ∷ []; stop = Some (suc n, end_of a) }

-- of these questions, which come behind the ones before, by the script
abbrev pub heard : List ScriptEntry → List Ask → List Ask → Heard
heard script before [] = record { asks = []; stop = None }
heard script before (a ∷ later) = heard_first a (piece_answer script before a) (heard script (before ++ a ∷ []) later)
