-- What the bytes are, to each result of reading a text.
use Rattle.std.specs.Prelude.{◌≡◌, ℕ, ◌⊎◌, List, None, Result, Ok, Err, max}
use Rattle.pp_graph.specs.Plan.{Plan}
use Rattle.pp_rules.specs.Rules.{IsFirstFault}
use Rattle.pp_text.specs.declared.fault.TextFault.{TextFault}
use Rattle.pp_text.specs.declared.fault.TextFault.TheVariants as fault
use Rattle.pp_text.specs.Outcome.{Reads}
use Rattle.pp_text.specs.Text.{Told, limit, line_at}
use Rattle.pp_text.specs.steps.Rows.{IsOnly, Ended, WrongAt, Endless, Long, LinesAre}

-- what the lines come to, and nothing else, is what the result says; want of memory says nothing
abbrev pub Settles : List ℕ → Result (Plan × ℕ) TextFault → Type 0
Settles bytes (Ok r) = (told : Told) × (last : ℕ) × (rest : List ℕ) × IsOnly (LinesAre limit 1 None bytes) (Ended told last rest) × Reads bytes told last rest r.0 r.1
Settles bytes (Err (fault.Syntax line)) = IsOnly (LinesAre limit 1 None bytes) (WrongAt line) ⊎ ((last : ℕ) × IsOnly (LinesAre limit 1 None bytes) (Endless last) × (line ≡ max 1 last))
Settles bytes (Err fault.TooLong) = IsOnly (LinesAre limit 1 None bytes) Long
Settles bytes (Err (fault.Graph line rule)) =
    (told : Told) × (last : ℕ) × (rest : List ℕ) × (call : ℕ) × IsOnly (LinesAre limit 1 None bytes) (Ended told last rest) × IsFirstFault told.calls rule call × (line ≡ line_at told last call)
Settles bytes (Err fault.NoMemory) = Unit {0}
