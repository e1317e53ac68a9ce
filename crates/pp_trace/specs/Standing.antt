-- Where a connection stands, and how much it holds.
use Rattle.std.specs.Prelude.{ℕ, suc, ◌+◌, ◌-◌, List, [], ◌∷◌, ◌++◌, Option, Some, None, length, slice_range}
use Rattle.pp_event.specs.Run.{Finish, Waiting, Paused, Failed}
use Rattle.pp_trace.specs.declared.mode.Mode.{Mode}
use Rattle.pp_trace.specs.declared.mode.Mode.TheVariants.{Joined, Raw}
use Rattle.pp_trace.specs.Connection.{Connection}
use Rattle.pp_trace.specs.Lines.{Line, WaitLine, HeldLine, PartLine}

-- the bytes of each open span up to this place, by number from this one on
abbrev pub open_parts : List ℕ → ℕ → ℕ → List (Option ℕ) → List Line
open_parts bytes at span [] = []
open_parts bytes at span (None ∷ spans) = open_parts bytes at (suc span) spans
open_parts bytes at span (Some from ∷ spans) = PartLine span from (slice_range bytes from at) ∷ open_parts bytes at (suc span) spans

-- the part lines, which only a joined report has
abbrev pub part_lines : Mode → Connection → List Line
part_lines Raw c = []
part_lines Joined c = open_parts c.bytes c.run.at 0 c.run.spans

-- how many bytes of the string a paused run doesn't reach
abbrev pub unread : Connection → Finish → ℕ
unread c Waiting = 0
unread c (Paused code) = length c.bytes - c.run.at
unread c (Failed code) = 0

-- the lines that tell where a connection stands, at the end of the capture and at a Finish that is held up
abbrev pub standing : Mode → Connection → Finish → List Line
standing mode c Waiting = part_lines mode c ++ WaitLine c.run.node c.run.at c.run.values ∷ []
standing mode c (Paused code) = part_lines mode c ++ HeldLine c.run.node c.run.at (unread c (Paused code)) c.run.values ∷ []
standing mode c (Failed code) = []

-- how many bytes the open spans have up to this place
abbrev pub open_bytes : ℕ → List (Option ℕ) → ℕ
open_bytes at [] = 0
open_bytes at (None ∷ spans) = open_bytes at spans
open_bytes at (Some from ∷ spans) = (at - from) + open_bytes at spans

-- how many bytes a connection holds: the unread ones, and joined those of its open spans too
abbrev pub held : Mode → Connection → ℕ
held Raw c = unread c c.run.finish
held Joined c = unread c c.run.finish + open_bytes c.run.at c.run.spans
