-- What a host is asked in a feed: first the questions by their places, then with the bytes of their parts.
use Rattle.std.specs.Prelude.{ℕ, suc, ◌-◌, List, [], ◌∷◌, ◌++◌, Option, Some, None, Bool, true, false, map, max, nat_lt, slice_range, if◌then◌else◌}
use Rattle.pp_event.specs.declared.item.Item.{Item}
use Rattle.pp_event.specs.declared.item.Item.TheVariants as item
use Rattle.pp_event.specs.Told.{Told, Called, Pieced}
use Rattle.pp_event.specs.Run.{RunResult, Finish, Waiting, Paused, Failed}

-- a question of a feed, by places: a call with its answer, or the piece of a span from one place to another, of
-- which `from` is where the span was opened
pub data Ask : Type 0 where
  AskCall : (code value at : ℕ) (values : List ℕ) (answer : ℕ) → Ask
  AskPiece : (span from at to : ℕ) (last : Bool) → Ask

-- the question that each item stands for, in a feed that begins at o: a call its call, a span its last piece, which
-- begins at the later of the span's start and o; a pause none
abbrev pub asked : ℕ → List Item → List Ask
asked o [] = []
asked o (item.Call code value at values answer ∷ items) = AskCall code value at values answer ∷ asked o items
asked o (item.Span span from to ∷ items) = AskPiece span from (max from o) to true ∷ asked o items
asked o (item.Pause code at ∷ items) = asked o items

-- the part so far of each open span, by number, where it isn't empty
abbrev pub parts : ℕ → ℕ → ℕ → List (Option ℕ) → List Ask
parts o at span [] = []
parts o at span (None ∷ spans) = parts o at (suc span) spans
parts o at span (Some from ∷ spans) =
    if nat_lt (max from o) at
    then AskPiece span from (max from o) at false ∷ parts o at (suc span) spans
    else parts o at (suc span) spans

-- the parts that are told at the end of a feed: of a run that waits or pauses, and of none that failed
abbrev pub parts_at_end : ℕ → ℕ → List (Option ℕ) → Finish → List Ask
parts_at_end o at spans Waiting = parts o at 0 spans
parts_at_end o at spans (Paused code) = parts o at 0 spans
parts_at_end o at spans (Failed code) = []

-- what is asked in a feed that begins at o, gives these items and ends so, at a place with these spans open
abbrev pub asks : List Item → ℕ → Finish → ℕ → List (Option ℕ) → List Ask
asks items o finish at spans = asked o items ++ parts_at_end o at spans finish

-- the bytes of w, the first of which stands at o, from one place to another
abbrev pub between : ℕ → List ℕ → ℕ → ℕ → List ℕ
between o w from to = slice_range w (from - o) (to - o)

-- a question with the bytes of its piece, and the answer 0
abbrev pub told_ask : ℕ → List ℕ → Ask → Told
told_ask o w (AskCall code value at values answer) = Called code value at values answer
told_ask o w (AskPiece span from at to last) = Pieced span at (between o w at to) last 0

-- what a host is asked in a feed of w that begins at o, gives these items and ends as the run r does
abbrev pub pieces : List Item → ℕ → RunResult → List ℕ → List Told
pieces items o r w = map (told_ask o w) (asks items o r.finish r.last.config.at r.last.config.spans)
