-- The items that a log of events joins to.
use Rattle.std.specs.Prelude.{ℕ, ◌+◌, List, [], ◌∷◌, ◌++◌, Option, Some, None, Bool, true, false, not, length, slice_set, unwrap_or, replicate, ◌==◌, if◌then◌else◌}
use Rattle.pp_event.specs.declared.item.Item.{Item}
use Rattle.pp_event.specs.declared.item.Item.TheVariants as item
use Rattle.pp_event.specs.Told.{Told, Called, Pieced}
use Rattle.pp_event.specs.Turns.{slot}

-- where the first piece of a span began, of which this one begins here
abbrev pub first_at : List (Option ℕ) → ℕ → ℕ → ℕ
first_at begun span at = unwrap_or (slot begun span) at

-- where the first piece since its last one began, for each span, after a log
abbrev pub begun_after : List (Option ℕ) → List Told → List (Option ℕ)
begun_after begun [] = begun
begun_after begun (Called code value at values answer ∷ log) = begun_after begun log
begun_after begun (Pieced span at part true answer ∷ log) = begun_after (slice_set begun span None) log
begun_after begun (Pieced span at part false answer ∷ log) = begun_after (slice_set begun span (Some (first_at begun span at))) log

-- the items of a log, behind pieces that have begun so: a call gives its call, and a last piece its span, from where
-- its first piece began to its own end
abbrev pub joined_from : List (Option ℕ) → List Told → List Item
joined_from begun [] = []
joined_from begun (Called code value at values answer ∷ log) = item.Call code value at values answer ∷ joined_from begun log
joined_from begun (Pieced span at part true answer ∷ log) =
    item.Span span (first_at begun span at) (at + length part) ∷ joined_from (slice_set begun span None) log
joined_from begun (Pieced span at part false answer ∷ log) =
    joined_from (slice_set begun span (Some (first_at begun span at))) log

-- of 32 spans none has begun
abbrev pub none_begun : List (Option ℕ)
none_begun = replicate 32 None

-- the items of a whole log
abbrev pub joined : List Told → List Item
joined log = joined_from none_begun log

-- the joined bytes of a span after a log: of the pieces since the one behind its last last piece. `opened` says
-- that such a piece came before the log, and `bytes` are those before it
abbrev pub bytes_after : ℕ → Bool → List ℕ → List Told → List ℕ
bytes_after s opened bytes [] = bytes
bytes_after s opened bytes (Called code value at values answer ∷ log) = bytes_after s opened bytes log
bytes_after s opened bytes (Pieced span at part last answer ∷ log) =
    if span == s
    then bytes_after s (not last) ((if opened then bytes else []) ++ part) log
    else bytes_after s opened bytes log

-- the joined bytes of the span that is open or was closed last, in a whole log; none where it has no piece
abbrev pub joined_bytes : ℕ → List Told → List ℕ
joined_bytes s log = bytes_after s false [] log

-- the items besides pauses
abbrev pub besides_pauses : List Item → List Item
besides_pauses [] = []
besides_pauses (item.Call code value at values answer ∷ items) = item.Call code value at values answer ∷ besides_pauses items
besides_pauses (item.Span span from to ∷ items) = item.Span span from to ∷ besides_pauses items
besides_pauses (item.Pause code at ∷ items) = besides_pauses items
