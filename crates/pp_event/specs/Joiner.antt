-- What a joiner knows: for each span what came of it. One event after the other gives the joined items and bytes.
use Rattle.std.specs.Prelude.{ℕ, ◌+◌, List, [], ◌∷◌, ◌++◌, Option, Some, None, Bool, true, false, length, fold, slice_index_or, slice_set, unwrap_or, replicate, if◌then◌else◌}
use Rattle.pp_event.specs.declared.item.Item.{Item}
use Rattle.pp_event.specs.declared.item.Item.TheVariants as item
use Rattle.pp_event.specs.Told.{Told, Called, Pieced}

-- where the first piece since the last one began, if one came, and the bytes of the span that is open or was closed last
pub record SpanParts : Type 0 where
  pub begun : Option ℕ
  pub bytes : List ℕ

-- no piece came yet
abbrev pub no_parts : SpanParts
no_parts = record { begun = None; bytes = [] }

-- the bytes that a piece is put behind: none where it is the first of its span
abbrev pub open_bytes : Option ℕ → List ℕ → List ℕ
open_bytes None bytes = []
open_bytes (Some from) bytes = bytes

-- with one piece more
abbrev pub with_piece : SpanParts → ℕ → List ℕ → Bool → SpanParts
with_piece s at part last = record {
  begun = if last then None else Some (unwrap_or s.begun at);
  bytes = open_bytes s.begun s.bytes ++ part;
}

-- what came of a span
abbrev pub parts_of : List SpanParts → ℕ → SpanParts
parts_of spans span = slice_index_or spans span no_parts

-- with one event more
abbrev pub with_event : List SpanParts → Told → List SpanParts
with_event spans (Called code value at values answer) = spans
with_event spans (Pieced span at part last answer) = slice_set spans span (with_piece (parts_of spans span) at part last)

-- the item that an event completes, if it does
abbrev pub item_of : List SpanParts → Told → Option Item
item_of spans (Called code value at values answer) = Some (item.Call code value at values answer)
item_of spans (Pieced span at part true answer) = Some (item.Span span (unwrap_or (parts_of spans span).begun at) (at + length part))
item_of spans (Pieced span at part false answer) = None

-- before the first event
abbrev pub nothing_joined : List SpanParts
nothing_joined = replicate 32 no_parts

-- after these events
abbrev pub after_events : List SpanParts → List Told → List SpanParts
after_events spans log = fold with_event spans log

-- the list of an answer
abbrev pub listed : Option Item → List Item
listed None = []
listed (Some i) = i ∷ []

-- what a joiner answers to the events of a log, one after the other
abbrev pub items_taken : List SpanParts → List Told → List Item
items_taken spans [] = []
items_taken spans (e ∷ log) = listed (item_of spans e) ++ items_taken (with_event spans e) log

-- where an event's piece ends
abbrev pub end_of : Told → ℕ
end_of (Called code value at values answer) = 0
end_of (Pieced span at part last answer) = at + length part
