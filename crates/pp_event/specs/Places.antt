-- Where the items and the open spans of a run lie.
use Rattle.std.specs.Prelude.{◌≡◌, ℕ, ◌+◌, ◌≤◌, List, [], ◌∷◌, Some, length}
use Rattle.pp_event.specs.declared.item.Item.{Item}
use Rattle.pp_event.specs.declared.item.Item.TheVariants.{Call, Span, Pause}
use Rattle.pp_event.specs.Run.{Config, Turn, Goes, Asks, Rests, Stops, Fails, Machine, Stage}
use Rattle.pp_event.specs.Turns.{slot}

-- where an item is told: a span at its end
abbrev pub place_of : Item → ℕ
place_of (Call code value at values answer) = at
place_of (Span span from to) = to
place_of (Pause code at) = at

-- where an item begins: a span at its start
abbrev pub start_of : Item → ℕ
start_of (Call code value at values answer) = at
start_of (Span span from to) = from
start_of (Pause code at) = at

-- items are told from one place up to another, each no earlier than the one before it, and none begins behind its end
abbrev pub Ordered : ℕ → List Item → ℕ → Type 0
Ordered a [] b = a ≤ b
Ordered a (i ∷ items) b = (a ≤ place_of i) × (start_of i ≤ place_of i) × Ordered (place_of i) items b

-- no open span was opened behind the place
abbrev pub SpansBehind : Config → Type 0
SpansBehind c = (span from : ℕ) → slot c.spans span ≡ Some from → from ≤ c.at

-- a turn keeps the open spans behind the place, and tells items up to its own place
abbrev pub OrderlyTurn : Config → Turn → Type 0
OrderlyTurn c (Goes d k items) = SpansBehind d × Ordered c.at items d.at
OrderlyTurn c (Asks code value next) = (answer : ℕ) → SpansBehind (next answer)
OrderlyTurn c (Rests d) = SpansBehind d
OrderlyTurn c (Stops code d) = SpansBehind d
OrderlyTurn c (Fails code) = Unit {0}

-- each turn from behind its open spans does
abbrev pub IsOrderly : Machine → Type 0
IsOrderly turn = (c : Config) (rest : List ℕ) → SpansBehind c → OrderlyTurn c (turn c rest)

-- a run that began at one place, over bytes that end at another, told its items in order, stands behind its open
-- spans, and has the bytes left that lie behind its place
pub record LiesIn (from to : ℕ) (s : Stage) : Type 0 where
  pub items : Ordered from s.items s.config.at
  pub spans : SpansBehind s.config
  pub place : s.config.at + length s.rest ≡ to
