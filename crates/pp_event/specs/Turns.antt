-- The turns that the nodes of a graph and the states of a program have in common.
use Rattle.std.specs.Prelude.{ℕ, ◌+◌, ◌-◌, List, [], ◌∷◌, Option, Some, None, length, slice_index, slice_get, slice_set, nat_le, if◌then◌else◌, unwrap_or}
use Rattle.pp_event.specs.declared.item.Item.TheVariants.{Span}
use Rattle.pp_event.specs.Run.{Config, Turn, Goes, Asks, Rests}

-- to a node, having taken so many bytes, with the number that the edge carries
abbrev pub to : Config → ℕ → ℕ → ℕ → Turn
to c node taken number = Goes (record { node = node; at = c.at + taken; carried = number; values = c.values; spans = c.spans }) taken []

-- to a node without taking a byte
abbrev pub moved : Config → ℕ → Turn
moved c node = Goes (record c { node = node; carried = 0 }) 0 []

-- at a node, with the value of a property changed
abbrev pub setting : Config → ℕ → ℕ → ℕ → Config
setting c node prop value = record { node = node; at = c.at; carried = 0; values = slice_set c.values prop value; spans = c.spans }

-- what a code does: it asks a host code, or answers by itself, or sets a property and answers 0
pub data Effect : Type 0 where
  AsksHost : (host : ℕ) → Effect
  Answers : (answer : ℕ) → Effect
  Sets : (prop value : ℕ) → Effect

-- the turn of an effect; `edge` gives the node for an answer
abbrev pub effect_turn : Config → (ℕ → ℕ) → Effect → Turn
effect_turn c edge (AsksHost host) = Asks host c.carried (λ answer. record c { node = edge answer; carried = 0 })
effect_turn c edge (Answers answer) = moved c (edge answer)
effect_turn c edge (Sets prop value) = Goes (setting c (edge 0) prop value) 0 []

-- behind all v bytes of a consume
abbrev pub consumed : Config → ℕ → ℕ → ℕ → Config
consumed c prop next v = record { node = next; at = c.at + v; carried = 0; values = slice_set c.values prop 0; spans = c.spans }

-- behind the n bytes that are left of the v bytes of a consume, which its property is lowered by
abbrev pub drained : Config → ℕ → ℕ → ℕ → Config
drained c prop v n = record c { at = c.at + n; carried = 0; values = slice_set c.values prop (v - n) }

-- takes as many bytes as a property says, or those that are left
abbrev pub consume_turn : Config → List ℕ → ℕ → ℕ → Turn
consume_turn c rest prop next =
    let v = slice_index c.values prop in
    if nat_le v (length rest) then Goes (consumed c prop next v) v [] else Rests (drained c prop v (length rest))

-- where a span was opened, if it is open
abbrev pub slot : List (Option ℕ) → ℕ → Option ℕ
slot spans span = unwrap_or (slice_get spans span) None

-- opens a span here, in place of an earlier start
abbrev pub open_turn : Config → ℕ → ℕ → Turn
open_turn c span next = Goes (record c { node = next; carried = 0; spans = slice_set c.spans span (Some c.at) }) 0 []

-- closes a span and tells it, from its start, or from here where it was not open
abbrev pub close_turn : Config → ℕ → ℕ → Turn
close_turn c span next =
    Goes (record c { node = next; carried = 0; spans = slice_set c.spans span None }) 0
    (Span span (unwrap_or (slot c.spans span) c.at) c.at ∷ [])
