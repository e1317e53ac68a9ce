-- The turns that nodes and states share, at two configurations that differ in the node alone.
use Rattle.std.proofs.Common.{ℕ, ◌+◌, List, [], Option, refl, length, leb}
use Rattle.std.specs.Prelude.{slice_index, slice_set}
use Rattle.pp_event.specs.Run.{Config, Goes, Rests}
use Rattle.pp_event.specs.Turns.{Effect, AsksHost, Answers, Sets, effect_turn, consume_turn, open_turn, close_turn, setting, consumed, drained}
use Rattle.pp_event.specs.Simulates.{Bond, Mirrors}
use Rattle.pp_event.proofs.SimulationLaws.{Mirrors-if}

-- the same but for the node
abbrev pub stand_at : Config → ℕ → Config
stand_at c node = record c { node = node }

-- the configurations behind two edges meet, whatever the values are
abbrev pub EdgesMeet : Bond → ℕ → ℕ → Type 0
EdgesMeet bond node other = (at : ℕ) (values : List ℕ) (spans : List (Option ℕ)) →
    bond.meet (record { node = node; at = at; carried = 0; values = values; spans = spans }) (record { node = other; at = at; carried = 0; values = values; spans = spans })

-- an effect mirrors itself, over edges whose ends meet
pub effect_mirrors : (bond : Bond) (c : Config) (node : ℕ) (edge other : ℕ → ℕ) → ((n : ℕ) → EdgesMeet bond (edge n) (other n)) → (f : Effect) →
    Mirrors bond c (stand_at c node) (effect_turn c edge f) (effect_turn (stand_at c node) other f)
effect_mirrors bond c node edge other h (AsksHost host) =
    (λ answer. record c { node = other answer; carried = 0 }, refl, refl, refl, λ answer. h answer c.at c.values c.spans)
effect_mirrors bond c node edge other h (Answers n) = (record c { node = other n; carried = 0 }, refl, h n c.at c.values c.spans)
effect_mirrors bond c node edge other h (Sets prop value) = (setting c (other 0) prop value, refl, h 0 c.at (slice_set c.values prop value) c.spans)

-- a consume mirrors itself, where both may end with the property lowered
pub consume_mirrors : (bond : Bond) (c : Config) (rest : List ℕ) (node p next other : ℕ) → EdgesMeet bond next other →
    ((n : ℕ) → bond.close (drained c p (slice_index c.values p) n) (drained (stand_at c node) p (slice_index c.values p) n)) →
    Mirrors bond c (stand_at c node) (consume_turn c rest p next) (consume_turn (stand_at c node) rest p other)
consume_mirrors bond c rest node p next other h close =
    let v : ℕ = slice_index c.values p in
    Mirrors-if bond c (stand_at c node) (leb v (length rest)) (Goes (consumed c p next v) v []) (Rests (drained c p v (length rest)))
    (Goes (consumed (stand_at c node) p other v) v []) (Rests (drained (stand_at c node) p v (length rest)))
    (consumed (stand_at c node) p other v, refl, h (c.at + v) (slice_set c.values p 0) c.spans)
    (drained (stand_at c node) p v (length rest), refl, close (length rest))

-- an open mirrors itself
pub open_mirrors : (bond : Bond) (c : Config) (node s next other : ℕ) → EdgesMeet bond next other →
    Mirrors bond c (stand_at c node) (open_turn c s next) (open_turn (stand_at c node) s other)
open_mirrors bond c node s next other h = (_, refl, h c.at c.values (slice_set c.spans s _))

-- a close mirrors itself
pub close_mirrors : (bond : Bond) (c : Config) (node s next other : ℕ) → EdgesMeet bond next other →
    Mirrors bond c (stand_at c node) (close_turn c s next) (close_turn (stand_at c node) s other)
close_mirrors bond c node s next other h = (_, refl, h c.at c.values (slice_set c.spans s _))
