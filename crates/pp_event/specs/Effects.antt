-- What the code that runs codes says, by the effects of the meaning.
use Rattle.std.specs.Prelude.{ℕ, ◌<◌, nat_lt, if◌then◌else◌}
use Rattle.pp_graph.specs.declared.node.Code.{Code}
use Rattle.pp_graph.specs.declared.node.Code.TheVariants as code
use Rattle.pp_event.specs.Turns.{Effect, AsksHost, Answers, Sets}
use Rattle.pp_event.specs.declared.effect.Effect.{Effect as CodeEffect}
use Rattle.pp_event.specs.declared.effect.Effect.TheVariants as effect

-- an effect of the code as one of the meaning
abbrev pub seen_effect : CodeEffect → Effect
seen_effect (effect.AsksHost host) = AsksHost host
seen_effect (effect.Answers answer) = Answers answer
seen_effect (effect.Sets prop value) = Sets prop value

-- sets a property to this product, or answers 1 where it passes the most
abbrev pub product_effect : ℕ → ℕ → ℕ → Effect
product_effect prop product most = if nat_lt most product then Answers 1 else Sets prop product

-- a code uses one of so many properties, or a host code below 64
abbrev pub Uses : ℕ → Code → Type 0
Uses props (code.Call host) = host < 64
Uses props (code.Store prop) = prop < props
Uses props (code.Load prop) = prop < props
Uses props (code.Update prop value) = prop < props
Uses props (code.Equal prop value) = prop < props
Uses props (code.And prop value) = prop < props
Uses props (code.Or prop value) = prop < props
Uses props (code.Test prop value) = prop < props
Uses props (code.MulAdd prop base most) = prop < props
