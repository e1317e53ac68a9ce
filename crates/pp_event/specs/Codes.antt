-- What the codes of invoke nodes do, and where their answers lead.
use Rattle.std.specs.Prelude.{ℕ, ◌+◌, ◌*◌, List, Option, Some, None, slice_index, nat_lt, ◌==◌, if◌then◌else◌, bit_and, bit_or, find}
use Rattle.pp_graph.specs.declared.node.Answer.{Answer}
use Rattle.pp_graph.specs.declared.node.Code.{Code}
use Rattle.pp_graph.specs.declared.node.Code.TheVariants as code
use Rattle.pp_event.specs.Turns.{Effect, AsksHost, Answers, Sets}

-- the edge with the answer's number, else the otherwise
abbrev pub target_or : ℕ → Option Answer → ℕ
target_or other None = other
target_or other (Some a) = a.target

-- where an answer leads
abbrev pub answered : List Answer → ℕ → ℕ → ℕ
answered answers other n = target_or other (find (λ (a : Answer). a.number == n) answers)

-- what a code does, by the values of the properties and the number that was carried
abbrev pub effect_of : List ℕ → ℕ → Code → Effect
effect_of values carried (code.Call host) = AsksHost host
effect_of values carried (code.Store prop) = Sets prop carried
effect_of values carried (code.Load prop) = Answers (slice_index values prop)
effect_of values carried (code.Update prop value) = Sets prop value
effect_of values carried (code.Equal prop value) = Answers (if slice_index values prop == value then 1 else 0)
effect_of values carried (code.And prop value) = Sets prop (bit_and (slice_index values prop) value)
effect_of values carried (code.Or prop value) = Sets prop (bit_or (slice_index values prop) value)
effect_of values carried (code.Test prop value) = Answers (if bit_and (slice_index values prop) value == value then 1 else 0)
effect_of values carried (code.MulAdd prop base most) =
    let product = slice_index values prop * base + carried in
    if nat_lt most product then Answers 1 else Sets prop product
