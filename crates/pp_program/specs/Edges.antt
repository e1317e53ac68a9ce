-- The edges of a program, also those that no string takes.
use Rattle.std.specs.Prelude.{◌≡◌, ℕ, ◌<◌, Option, Some, None, ◌⊎◌, slice_get, true}
use Rattle.std.specs.List.{Any}
use Rattle.pp_bytes.specs.Ranges.{in_ranges}
use Rattle.pp_graph.specs.declared.node.Answer.{Answer}
use Rattle.pp_program.specs.declared.program.Edge.{Edge}
use Rattle.pp_program.specs.declared.program.Instr.{Instr}
use Rattle.pp_program.specs.declared.program.Instr.TheVariants.{Branch, Invoke, Consume, SpanOpen, SpanClose, Pause, Fail}
use Rattle.pp_program.specs.declared.program.State.{State}
use Rattle.pp_program.specs.declared.program.Program.{Program}

-- An edge of a state with this instruction leads to a state: a byte of its stay to itself, an edge or the rest of a
-- branch, an answer, or what comes next.
abbrev pub HasEdge : ℕ → Instr → ℕ → Type 0
HasEdge state (Branch fold stay edges rest) next =
    ((state ≡ next) × (b : ℕ) × (b < 256) × (in_ranges stay b ≡ true))
    ⊎ (Any (λ (e : Edge). e.target ≡ next) edges ⊎ (rest.target ≡ next))
HasEdge state (Invoke what answers other) next = (other ≡ next) ⊎ Any (λ (a : Answer). a.target ≡ next) answers
HasEdge state (Consume prop n) next = n ≡ next
HasEdge state (SpanOpen span n) next = n ≡ next
HasEdge state (SpanClose span n) next = n ≡ next
HasEdge state (Pause code reason n) next = n ≡ next
HasEdge state (Fail code reason) next = ⊥

-- of a state that is there
abbrev pub EdgeFrom : ℕ → Option State → ℕ → Type 0
EdgeFrom state None next = ⊥
EdgeFrom state (Some s) next = HasEdge state s.instr next

-- an edge of the program leads from a state to a state
abbrev pub IsEdge : Program → ℕ → ℕ → Type 0
IsEdge p state next = EdgeFrom state (slice_get p.states state) next
