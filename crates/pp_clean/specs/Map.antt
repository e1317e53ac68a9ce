-- Where the states of a program lead, and programs that lead elsewhere.
use Rattle.std.specs.Prelude.{ℕ, List, [], ◌∷◌, map, unwrap_or}
use Rattle.std.specs.List.{AllByRecursion}
use Rattle.pp_graph.specs.declared.node.Answer.{Answer}
use Rattle.pp_program.specs.declared.program.Edge.{Edge}
use Rattle.pp_program.specs.declared.program.Rest.{Rest}
use Rattle.pp_program.specs.declared.program.Instr.{Instr}
use Rattle.pp_program.specs.declared.program.Instr.TheVariants.{Branch, Invoke, Consume, SpanOpen, SpanClose, Pause, Fail}
use Rattle.pp_program.specs.declared.program.State.{State}

-- an edge, a rest and an answer that lead to f t where they led to t
abbrev pub mapped_edge : (ℕ → ℕ) → Edge → Edge
mapped_edge f e = record e { target = f e.target }

abbrev pub mapped_rest : (ℕ → ℕ) → Rest → Rest
mapped_rest f r = record r { target = f r.target }

abbrev pub mapped_answer : (ℕ → ℕ) → Answer → Answer
mapped_answer f a = record a { target = f a.target }

-- an instruction that leads to f t where it led to t
abbrev pub mapped : (ℕ → ℕ) → Instr → Instr
mapped f (Branch fold stay edges rest) = Branch fold stay (map (mapped_edge f) edges) (mapped_rest f rest)
mapped f (Invoke code answers other) = Invoke code (map (mapped_answer f) answers) (f other)
mapped f (Consume prop next) = Consume prop (f next)
mapped f (SpanOpen span next) = SpanOpen span (f next)
mapped f (SpanClose span next) = SpanClose span (f next)
mapped f (Pause code reason next) = Pause code reason (f next)
mapped f (Fail code reason) = Fail code reason

-- and such a state
abbrev pub mapped_state : (ℕ → ℕ) → State → State
mapped_state f s = record s { instr = mapped f s.instr }

-- the places that an instruction leads to
abbrev pub targets : Instr → List ℕ
targets (Branch fold stay edges rest) = rest.target ∷ map (λ (e : Edge). e.target) edges
targets (Invoke code answers other) = other ∷ map (λ (a : Answer). a.target) answers
targets (Consume prop next) = next ∷ []
targets (SpanOpen span next) = next ∷ []
targets (SpanClose span next) = next ∷ []
targets (Pause code reason next) = next ∷ []
targets (Fail code reason) = []

-- this holds of each place that an instruction leads to, with the number that is carried there, or 0
abbrev pub EachMove : (ℕ → ℕ → Type 0) → Instr → Type 0
EachMove P (Branch fold stay edges rest) =
    AllByRecursion (λ (e : Edge). P e.target (unwrap_or e.number 0)) edges × P rest.target (unwrap_or rest.number 0)
EachMove P (Invoke code answers other) = AllByRecursion (λ (a : Answer). P a.target 0) answers × P other 0
EachMove P (Consume prop next) = P next 0
EachMove P (SpanOpen span next) = P next 0
EachMove P (SpanClose span next) = P next 0
EachMove P (Pause code reason next) = P next 0
EachMove P (Fail code reason) = Unit {0}
