-- Where the moves of a state lead, as its edges tell it.
use Rattle.std.specs.Prelude.{◌≡◌, ℕ, ◌<◌, List, true, false, Option, Some, None, if◌then◌else◌, slice_get}
use Rattle.std.specs.List.{Any}
use Rattle.pp_bytes.specs.declared.fold.Fold.{Fold}
use Rattle.pp_bytes.specs.Fold.{folded}
use Rattle.pp_bytes.specs.Ranges.{in_ranges}
use Rattle.pp_flow.specs.Rows.{Way, free, onward, edge, Ends, NoEnds, OrEnds, FreeEnds, BothEnds, DeadEnds}
use Rattle.pp_graph.specs.declared.node.Answer.{Answer}
use Rattle.pp_program.specs.declared.program.Edge.{Edge}
use Rattle.pp_program.specs.declared.program.Rest.{Rest}
use Rattle.pp_program.specs.declared.program.Instr.{Instr}
use Rattle.pp_program.specs.declared.program.Instr.TheVariants.{Branch, Invoke, Consume, SpanOpen, SpanClose, Pause, Fail}
use Rattle.pp_program.specs.declared.program.State.{State}
use Rattle.pp_program.specs.declared.branch.Step.{Step}
use Rattle.pp_program.specs.States.{edge_on}

-- a table of the first of these edges that has a byte, for each byte
abbrev pub IsEdgeTable : List Edge → List (Option Edge) → Type 0
IsEdgeTable edges table = (b : ℕ) → b < 256 → slice_get table b ≡ Some (edge_on b edges)

-- the step of an edge, or of the rest
abbrev pub edge_step : Rest → Option Edge → Step
edge_step rest None = record { target = rest.target; takes = rest.skip }
edge_step rest (Some e) = record { target = e.target; takes = e.take }

-- the step of a branch on a byte
abbrev pub step_on : ℕ → Fold → List (ℕ × ℕ) → List Edge → Rest → ℕ → Step
step_on state fold stay edges rest b =
    if in_ranges stay b then record { target = state; takes = true } else edge_step rest (edge_on (folded fold b) edges)

-- by a step on a byte, to a state
abbrev pub StepEnds : Step → Way → ℕ → Type 0
StepEnds s free next = (s.target ≡ next) × (s.takes ≡ false)
StepEnds s onward next = (s.target ≡ next) × (s.takes ≡ true)
StepEnds s edge next = s.target ≡ next

-- by the steps on the bytes before a byte
abbrev pub StepsBelow : (ℕ → Step) → ℕ → Ends
StepsBelow step count free b next = (b < count) × StepEnds (step b) free next
StepsBelow step count onward b next = (b < count) × StepEnds (step b) onward next
StepsBelow step count edge b next = (a : ℕ) × (a < count) × ((step a).target ≡ next)

-- by one of some edges, whatever the byte
abbrev pub EdgeEnds : List Edge → Ends
EdgeEnds edges free b next = ⊥
EdgeEnds edges onward b next = ⊥
EdgeEnds edges edge b next = Any (λ (e : Edge). e.target ≡ next) edges

-- by some answers
abbrev pub AnswerEnds : List Answer → Ends
AnswerEnds answers free b next = Any (λ (a : Answer). a.target ≡ next) answers
AnswerEnds answers onward b next = ⊥
AnswerEnds answers edge b next = Any (λ (a : Answer). a.target ≡ next) answers

-- of a state at a place with this instruction
abbrev pub EndsOf : ℕ → Instr → Ends
EndsOf state (Branch fold stay edges rest) =
    OrEnds (StepsBelow (step_on state fold stay edges rest) 256) (OrEnds (EdgeEnds edges) (DeadEnds rest.target))
EndsOf state (Invoke what answers other) = OrEnds (FreeEnds other) (AnswerEnds answers)
EndsOf state (Consume prop n) = BothEnds n
EndsOf state (SpanOpen span n) = FreeEnds n
EndsOf state (SpanClose span n) = FreeEnds n
EndsOf state (Pause code reason n) = BothEnds n
EndsOf state (Fail code reason) = NoEnds

-- of a state that is there
abbrev pub EndsAt : ℕ → Option State → Ends
EndsAt state None = NoEnds
EndsAt state (Some s) = EndsOf state s.instr

-- where the states lead
abbrev pub ends_of : List State → ℕ → Ends
ends_of states state = EndsAt state (slice_get states state)
