-- What rows of a flow tell.
use Rattle.std.specs.Prelude.{◌≡◌, ℕ, ◌<◌, ◌≤◌, List, Some, slice_get, map, length}
use Rattle.pp_graph.specs.declared.node.Answer.{Answer}
use Rattle.pp_program.specs.declared.program.Edge.{Edge}
use Rattle.pp_flow.specs.Rows as rows
use Rattle.pp_flow.specs.Chart.{Chart}
use Rattle.pp_flow.specs.declared.moves.Move.{Move}
use Rattle.pp_program.specs.declared.program.Instr.{Instr}
use Rattle.pp_program.specs.declared.program.Instr.TheVariants.{Branch, Invoke, Consume, SpanOpen, SpanClose, Pause, Fail}
use Rattle.pp_program.specs.declared.program.State.{State}
use Rattle.pp_program.specs.declared.program.Program.{Program}
use Rattle.pp_program.specs.steps.Ends.{ends_of}
use Rattle.pp_program.specs.Spans.{act_of}

-- the rows tell the ends of the states before a place
abbrev pub TellsBelow : List State → ℕ → List Move → Type 0
TellsBelow states count moves = rows.TellsBelow (ends_of states) count moves

-- the flow of a program: its acts, its entry, and rows for the ends of the states that are told
pub record IsFlowOf (p : Program) (c : Chart) : Type 0 where
  pub acts : c.acts ≡ map (λ (s : State). act_of s.instr) p.states
  pub entry : c.entry ≡ p.entry
  pub tells : TellsBelow p.states c.told c.moves

-- the edges of a state with this instruction lead to places below a number
abbrev pub LeadsWithin : ℕ → Instr → Type 0
LeadsWithin count (Branch fold stay edges rest) =
    ((i : ℕ) (e : Edge) → slice_get edges i ≡ Some e → e.target < count) × (rest.target < count)
LeadsWithin count (Invoke what answers other) =
    ((i : ℕ) (a : Answer) → slice_get answers i ≡ Some a → a.target < count) × (other < count)
LeadsWithin count (Consume prop next) = next < count
LeadsWithin count (SpanOpen span next) = next < count
LeadsWithin count (SpanClose span next) = next < count
LeadsWithin count (Pause code reason next) = next < count
LeadsWithin count (Fail code reason) = Unit {0}

-- the span that an instruction names is there
abbrev pub SpanWithin : ℕ → Instr → Type 0
SpanWithin count (Branch fold stay edges rest) = Unit {0}
SpanWithin count (Invoke what answers other) = Unit {0}
SpanWithin count (Consume prop next) = Unit {0}
SpanWithin count (SpanOpen span next) = span < count
SpanWithin count (SpanClose span next) = span < count
SpanWithin count (Pause code reason next) = Unit {0}
SpanWithin count (Fail code reason) = Unit {0}

-- what the flow of a program rests on
pub record IsSound (p : Program) : Type 0 where
  pub entry : p.entry < length p.states
  pub few_states : length p.states ≤ 65535
  pub few_spans : length p.spans ≤ 32
  pub lead : (i : ℕ) (s : State) → slice_get p.states i ≡ Some s → LeadsWithin (length p.states) s.instr
  pub span : (i : ℕ) (s : State) → slice_get p.states i ≡ Some s → SpanWithin (length p.spans) s.instr

-- the counts of a program whose targets are right
pub record Counts (p : Program) : Type 0 where
  pub props : length p.props ≤ 64
  pub hosts : length p.hosts ≤ 64
  pub spans : length p.spans ≤ 32
  pub names : length p.names ≤ 4096
  pub states : length p.states ≤ 65535
