-- What a file has room for: one byte for the place of a declaration, two for states, edges and answers.
use Rattle.std.specs.Prelude.{◌≡◌, ℕ, ◌<◌, ◌^◌, List, Option, Some, None, Bool, true, false, length, All}
use Rattle.pp_graph.specs.declared.node.Answer.{Answer}
use Rattle.pp_graph.specs.declared.node.Code.{Code}
use Rattle.pp_graph.specs.declared.node.Code.TheVariants as code
use Rattle.pp_program.specs.declared.program.Edge.{Edge}
use Rattle.pp_program.specs.declared.program.Rest.{Rest}
use Rattle.pp_program.specs.declared.program.Instr.{Instr}
use Rattle.pp_program.specs.declared.program.Instr.TheVariants.{Branch, Invoke, Consume, SpanOpen, SpanClose, Pause, Fail}
use Rattle.pp_program.specs.declared.program.State.{State}
use Rattle.pp_program.specs.declared.program.Program.{Program}

-- a flag tells whether the byte is taken only where there is no number: with one the byte is taken, or is not
abbrev pub IsFlagged : Bool → Bool → Option ℕ → Type 0
IsFlagged takes right None = Unit {0}
IsFlagged takes right (Some number) = takes ≡ right

-- with a number an edge takes its byte, and two bytes hold its target
pub record EdgeFits (e : Edge) : Type 0 where
  pub flag : IsFlagged e.take true e.number
  pub target : e.target < 2 ^ 16

-- with a number a rest takes no byte, and two bytes hold its target
pub record RestFits (r : Rest) : Type 0 where
  pub flag : IsFlagged r.skip false r.number
  pub target : r.target < 2 ^ 16

-- one byte holds the place of a code's host or property
abbrev pub CodeFits : Code → Type 0
CodeFits (code.Call host) = host < 2 ^ 8
CodeFits (code.Store prop) = prop < 2 ^ 8
CodeFits (code.Load prop) = prop < 2 ^ 8
CodeFits (code.Update prop value) = prop < 2 ^ 8
CodeFits (code.Equal prop value) = prop < 2 ^ 8
CodeFits (code.And prop value) = prop < 2 ^ 8
CodeFits (code.Or prop value) = prop < 2 ^ 8
CodeFits (code.Test prop value) = prop < 2 ^ 8
CodeFits (code.MulAdd prop base most) = prop < 2 ^ 8

-- edges that a branch can have in a file
pub record EdgesFit (edges : List Edge) : Type 0 where
  pub count : length edges < 2 ^ 16
  pub each : All EdgeFits edges

-- answers that an invoke can have in a file
pub record AnswersFit (answers : List Answer) : Type 0 where
  pub count : length answers < 2 ^ 16
  pub each : All (λ (a : Answer). a.target < 2 ^ 16) answers

-- what a state does has room
abbrev pub InstrFits : Instr → Type 0
InstrFits (Branch fold stay edges rest) = EdgesFit edges × RestFits rest
InstrFits (Invoke what answers other) = CodeFits what × AnswersFit answers × (other < 2 ^ 16)
InstrFits (Consume prop next) = (prop < 2 ^ 8) × (next < 2 ^ 16)
InstrFits (SpanOpen span next) = (span < 2 ^ 8) × (next < 2 ^ 16)
InstrFits (SpanClose span next) = (span < 2 ^ 8) × (next < 2 ^ 16)
InstrFits (Pause number reason next) = next < 2 ^ 16
InstrFits (Fail number reason) = Unit {0}

-- so has its origin
pub record StateFits (s : State) : Type 0 where
  pub origin : s.origin < 2 ^ 16
  pub instr : InstrFits s.instr

-- the finish rule's places
abbrev pub FinishFits : Option (ℕ × ℕ) → Type 0
FinishFits None = Unit {0}
FinishFits (Some rule) = (rule.0 < 2 ^ 8) × (rule.1 < 2 ^ 8)

-- the counts, the entry, the finish rule and the states of a program have room
pub record ProgramFits (p : Program) : Type 0 where
  pub props : length p.props < 2 ^ 8
  pub hosts : length p.hosts < 2 ^ 8
  pub spans : length p.spans < 2 ^ 8
  pub names : length p.names < 2 ^ 16
  pub states : length p.states < 2 ^ 16
  pub entry : p.entry < 2 ^ 16
  pub finish : FinishFits p.finish
  pub each : All StateFits p.states
