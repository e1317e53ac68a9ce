-- Where the engine stands, as a run's configuration, and what its steps mean.
use Rattle.std.specs.Prelude.{◌≡◌, ℕ, ◌<◌, ◌≤◌, List, [], ◌∷◌, Some, slice_get}
use Rattle.pp_event.specs.declared.item.Item.TheVariants.{Span}
use Rattle.pp_event.specs.Run.{Config, Turn, Goes, Asks, Rests, Stops, Fails}
use Rattle.pp_event.specs.Codes.{answered}
use Rattle.pp_event.specs.Effects.{Uses}
use Rattle.pp_program.specs.declared.program.Edge.{Edge}
use Rattle.pp_program.specs.declared.program.Instr.{Instr}
use Rattle.pp_program.specs.declared.program.Instr.TheVariants.{Branch, Invoke, Consume, SpanOpen, SpanClose, Pause, Fail}
use Rattle.pp_engine.specs.declared.spot.Spot.{Spot}
use Rattle.pp_engine.specs.declared.turn.Step.{Step}
use Rattle.pp_engine.specs.declared.turn.Step.TheVariants as step

abbrev pub config : Spot → Config
config s = record { node = s.node; at = s.at; carried = s.carried; values = s.props; spans = s.spans }

-- the state that an answer leads to
abbrev pub edge_of : Instr → ℕ → ℕ
edge_of (Branch fold stay edges rest) n = 0
edge_of (Invoke what answers other) n = answered answers other n
edge_of (Consume prop next) n = 0
edge_of (SpanOpen span next) n = 0
edge_of (SpanClose span next) n = 0
edge_of (Pause code reason next) n = 0
edge_of (Fail code reason) n = 0

-- A step from c, which leaves d, is this turn. Behind a question the answer leads by `edge`.
abbrev pub IsTurn : (ℕ → ℕ) → Config → Config → Step → Turn → Type 0
IsTurn edge c d (step.Goes takes) t = t ≡ Goes d takes []
IsTurn edge c d (step.Closes span from) t = (d.at ≡ c.at) × (t ≡ Goes d 0 (Span span from c.at ∷ []))
IsTurn edge c d (step.Asks host) t = (d ≡ c) × (t ≡ Asks host c.carried (λ answer. record c { node = edge answer; carried = 0 }))
IsTurn edge c d step.Rests t = t ≡ Rests d
IsTurn edge c d (step.Stops code next reason) t = (d ≡ c) × (t ≡ Stops code (record c { node = next; carried = 0 }))
IsTurn edge c d (step.Fails code reason) t = (d ≡ c) × (t ≡ Fails code)

-- a question is one of 64 host codes; a pause and an error tell what the instruction says
abbrev pub SaysOf : Instr → Step → Type 0
SaysOf i (step.Goes takes) = Unit {0}
SaysOf i (step.Closes span from) = Unit {0}
SaysOf i (step.Asks host) = host < 64
SaysOf i step.Rests = Unit {0}
SaysOf i (step.Stops code next reason) = i ≡ Pause code reason.now next
SaysOf i (step.Fails code reason) = i ≡ Fail code reason.now

-- edges have bytes, and lie in order apart from one another
pub record InOrder (edges : List Edge) : Type 0 where
  pub some : (i : ℕ) (e : Edge) → slice_get edges i ≡ Some e → e.lo ≤ e.hi
  pub ascend : (i j : ℕ) (e f : Edge) → i < j → slice_get edges i ≡ Some e → slice_get edges j ≡ Some f → e.hi < f.lo

-- an instruction reads properties and spans that are there, of so many; its edges lie in order
abbrev pub Reads : ℕ → ℕ → Instr → Type 0
Reads props spans (Branch fold stay edges rest) = InOrder edges
Reads props spans (Invoke what answers other) = Uses props what
Reads props spans (Consume prop next) = prop < props
Reads props spans (SpanOpen span next) = span < spans
Reads props spans (SpanClose span next) = span < spans
Reads props spans (Pause code reason next) = Unit {0}
Reads props spans (Fail code reason) = Unit {0}
