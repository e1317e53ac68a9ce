-- The programs that the types of the code can hold: numbers fit their widths, and lists their limits.
use Rattle.std.specs.Prelude.{ℕ, ◌<◌, ◌^◌, Option, Some, None, List, length}
use Rattle.std.specs.List.{All}
use Rattle.pp_bytes.specs.Ranges.{IsRanges}
use Rattle.pp_rules.specs.declared.declaration.PropDecl.{PropDecl}
use Rattle.pp_rules.specs.declared.declaration.HostDecl.{HostDecl}
use Rattle.pp_rules.specs.declared.declaration.SpanDecl.{SpanDecl}
use Rattle.pp_graph.specs.declared.node.Answer.{Answer}
use Rattle.pp_graph.specs.declared.node.Code.{Code}
use Rattle.pp_graph.specs.declared.node.Code.TheVariants as code
use Rattle.pp_program.specs.declared.program.Edge.{Edge}
use Rattle.pp_program.specs.declared.program.Rest.{Rest}
use Rattle.pp_program.specs.declared.program.Instr.{Instr}
use Rattle.pp_program.specs.declared.program.Instr.TheVariants.{Branch, Invoke, Consume, SpanOpen, SpanClose, Pause, Fail}
use Rattle.pp_program.specs.declared.program.State.{State}
use Rattle.pp_program.specs.declared.program.Program.{Program}

abbrev pub IsByte : ℕ → Type 0
IsByte b = b < 256

-- a name or a reason: at most 255 bytes
pub record IsText (text : List ℕ) : Type 0 where
  pub short : length text < 256
  pub bytes : All IsByte text

-- a number of 32 bits, if there is one
abbrev pub IsNumber : Option ℕ → Type 0
IsNumber None = Unit {0}
IsNumber (Some n) = n < 2 ^ 32

pub record IsHeldEdge (e : Edge) : Type 0 where
  pub lo : e.lo < 256
  pub hi : e.hi < 256
  pub number : IsNumber e.number

-- constants of 64 bits, and a base of 32
abbrev pub IsHeldCode : Code → Type 0
IsHeldCode (code.Call host) = Unit {0}
IsHeldCode (code.Store prop) = Unit {0}
IsHeldCode (code.Load prop) = Unit {0}
IsHeldCode (code.Update prop value) = value < 2 ^ 64
IsHeldCode (code.Equal prop value) = value < 2 ^ 64
IsHeldCode (code.And prop value) = value < 2 ^ 64
IsHeldCode (code.Or prop value) = value < 2 ^ 64
IsHeldCode (code.Test prop value) = value < 2 ^ 64
IsHeldCode (code.MulAdd prop base most) = (base < 2 ^ 32) × (most < 2 ^ 64)

abbrev pub IsHeldInstr : Instr → Type 0
IsHeldInstr (Branch fold stay edges rest) = IsRanges stay × All IsHeldEdge edges × IsNumber rest.number
IsHeldInstr (Invoke what answers other) = IsHeldCode what × All (λ (a : Answer). a.number < 2 ^ 32) answers
IsHeldInstr (Consume prop next) = Unit {0}
IsHeldInstr (SpanOpen span next) = Unit {0}
IsHeldInstr (SpanClose span next) = Unit {0}
IsHeldInstr (Pause number reason next) = (number < 2 ^ 32) × IsText reason
IsHeldInstr (Fail number reason) = (number < 2 ^ 32) × IsText reason

-- a value of the type; places are bounded by what they name
pub record IsHeld (p : Program) : Type 0 where
  pub props : All (λ (d : PropDecl). IsText d.name) p.props
  pub hosts : All (λ (d : HostDecl). IsText d.name) p.hosts
  pub spans : All (λ (d : SpanDecl). IsText d.name) p.spans
  pub names : All IsText p.names
  pub states : All (λ (s : State). IsHeldInstr s.instr) p.states
