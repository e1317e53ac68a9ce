-- Programs whose lists are so short that 32 bits count their entries.
use Rattle.std.specs.Prelude.{◌≡◌, ℕ, ◌<◌, ◌^◌, Some, length, slice_get}
use Rattle.pp_program.specs.declared.program.Instr.{Instr}
use Rattle.pp_program.specs.declared.program.Instr.TheVariants.{Branch, Invoke, Consume, SpanOpen, SpanClose, Pause, Fail}
use Rattle.pp_program.specs.declared.program.State.{State}
use Rattle.pp_program.specs.declared.program.Program.{Program}

-- the edges of a branch, or the answers of an invoke, are few
abbrev pub HasFew : Instr → Type 0
HasFew (Branch fold stay edges rest) = length edges < 2 ^ 32
HasFew (Invoke what answers other) = length answers < 2 ^ 32
HasFew (Consume prop next) = Unit {0}
HasFew (SpanOpen span next) = Unit {0}
HasFew (SpanClose span next) = Unit {0}
HasFew (Pause code reason next) = Unit {0}
HasFew (Fail code reason) = Unit {0}

-- each list of the program has fewer than 2^32 entries
pub record IsCountable (p : Program) : Type 0 where
  pub props : length p.props < 2 ^ 32
  pub hosts : length p.hosts < 2 ^ 32
  pub spans : length p.spans < 2 ^ 32
  pub names : length p.names < 2 ^ 32
  pub states : length p.states < 2 ^ 32
  pub lists : (i : ℕ) (s : State) → slice_get p.states i ≡ Some s → HasFew s.instr
