-- The rules of a program, where each fails, and the programs that keep them all.
use Rattle.std.specs.Prelude.{◌≡◌, ℕ, ◌<◌, ◌≤◌, ◌⊎◌, List, Some, true, false, length, slice_get}
use Rattle.pp_event.specs.Loops.{IsGap, IsRankTable, Reaches}
use Rattle.pp_program.specs.declared.program.Instr.{Instr}
use Rattle.pp_program.specs.declared.program.State.{State}
use Rattle.pp_program.specs.declared.program.Program.{Program}
use Rattle.pp_program.specs.declared.fault.VerifyRule.{VerifyRule}
use Rattle.pp_program.specs.declared.fault.VerifyRule.TheVariants.{Target, Width, Loop, Spans, Names}
use Rattle.pp_program.specs.declared.fault.VerifyFault.{VerifyFault}
use Rattle.pp_program.specs.declared.fault.VerifyFault.TheVariants.{Broken, NoMemory}
use Rattle.pp_program.specs.Targets.{is_state, is_frame}
use Rattle.pp_program.specs.Widths.{is_wide_instr}
use Rattle.pp_program.specs.Moves.{IsOnCycle, program_moves}
use Rattle.pp_program.specs.Spans.{HasFault, TellsOpen}
use Rattle.pp_program.specs.Names.{TextFails}

-- the state at a place fails the rule on targets
abbrev pub StateFails : Program → ℕ → Type 0
StateFails p at = (s : State) × (slice_get p.states at ≡ Some s) × (is_state p s ≡ false)

-- the state at a place has a value that is too wide
abbrev pub WidthFails : Program → ℕ → Type 0
WidthFails p at = (s : State) × (slice_get p.states at ≡ Some s) × (is_wide_instr p s.instr ≡ true)

-- A rule fails at a place. Where the entry, the finish rule or a count is wrong, the place is behind all states.
abbrev pub Fails : Program → VerifyRule → ℕ → Type 0
Fails p Target at = StateFails p at ⊎ ((at ≡ length p.states) × (is_frame p ≡ false))
Fails p Width at = WidthFails p at
Fails p Loop at = IsOnCycle p at
Fails p Spans at = HasFault p at
Fails p Names at = TextFails p at

-- it fails nowhere
abbrev pub Holds : Program → VerifyRule → Type 0
Holds p rule = (at : ℕ) → Fails p rule at → ⊥

-- the rules before one
abbrev pub HoldBefore : Program → VerifyRule → Type 0
HoldBefore p Target = Unit {0}
HoldBefore p Width = Holds p Target
HoldBefore p Loop = Holds p Target × Holds p Width
HoldBefore p Spans = Holds p Target × Holds p Width × Holds p Loop
HoldBefore p Names = Holds p Target × Holds p Width × Holds p Loop × Holds p Spans

-- a program that keeps all rules
abbrev pub IsValid : Program → Type 0
IsValid p = (rule : VerifyRule) → Holds p rule

-- the first rule that fails, and the least place at which it does
pub record IsBroken (p : Program) (rule : VerifyRule) (at : ℕ) : Type 0 where
  pub fails : Fails p rule at
  pub least : (other : ℕ) → other < at → Fails p rule other → ⊥
  pub first : HoldBefore p rule

-- why a program is refused
abbrev pub IsFault : Program → VerifyFault → Type 0
IsFault p (Broken rule at) = IsBroken p rule at
IsFault p NoMemory = Unit {0}

-- a program, its gap, and a mask for each state of the spans that may be open there
pub record Sound : Type 0 where
  pub program : Program
  pub gap : ℕ
  pub opened : List ℕ

-- numbers for the pairs of states and bytes, which fall along moves that take no byte, and are nowhere above the gap
pub record HasRanks (p : Program) (gap : ℕ) : Type 0 where
  pub rank : ℕ → ℕ → ℕ
  pub table : IsRankTable (program_moves p) rank
  pub low : (b state : ℕ) → Reaches (program_moves p) b state → rank b state ≤ gap

-- the program is valid, and what is told of it is exact
pub record IsVerified (v : Sound) : Type 0 where
  pub valid : IsValid v.program
  pub exact_gap : IsGap (program_moves v.program) v.gap
  pub ranks : HasRanks v.program v.gap
  pub exact_spans : TellsOpen v.program v.opened

-- the state at a place does this
abbrev pub IsInstrAt : List State → ℕ → Instr → Type 0
IsInstrAt states i instr = (s : State) × (slice_get states i ≡ Some s) × (s.instr ≡ instr)

-- the state at a place comes from this node
abbrev pub IsOriginAt : List State → ℕ → ℕ → Type 0
IsOriginAt states i origin = (s : State) × (slice_get states i ≡ Some s) × (s.origin ≡ origin)
