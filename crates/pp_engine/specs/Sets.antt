-- Sets of properties, by their places, and what is wrong with one.
use Rattle.std.specs.Prelude.{◌≡◌, ℕ, ◌<◌, ◌≤◌, List, Option, Some, None, length, slice_get}
use Rattle.pp_rules.specs.Widths.{greatest}
use Rattle.pp_rules.specs.declared.declaration.PropDecl.{PropDecl}
use Rattle.pp_program.specs.declared.program.Program.{Program}
use Rattle.pp_program.specs.Runnable.{CanHold}
use Rattle.pp_engine.specs.declared.sets.SetFault.{SetFault}
use Rattle.pp_engine.specs.declared.sets.SetFault.TheVariants.{UnknownProp, TooWide}

-- the property is there, and too narrow for the value
abbrev pub IsNarrow : Program → ℕ → ℕ → Type 0
IsNarrow p prop value = (d : PropDecl) × (slice_get p.props prop ≡ Some d) × (greatest d.width < value)

-- the set at this place is wrong so
abbrev pub IsWrong : Program → ℕ × ℕ → ℕ → SetFault → Type 0
IsWrong p set place (UnknownProp at) = (at ≡ place) × (length p.props ≤ set.0)
IsWrong p set place (TooWide at) = (at ≡ place) × IsNarrow p set.0 set.1

-- what is wrong with a set, or nothing
abbrev pub IsFaultOf : Program → ℕ × ℕ → ℕ → Option SetFault → Type 0
IsFaultOf p set place None = CanHold p set.0 set.1
IsFaultOf p set place (Some fault) = IsWrong p set place fault

-- each of the first sets names a property that can hold its value
abbrev pub AreRightBefore : Program → List (ℕ × ℕ) → ℕ → Type 0
AreRightBefore p sets n = (i : ℕ) (set : ℕ × ℕ) → i < n → slice_get sets i ≡ Some set → CanHold p set.0 set.1

-- all of them do
abbrev pub AreRight : Program → List (ℕ × ℕ) → Type 0
AreRight p sets = (i : ℕ) (set : ℕ × ℕ) → slice_get sets i ≡ Some set → CanHold p set.0 set.1

-- the first wrong set, and what is wrong with it
pub record IsFirstWrong (p : Program) (sets : List (ℕ × ℕ)) (fault : SetFault) : Type 0 where
  pub place : ℕ
  pub set : ℕ × ℕ
  pub there : slice_get sets place ≡ Some set
  pub wrong : IsWrong p set place fault
  pub before : AreRightBefore p sets place
