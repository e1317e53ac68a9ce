-- The first state that is so.
use Rattle.std.specs.Prelude.{◌≡◌, ℕ, ◌<◌, ◌++◌, List, Option, Some, None, slice_get, length, drop, true}
use Rattle.pp_rules.specs.Names.{is_reason}
use Rattle.pp_program.specs.Names.{reasons_of}
use Rattle.pp_program.specs.declared.program.State.{State}

-- the state at a place is so
abbrev pub IsAt : (State → Type 0) → List State → ℕ → Type 0
IsAt P states i = (s : State) × (slice_get states i ≡ Some s) × P s

-- the least place of such a state, or none where there is none
abbrev pub IsFirstState : (State → Type 0) → List State → Option ℕ → Type 0
IsFirstState P states None = (i : ℕ) → IsAt P states i → ⊥
IsFirstState P states (Some i) = IsAt P states i × ((j : ℕ) → j < i → IsAt P states j → ⊥)

-- the least number that is so, or none where there is none
abbrev pub IsFirst : (ℕ → Type 0) → Option ℕ → Type 0
IsFirst P None = (i : ℕ) → P i → ⊥
IsFirst P (Some i) = P i × ((j : ℕ) → j < i → P j → ⊥)

-- the reasons of the first i states are these, so many, and have their form
pub record PassedReasons (states : List State) (i count : ℕ) : Type 0 where
  pub front : List (List ℕ)
  pub long : length front ≡ count
  pub all : reasons_of states ≡ front ++ reasons_of (drop i states)
  pub right : (j : ℕ) (reason : List ℕ) → slice_get front j ≡ Some reason → is_reason reason ≡ true
