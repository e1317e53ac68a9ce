-- A program without the moves to empty states that have others behind them. An empty state needs no byte.
use Rattle.std.specs.Prelude.{◌≡◌, ℕ, zero, suc, List, [], ◌∷◌, Option, Some, None, map, length, slice_get, if◌then◌else◌, unwrap_or}
use Rattle.pp_program.specs.declared.program.Edge.{Edge}
use Rattle.pp_program.specs.declared.program.Rest.{Rest}
use Rattle.pp_program.specs.declared.program.Instr.{Instr}
use Rattle.pp_program.specs.declared.program.Instr.TheVariants.{Branch, Invoke, Consume, SpanOpen, SpanClose, Pause, Fail}
use Rattle.pp_program.specs.declared.program.State.{State}
use Rattle.pp_program.specs.declared.program.Program.{Program}
use Rattle.pp_clean.specs.Map.{mapped_state, EachMove}

-- where a branch leads that needs no byte
abbrev pub branch_past : List (ℕ × ℕ) → List Edge → Rest → Option ℕ
branch_past [] [] rest = if rest.skip then None else Some rest.target
branch_past [] (e ∷ edges) rest = None
branch_past (r ∷ stay) edges rest = None

-- where an instruction leads that needs no byte and does nothing
abbrev pub instr_past : Instr → Option ℕ
instr_past (Branch fold stay edges rest) = branch_past stay edges rest
instr_past (Invoke code answers other) = None
instr_past (Consume prop next) = None
instr_past (SpanOpen span next) = None
instr_past (SpanClose span next) = None
instr_past (Pause code reason next) = None
instr_past (Fail code reason) = None

-- where a state leads, if there is one and it is empty
abbrev pub state_past : Option State → Option ℕ
state_past None = None
state_past (Some s) = instr_past s.instr

-- the same of the state at a place
abbrev pub past : List State → ℕ → Option ℕ
past states n = state_past (slice_get states n)

-- this place, or on from where its empty state leads
abbrev pub on_past : (ℕ → Option ℕ) → ℕ → Option ℕ → Option ℕ
on_past go n None = Some n
on_past go n (Some t) = go t

-- the first of so many places in a row, from n on, at which no empty state stands
abbrev pub full_within : List State → ℕ → ℕ → Option ℕ
full_within states zero n = None
full_within states (suc k) n = on_past (full_within states k) n (past states n)

-- the first place at or behind n at which no empty state stands, if there is one
abbrev pub behind : List State → ℕ → Option ℕ
behind states n = full_within states (suc (length states)) n

-- where a move to n goes: there, or to n itself where the empty states have no end
abbrev pub landing : List State → ℕ → ℕ
landing states n = unwrap_or (behind states n) n

-- the program whose entry and moves lead there
abbrev pub skipped : Program → Program
skipped p = record p { states = map (mapped_state (landing p.states)) p.states; entry = landing p.states p.entry }

-- a number that isn't 0 is carried to no empty state
abbrev pub NoNumber : List State → ℕ → ℕ → Type 0
NoNumber states n number = (t : ℕ) → past states n ≡ Some t → number ≡ 0

-- the number that the rest of a branch carries
abbrev pub rest_number : Instr → Option ℕ
rest_number (Branch fold stay edges rest) = rest.number
rest_number (Invoke code answers other) = None
rest_number (Consume prop next) = None
rest_number (SpanOpen span next) = None
rest_number (SpanClose span next) = None
rest_number (Pause code reason next) = None
rest_number (Fail code reason) = None

-- Empty states carry no number, and none is carried to them.
pub record IsNumberless (states : List State) : Type 0 where
  pub from : (n t : ℕ) (s : State) → slice_get states n ≡ Some s → instr_past s.instr ≡ Some t → rest_number s.instr ≡ None
  pub onto : (n : ℕ) (s : State) → slice_get states n ≡ Some s → EachMove (NoNumber states) s.instr
