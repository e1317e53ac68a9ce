-- The final form of a program.
use Rattle.std.specs.Prelude.{◌≡◌, ℕ, ◌<◌, List, Some, None, true, length, slice_get}
use Rattle.pp_program.specs.declared.program.State.{State}
use Rattle.pp_program.specs.declared.program.Program.{Program}
use Rattle.pp_program.specs.Targets.{may_follow, in_row}
use Rattle.pp_clean.specs.Skip.{past, full_within, skipped, IsNumberless}
use Rattle.pp_clean.specs.Reach.{Reaches, trimmed, IsInRange}
use Rattle.pp_clean.specs.Merge.{merged_program, Ascend, EdgesAre}
use Rattle.pp_clean.specs.Names.{renamed}

-- without moves to empty states, then without states that nothing leads to, then with merged edges, and with the names
-- of its own states alone
abbrev pub finished : Program → Program
finished p = renamed (merged_program (trimmed (skipped p)))

-- this holds of each state
abbrev pub AllStates : (State → Type 0) → List State → Type 0
AllStates P states = (n : ℕ) (s : State) → slice_get states n ≡ Some s → P s

-- A program that can be finished: empty states carry no number and get none, the entry and all edges lead to states, the
-- edges of each branch ascend, and each state comes from a node with a name.
pub record IsFinishable (p : Program) : Type 0 where
  pub numberless : IsNumberless p.states
  pub range : IsInRange p
  pub ascend : AllStates (λ s. EdgesAre (Ascend 0) s.instr) p.states
  pub origins : AllStates (λ s. s.origin < length p.names) p.states

-- at this place and behind it there are empty states without an end
abbrev pub IsEndless : List State → ℕ → Type 0
IsEndless states n = (k : ℕ) → full_within states k n ≡ None

-- A finished program: the entry and all edges lead to states, the entry leads to each state, a state is empty only where
-- no other one is behind it, the edges of each branch ascend and none goes on with the one before it, each state comes
-- from a node with a name, and each name is that of a state's node.
pub record IsFinished (p : Program) : Type 0 where
  pub range : IsInRange p
  pub reachable : (n : ℕ) → n < length p.states → Reaches p.states p.entry n
  pub full : (n t : ℕ) → past p.states n ≡ Some t → IsEndless p.states n
  pub ascend : AllStates (λ s. EdgesAre (Ascend 0) s.instr) p.states
  pub in_row : AllStates (λ s. EdgesAre (λ edges. in_row may_follow edges ≡ true) s.instr) p.states
  pub origins : AllStates (λ s. s.origin < length p.names) p.states
  pub names : (i : ℕ) → i < length p.names → (n : ℕ) × (s : State) × (slice_get p.states n ≡ Some s) × (s.origin ≡ i)
