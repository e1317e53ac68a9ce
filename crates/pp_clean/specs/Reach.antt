-- A program without the states that nothing leads to.
use Rattle.std.specs.Prelude.{◌≡◌, ℕ, zero, suc, ◌+◌, ◌<◌, List, [], ◌∷◌, ◌++◌, Option, Some, None, Bool, true, false, map, set, length, replicate, slice_get, Contains}
use Rattle.pp_program.specs.declared.program.State.{State}
use Rattle.pp_program.specs.declared.program.Program.{Program}
use Rattle.pp_clean.specs.Map.{targets, mapped_state}

-- those of a list that are marked
abbrev pub picked : {X : Type 0} → List Bool → List X → List X
picked [] xs = []
picked (m ∷ marks) [] = []
picked (true ∷ marks) (x ∷ xs) = x ∷ picked marks xs
picked (false ∷ marks) (x ∷ xs) = picked marks xs

-- how many are marked before a place: the place among the marked ones
abbrev pub rank : List Bool → ℕ → ℕ
rank [] n = 0
rank (m ∷ marks) zero = 0
rank (true ∷ marks) (suc n) = suc (rank marks n)
rank (false ∷ marks) (suc n) = rank marks n

-- where a state leads, if there is one
abbrev pub state_targets : Option State → List ℕ
state_targets None = []
state_targets (Some s) = targets s.instr

-- where the edges of the state at a place lead
abbrev pub leads_to : List State → ℕ → List ℕ
leads_to states n = state_targets (slice_get states n)

-- Edges lead from the entry to a place.
pub data Reaches (states : List State) (entry : ℕ) : ℕ → Type 0 where
  at_entry : Reaches states entry entry
  by_edge : {n t : ℕ} → Reaches states entry n → Contains (leads_to states n) t → Reaches states entry t

-- what a worklist does with its first place, by its mark
abbrev pub sweep_on : (List ℕ → List Bool → List Bool) → List ℕ → ℕ → List ℕ → List Bool → Option Bool → List Bool
sweep_on go next n work marks (Some false) = go (next ++ work) (set marks n true)
sweep_on go next n work marks (Some true) = go work marks
sweep_on go next n work marks None = go work marks

-- marks what can be reached from the places of a worklist, in so many steps
abbrev pub sweep : List State → ℕ → List ℕ → List Bool → List Bool
sweep states zero work marks = marks
sweep states (suc k) [] marks = marks
sweep states (suc k) (n ∷ work) marks = sweep_on (sweep states k) (leads_to states n) n work marks (slice_get marks n)

-- how many edges there are
abbrev pub edges_of : List State → ℕ
edges_of [] = 0
edges_of (s ∷ states) = length (targets s.instr) + edges_of states

-- for each state, whether the entry reaches it
abbrev pub reached : Program → List Bool
reached p = sweep p.states (suc (edges_of p.states)) (p.entry ∷ []) (replicate (length p.states) false)

-- a program with the marked states alone, in their order
abbrev pub trimmed_by : Program → List Bool → Program
trimmed_by p marks = record p { states = map (mapped_state (rank marks)) (picked marks p.states); entry = rank marks p.entry }

-- a program with the states alone that the entry reaches
abbrev pub trimmed : Program → Program
trimmed p = trimmed_by p (reached p)

-- the entry and all edges lead to states
pub record IsInRange (p : Program) : Type 0 where
  pub entry : p.entry < length p.states
  pub edges : (n t : ℕ) → Contains (leads_to p.states n) t → t < length p.states

-- The marks are those of the places that the entry reaches.
pub record IsReach (p : Program) (marks : List Bool) : Type 0 where
  pub long : length marks ≡ length p.states
  pub entry : slice_get marks p.entry ≡ Some true
  pub closed : (n t : ℕ) → slice_get marks n ≡ Some true → Contains (leads_to p.states n) t → slice_get marks t ≡ Some true
  pub only : (n : ℕ) → slice_get marks n ≡ Some true → Reaches p.states p.entry n
