-- Where the states of a program go in its final form.
use Rattle.std.specs.Prelude.{◌≡◌, ℕ, ◌<◌, List, [], ◌∷◌, ◌++◌, Bool, false, length, slice_index, slice_index_or, ◌==◌, if◌then◌else◌}
use Rattle.std.specs.List.{list_any}
use Rattle.pp_program.specs.declared.program.State.{State}
use Rattle.pp_program.specs.declared.program.Program.{Program}
use Rattle.pp_clean.specs.Map.{mapped}
use Rattle.pp_clean.specs.Merge.{merged_instr}
use Rattle.pp_clean.specs.Skip.{landing, skipped}
use Rattle.pp_clean.specs.Reach.{rank, reached}
use Rattle.pp_clean.specs.Tables.{Tells}

-- the place in the final form of the state that a move to a place goes to
abbrev pub new_place : Program → ℕ → ℕ
new_place p n = rank (reached (skipped p)) (landing p.states n)

-- the states that stay are marked, and the table and the entry give the new places
pub record IsLayout (p : Program) (marks : List Bool) (places : List ℕ) (entry : ℕ) : Type 0 where
  pub marks_are : marks ≡ reached (skipped p)
  pub placed : Tells (new_place p) (length p.states) places
  pub entry_is : entry ≡ new_place p p.entry

-- a state with its moves and its origin by tables, and its edges merged
abbrev pub made_state : List ℕ → List ℕ → State → State
made_state places origins s = record { origin = slice_index origins s.origin; instr = merged_instr (mapped (λ t. slice_index places t) s.instr) }

-- the list, with one more behind it if that is marked
abbrev pub added : {X : Type 0} → Bool → List X → X → List X
added marked xs x = xs ++ (if marked then x ∷ [] else [])

-- the flags of so many names tell which of them is the origin of one of the states
pub record IsUsed (states : List State) (size : ℕ) (flags : List Bool) : Type 0 where
  pub long : length flags ≡ size
  pub at : (n : ℕ) → n < size → slice_index_or flags n false ≡ list_any (λ (s : State). s.origin == n) states
