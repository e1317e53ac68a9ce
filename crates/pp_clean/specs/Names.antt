-- A program with the names of its own states alone.
use Rattle.std.specs.Prelude.{ℕ, suc, List, [], ◌∷◌, Bool, map, ◌==◌}
use Rattle.std.specs.List.{list_any}
use Rattle.pp_program.specs.declared.program.State.{State}
use Rattle.pp_program.specs.declared.program.Program.{Program}
use Rattle.pp_clean.specs.Reach.{picked, rank}

-- for each of the names from the n-th on, whether a state has it as its origin
abbrev pub used_from : List State → ℕ → List (List ℕ) → List Bool
used_from states n [] = []
used_from states n (name ∷ names) = list_any (λ (s : State). s.origin == n) states ∷ used_from states (suc n) names

-- for each name, whether a state has it as its origin
abbrev pub used : Program → List Bool
used p = used_from p.states 0 p.names

-- a state with another origin
abbrev pub moved_origin : (ℕ → ℕ) → State → State
moved_origin f s = record s { origin = f s.origin }

-- a program with those names alone, in their order
abbrev pub renamed : Program → Program
renamed p = record p { names = picked (used p) p.names; states = map (moved_origin (rank (used p))) p.states }
