use Rattle.std.proofs.Common.{◌≡◌, ℕ, ◌++◌, [], ◌∷◌, take}
use Rattle.pp_lower.specs.Lowered.{inner_of, branch_of}
use Rattle.pp_lower.specs.steps.Parts.{Gives}
use Rattle.pp_lower.proofs.RowLemmas.{prefix_states}
use Rattle.pp_lower.proofs.states.push_match.Given as goal

abbrev pub invariant-loop-i : goal.invariant-loop-i
invariant-loop-i l =
    (f : ℕ → ℕ) → Gives l.roots f →
    l.states.items ≡ l.fn.states.items ++ prefix_states (branch_of f l.root l.fold l.keys l.peeks l.other) l.origin (take l.i ([] ∷ inner_of l.keys))
