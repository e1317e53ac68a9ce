-- A finished program has no longer a file.
use Rattle.std.proofs.Common.{ℕ, ◌≤◌, List, [], ◌∷◌, Bool, true, false, cond, arith, map, length}
use Rattle.std.specs.Prelude.{sum_by}
use Rattle.std.proofs.lemmas.List.{length-map}
use Rattle.std.proofs.lemmas.List.Sums.{sum_by-cons}
use Rattle.pp_program.specs.declared.program.Edge.{Edge}
use Rattle.pp_program.specs.declared.program.Instr.{Instr}
use Rattle.pp_program.specs.declared.program.Instr.TheVariants.{Branch, Invoke, Consume, SpanOpen, SpanClose, Pause, Fail}
use Rattle.pp_program.specs.declared.program.Program.{Program}
use Rattle.pp_program.specs.FileLength.{text_length, edge_length, instr_length, state_length, file_length}
use Rattle.pp_program.specs.Merge.{joins, joined, merged_from, merged}
use Rattle.pp_clean.specs.Map.{mapped_edge, mapped_answer, mapped, mapped_state}
use Rattle.pp_clean.specs.Skip.{landing, skipped}
use Rattle.pp_clean.specs.Reach.{picked, rank, reached, trimmed}
use Rattle.pp_clean.specs.Merge.{merged_instr, merged_state, merged_program}
use Rattle.pp_clean.specs.Names.{used, moved_origin}
use Rattle.pp_clean.specs.Finished.{finished}

-- where no item is more than it was, neither is the sum
pub sum_by-map : {X : Type 0} (f : X → ℕ) (g : X → X) → ((x : X) → f (g x) ≤ f x) → (xs : List X) → sum_by f (map g xs) ≤ sum_by f xs
sum_by-map f g h [] = omega arith
sum_by-map f g h (x ∷ xs) = omega (arith, sum_by-cons f (g x) (map g xs), sum_by-cons f x xs, h x, sum_by-map f g h xs)

-- nor is that of the picked ones
pub sum_by-picked : {X : Type 0} (f : X → ℕ) (marks : List Bool) (xs : List X) → sum_by f (picked marks xs) ≤ sum_by f xs
sum_by-picked f [] xs = omega arith
sum_by-picked f (m ∷ marks) [] = omega arith
sum_by-picked f (true ∷ marks) (x ∷ xs) = omega (arith, sum_by-cons f x (picked marks xs), sum_by-cons f x xs, sum_by-picked f marks xs)
sum_by-picked f (false ∷ marks) (x ∷ xs) = omega (arith, sum_by-cons f x xs, sum_by-picked f marks xs)

pub length-picked : {X : Type 0} (marks : List Bool) (xs : List X) → length (picked marks xs) ≤ length xs
length-picked [] xs = omega arith
length-picked (m ∷ marks) [] = omega arith
length-picked (true ∷ marks) (x ∷ xs) = omega (arith, length-picked marks xs)
length-picked (false ∷ marks) (x ∷ xs) = omega (arith, length-picked marks xs)

merged_edges : (edges : List Edge) → sum_by edge_length (merged edges) ≤ sum_by edge_length edges
merged_edges [] = omega arith
merged_edges (e ∷ edges) = behind edges e
  where
    behind : (l : List Edge) (e : Edge) → sum_by edge_length (merged_from e l) ≤ sum_by edge_length (e ∷ l)
    behind [] e = omega arith
    behind (f ∷ l) e = go (joins e f) (behind l (joined e f)) (behind l f)
      where
        go : (v : Bool) → sum_by edge_length (merged_from (joined e f) l) ≤ sum_by edge_length (joined e f ∷ l) → sum_by edge_length (merged_from f l) ≤ sum_by edge_length (f ∷ l) →
            sum_by edge_length (cond v (merged_from (joined e f) l) (e ∷ merged_from f l)) ≤ sum_by edge_length (e ∷ f ∷ l)
        go true p q = omega (arith, p, sum_by-cons edge_length (joined e f) l, sum_by-cons edge_length e (f ∷ l), sum_by-cons edge_length f l)
        go false p q = omega (arith, q, sum_by-cons edge_length e (merged_from f l), sum_by-cons edge_length e (f ∷ l))

-- an instruction that leads elsewhere is no longer
mapped_length : (f : ℕ → ℕ) (i : Instr) → instr_length (mapped f i) ≤ instr_length i
mapped_length f (Branch fold stay edges rest) = omega (arith, sum_by-map edge_length (mapped_edge f) (λ e. omega arith) edges)
mapped_length f (Invoke code answers other) = omega (arith, length-map answers (mapped_answer f))
mapped_length f (Consume prop next) = omega arith
mapped_length f (SpanOpen span next) = omega arith
mapped_length f (SpanClose span next) = omega arith
mapped_length f (Pause code reason next) = omega arith
mapped_length f (Fail code reason) = omega arith

-- nor is one with its edges merged
merged_length : (i : Instr) → instr_length (merged_instr i) ≤ instr_length i
merged_length (Branch fold stay edges rest) = omega (arith, merged_edges edges)
merged_length (Invoke code answers other) = omega arith
merged_length (Consume prop next) = omega arith
merged_length (SpanOpen span next) = omega arith
merged_length (SpanClose span next) = omega arith
merged_length (Pause code reason next) = omega arith
merged_length (Fail code reason) = omega arith

module _ (p : Program) where
  states_length : sum_by state_length (finished p).states ≤ sum_by state_length p.states
  states_length =
      let q : Program = skipped p in
      let r : Program = trimmed q in
      let m : Program = merged_program r in
      let skip : sum_by state_length q.states ≤ sum_by state_length p.states =
      sum_by-map state_length (mapped_state (landing p.states)) (λ s. omega (arith, mapped_length (landing p.states) s.instr)) p.states in
      let pick : sum_by state_length (picked (reached q) q.states) ≤ sum_by state_length q.states = sum_by-picked state_length (reached q) q.states in
      let trim : sum_by state_length r.states ≤ sum_by state_length (picked (reached q) q.states) =
      sum_by-map state_length (mapped_state (rank (reached q))) (λ s. omega (arith, mapped_length (rank (reached q)) s.instr)) (picked (reached q) q.states) in
      let merge : sum_by state_length m.states ≤ sum_by state_length r.states = sum_by-map state_length merged_state (λ s. omega (arith, merged_length s.instr)) r.states in
      let move : sum_by state_length (finished p).states ≤ sum_by state_length m.states = sum_by-map state_length (moved_origin (rank (used m))) (λ s. omega arith) m.states in
      omega (arith, skip, pick, trim, merge, move)

  names_length : sum_by text_length (finished p).names ≤ sum_by text_length p.names
  names_length = sum_by-picked text_length (used (merged_program (trimmed (skipped p)))) p.names

  -- the file is no longer
  pub finished_length : file_length (finished p) ≤ file_length p
  finished_length = omega (arith, states_length, names_length)

  pub fewer_names : length (finished p).names ≤ length p.names
  fewer_names = length-picked (used (merged_program (trimmed (skipped p)))) p.names

  pub fewer_states : length (finished p).states ≤ length p.states
  fewer_states =
      let q : Program = skipped p in
      let r : Program = trimmed q in
      let m : Program = merged_program r in
      omega (
        arith,
        length-map m.states (moved_origin (rank (used m))),
        length-map r.states merged_state,
        length-map (picked (reached q) q.states) (mapped_state (rank (reached q))),
        length-picked (reached q) q.states,
        length-map p.states (mapped_state (landing p.states)),
      )
