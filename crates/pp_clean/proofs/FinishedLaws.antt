-- A finished program keeps the meaning.
use Rattle.std.proofs.Common.{ℕ, ◌<◌, length}
use Rattle.pp_program.specs.declared.program.State.{State}
use Rattle.pp_program.specs.declared.program.Program.{Program}
use Rattle.pp_clean.specs.Map.{mapped_state}
use Rattle.pp_clean.specs.Keeps.{Keeps}
use Rattle.pp_clean.specs.Skip.{landing, skipped}
use Rattle.pp_clean.specs.Reach.{picked, rank, reached, trimmed}
use Rattle.pp_clean.specs.Merge.{merged_state, merged_program, Ascend, EdgesAre}
use Rattle.pp_clean.specs.Finished.{AllStates, IsFinishable, finished}
use Rattle.pp_clean.proofs.KeepsLaws.{Keeps-trans}
use Rattle.pp_clean.proofs.SkipLaws.{skipped_keeps}
use Rattle.pp_clean.proofs.ReachLaws.{trimmed_keeps}
use Rattle.pp_clean.proofs.MergeLaws.{merged_keeps}
use Rattle.pp_clean.proofs.NamesLaws.{renamed_keeps}
use Rattle.pp_clean.proofs.MappedLaws.{states_map, states_picked, skipped_range, ascend_instr}

module _ (p : Program) where
  -- what mapping the moves keeps holds of the states that stay, too
  pub states_trimmed : (P : State → Type 0) → ((f : ℕ → ℕ) (s : State) → P s → P (mapped_state f s)) → AllStates P p.states → AllStates P (trimmed (skipped p)).states
  states_trimmed P keeps all =
      let q : Program = skipped p in
      let f : ℕ → ℕ = rank (reached q) in
      states_map P P (mapped_state f) (keeps f) (picked (reached q) q.states)
      (states_picked P (reached q) q.states (states_map P P (mapped_state (landing p.states)) (keeps (landing p.states)) p.states all))

  pub trimmed_ascend : IsFinishable p → AllStates (λ s. EdgesAre (Ascend 0) s.instr) (trimmed (skipped p)).states
  trimmed_ascend h = states_trimmed (λ s. EdgesAre (Ascend 0) s.instr) (λ f s. ascend_instr f s.instr) h.ascend

  pub merged_origins : IsFinishable p → AllStates (λ s. s.origin < length p.names) (merged_program (trimmed (skipped p))).states
  merged_origins h =
      let P : State → Type 0 = λ s. s.origin < length p.names in
      states_map P P merged_state (λ s o. o) (trimmed (skipped p)).states (states_trimmed P (λ f s o. o) h.origins)

-- the finished program keeps the meaning
pub finished_keeps : (p : Program) → IsFinishable p → Keeps p (finished p)
finished_keeps p h =
    let q : Program = skipped p in
    let r : Program = trimmed q in
    let s : Program = merged_program r in
    Keeps-trans p q (finished p) (skipped_keeps p h.numberless)
    (Keeps-trans q r (finished p) (trimmed_keeps q (skipped_range p h.range))
    (Keeps-trans r s (finished p) (merged_keeps r (λ n x e. trimmed_ascend p h n x e))
    (renamed_keeps s (merged_origins p h))))
