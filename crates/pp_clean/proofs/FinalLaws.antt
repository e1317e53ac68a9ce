-- The final form of a program that comes from lowering.
use Rattle.std.proofs.Common.{subst, ◌≤◌, sym, arith, length}
use Rattle.pp_program.specs.declared.program.Program.{Program}
use Rattle.pp_program.specs.Countable.{IsCountable}
use Rattle.pp_program.specs.Valid.{IsValid}
use Rattle.pp_lower.specs.LoweredGraph.{IsLowered}
use Rattle.pp_lower.proofs.ValidLaws.{valid}
use Rattle.pp_lower.proofs.FrameLemmas.{few_states}
use Rattle.pp_clean.specs.Finished.{IsFinishable, finished}
use Rattle.pp_clean.proofs.LoweredLaws.{lowered_finishable}
use Rattle.pp_clean.proofs.StillValidLaws.{finished_valid}
use Rattle.pp_clean.proofs.CountLaws.{finished_few, valid_countable}

module _ (p : Program) (from : IsLowered p) where
  -- it is valid
  pub from_valid : IsValid p
  from_valid = subst IsValid (sym from.program_is) (valid from.graph from.well_formed from.loop_free from.spans_fit)

  -- it can be finished
  pub from_finishable : IsFinishable p
  from_finishable = subst IsFinishable (sym from.program_is) (lowered_finishable from.graph from.well_formed from.loop_free from.spans_fit)

  -- it has so many states at most
  pub from_few : length p.states ≤ 24096
  from_few = subst (λ (q : Program). length q.states ≤ 24096) (sym from.program_is) (few_states from.graph from.well_formed)

  pub from_countable : IsCountable p
  from_countable = valid_countable p from_valid

  -- its final form is valid
  pub final_valid : IsValid (finished p)
  final_valid = finished_valid p from_finishable from_valid

  pub final_countable : IsCountable (finished p)
  final_countable = valid_countable (finished p) final_valid

  pub final_few : length (finished p).states ≤ 24096
  final_few =
      let more : length (finished p).states ≤ length p.states = finished_few p in
      let few : length p.states ≤ 24096 = from_few in
      omega (arith, more, few)
