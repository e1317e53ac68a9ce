use Rattle.std.proofs.Common.{subst, ◌≤◌, length, sym, ◌∙◌, ap, arith}
use Rattle.pp_program.specs.declared.program.Program.{Program}
use Rattle.pp_program.specs.Countable.{IsCountable}
use Rattle.pp_program.specs.Valid.{IsValid, IsBroken, IsFault}
use Rattle.pp_lower.specs.Kept.{KeepsMeaning}
use Rattle.pp_lower.specs.LoweredGraph.{IsLowered}
use Rattle.pp_clean.specs.Finished.{finished}
use Rattle.pp_clean.specs.Keeps.{Keeps}
use Rattle.pp_clean.proofs.MeaningLaws.{keeps_meaning_on}
use Rattle.pp_clean.proofs.FinalLaws.{from_finishable, from_few, final_valid, final_countable, final_few}
use Rattle.pp_clean.proofs.finish.finish_program.Goals as goal

pub finish_program_of-requires-clause-finishable : goal.finish_program_of-requires-clause-finishable
finish_program_of-requires-clause-finishable c = from_finishable c.program.result.now (subst IsLowered (sym c.program.ensures.value) c.program.ensures.lowered)

pub finish_program_of-requires-clause-states : goal.finish_program_of-requires-clause-states
finish_program_of-requires-clause-states c =
    let few : length c.program.result.now.states ≤ 24096 = from_few c.program.result.now (subst IsLowered (sym c.program.ensures.value) c.program.ensures.lowered) in
    omega (arith, few)

pub verify-requires : goal.verify-requires
verify-requires c =
    subst IsCountable (sym c.in_ok-program.ensures.is) (final_countable c.program.result.now (subst IsLowered (sym c.program.ensures.value) c.program.ensures.lowered))

pub returns-in-Ok-clause-program : goal.returns-in-Ok-clause-program
returns-in-Ok-clause-program c = c.in-Ok.ensures.ok.0 ∙ c.in_ok-program.ensures.is ∙ ap finished c.program.ensures.value

pub returns-in-Ok-clause-keeps : goal.returns-in-Ok-clause-keeps
returns-in-Ok-clause-keeps c = λ g h.
    subst (KeepsMeaning g) (sym c.in-Ok.ensures.ok.0)
    (keeps_meaning_on g c.args.lowered c.in_ok-program.program h (subst (λ (p : Program). Keeps p c.in_ok-program.program) c.program.ensures.value c.in_ok-program.ensures.keeps))

pub returns-in-Ok-clause-few : goal.returns-in-Ok-clause-few
returns-in-Ok-clause-few c =
    subst (λ (p : Program). length p.states ≤ 24096) (sym (c.in-Ok.ensures.ok.0 ∙ c.in_ok-program.ensures.is))
    (final_few c.program.result.now (subst IsLowered (sym c.program.ensures.value) c.program.ensures.lowered))

-- the final form is valid, so no rule fails
pub unreachable-requires : goal.unreachable-requires
unreachable-requires c =
    let fault : IsBroken c.in_ok-program.program c.in-Err-Broken.field-0-0 c.in-Err-Broken.field-0-1 = subst (IsFault c.in_ok-program.program) c.in-Err-Broken.field-0-is c.in-Err-Broken.ensures.broken in
    subst IsValid (sym c.in_ok-program.ensures.is) (final_valid c.program.result.now (subst IsLowered (sym c.program.ensures.value) c.program.ensures.lowered))
    c.in-Err-Broken.field-0-0 c.in-Err-Broken.field-0-1 fault.fails
