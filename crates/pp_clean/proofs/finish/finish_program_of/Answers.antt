use Rattle.std.proofs.Common.{subst, ◌≡◌, sym}
use Rattle.std.proofs.lemmas.Result.{IfOk-weaker}
use Rattle.pp_program.specs.declared.program.Program.{Program}
use Rattle.pp_clean.specs.Keeps.{Keeps}
use Rattle.pp_clean.specs.Finished.{IsFinished, finished}
use Rattle.pp_clean.proofs.FinishedLaws.{finished_keeps}
use Rattle.pp_clean.proofs.ResultLaws.{finished_is}
use Rattle.pp_clean.proofs.finish.finish_program_of.Goals as goal

pub returns-clause-keeps : goal.returns-clause-keeps
returns-clause-keeps c =
    let p : Program = c.args.program.now in
    IfOk-weaker c.final_form.result (λ q. q ≡ finished p) (Keeps p) (λ q e. subst (Keeps p) (sym e) (finished_keeps p c.requires.finishable)) c.final_form.ensures

pub returns-clause-form : goal.returns-clause-form
returns-clause-form c =
    let p : Program = c.args.program.now in
    IfOk-weaker c.final_form.result (λ q. q ≡ finished p) IsFinished (λ q e. subst IsFinished (sym e) (finished_is p c.requires.finishable)) c.final_form.ensures
