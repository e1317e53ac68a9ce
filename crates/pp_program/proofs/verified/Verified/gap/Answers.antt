use Rattle.std.proofs.Common.{subst}
use Rattle.pp_program.specs.Runnable.{IsRunnable}
use Rattle.pp_program.specs.Valid.{Sound}
use Rattle.pp_program.proofs.RunnableLemmas.{runnable}
use Rattle.pp_program.proofs.verified.Verified.gap.Goals as goal

pub returns-clause-runnable : goal.returns-clause-runnable
returns-clause-runnable c =
    let sound : Sound = record { program = c.self.inside.program; gap = c.self.inside.gap; opened = c.self.inside.opened } in
    subst IsRunnable c.self.view_is (runnable sound c.self.invariant)
