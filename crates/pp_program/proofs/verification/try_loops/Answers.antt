use Rattle.std.proofs.Common.{subst, length}
use Rattle.pp_flow.specs.Loops.{IsJudged}
use Rattle.pp_program.proofs.VerifyLemmas.{gap-holds}
use Rattle.pp_program.proofs.verification.try_loops.Goals as goal

pub returns-clause-ok : goal.returns-clause-ok
returns-clause-ok c =
    gap-holds c.args.program.now c.args.flow.now c.requires.targets c.requires.flow c.requires.told c.requires.acts c.in-Gap.gap
    (subst (IsJudged c.args.flow.now.moves c.args.flow.now.entry (length c.args.flow.now.acts)) c.in-Gap.is c.in_ok-gap.ensures)
