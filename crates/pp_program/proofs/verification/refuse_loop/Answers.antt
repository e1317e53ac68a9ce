use Rattle.std.proofs.Common.{subst}
use Rattle.pp_flow.specs.Loops.{IsLeastOnCycles}
use Rattle.pp_program.proofs.VerifyLemmas.{loop-broken}
use Rattle.pp_program.proofs.verification.refuse_loop.Goals as goal

pub returns-clause-broken : goal.returns-clause-broken
returns-clause-broken c =
    loop-broken c.args.program.now c.args.flow.now c.requires.targets c.requires.flow c.requires.told c.requires.acts c.in-Some.at c.requires.widths
    (subst (IsLeastOnCycles c.args.flow.now.moves c.args.flow.now.entry) c.in-Some.is c.in_ok-at.ensures)
