use Rattle.std.proofs.Common.{subst, length}
use Rattle.pp_flow.specs.Faults.{IsFitting}
use Rattle.pp_program.proofs.VerifyLemmas.{spans-hold, spans-broken}
use Rattle.pp_program.proofs.verification.try_spans.Goals as goal

pub returns-in-Fit-clause-ok : goal.returns-in-Fit-clause-ok
returns-in-Fit-clause-ok c =
    spans-hold c.args.program.now c.args.flow.now c.requires.targets c.requires.flow c.requires.told c.requires.acts c.in-Fit.opened.items
    (subst (IsFitting c.args.flow.now.moves c.args.flow.now.acts c.args.flow.now.entry (length c.args.flow.now.acts)) c.in-Fit.is c.in_ok-opened.ensures)

pub returns-in-Fault-clause-broken : goal.returns-in-Fault-clause-broken
returns-in-Fault-clause-broken c =
    spans-broken c.args.program.now c.args.flow.now c.requires.targets c.requires.flow c.requires.told c.requires.acts c.in-Fault.fault c.node_of.result c.node_of.ensures c.requires.widths c.requires.loops
    (subst (IsFitting c.args.flow.now.moves c.args.flow.now.acts c.args.flow.now.entry (length c.args.flow.now.acts)) c.in-Fault.is c.in_ok-opened.ensures)
