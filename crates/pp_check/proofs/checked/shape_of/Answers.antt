use Rattle.std.proofs.Common.{List, ℕ, length, subst, sym}
use Rattle.pp_flow.specs.Faults.{IsFitting, IsFirstFault}
use Rattle.pp_flow.specs.Loops.{IsJudged, IsLeastLoop as IsLeastLoopOf, IsWithoutLoop}
use Rattle.pp_flow.specs.Spans.{MayStand}
use Rattle.pp_check.specs.Loops.{IsLeastLoop}
use Rattle.pp_check.specs.Checked.{IsChecked, IsFault, told}
use Rattle.pp_check.specs.declared.checked.CheckFault.{CheckFault}
use Rattle.pp_check.specs.declared.checked.CheckFault.TheVariants.{Loop}
use Rattle.pp_check.proofs.OneAnswerLemmas.{no_fault, told_alike}
use Rattle.pp_check.proofs.ShapeLemmas.{loop-told, fault-told, found-told}
use Rattle.pp_check.proofs.checked.shape_of.Goals as goal

pub returns-in-Loop-clause-fault : goal.returns-in-Loop-clause-fault
returns-in-Loop-clause-fault c =
    let g = c.args.graph.now in
    let flow = c.in_ok-flow.flow in
    let loop : IsLeastLoopOf flow.moves flow.entry c.in-Loop.byte c.in-Loop.cycle.items = subst (IsJudged flow.moves flow.entry (length flow.acts)) c.in-Loop.is c.in_ok-byte.ensures in
    subst (λ (cycle : List ℕ). IsLeastLoop g c.in-Loop.byte cycle) (sym c.of.ensures)
    (loop-told g flow c.in_ok-flow.ensures.well_formed c.in_ok-flow.ensures.flow c.in_ok-flow.ensures.whole c.in-Loop.byte c.in-Loop.cycle.items loop)

pub returns-in-Loop-clause-accepted : goal.returns-in-Loop-clause-accepted
returns-in-Loop-clause-accepted c free fit = no_fault c.args.graph.now (Loop c.in-Loop.byte c.of.result) free fit (returns-in-Loop-clause-fault c)

pub returns-in-Loop-clause-alike : goal.returns-in-Loop-clause-alike
returns-in-Loop-clause-alike c fault some is = told_alike c.args.graph.now fault (Loop c.in-Loop.byte c.of.result) some is (returns-in-Loop-clause-fault c)

pub returns-in-Fault-clause-fault : goal.returns-in-Fault-clause-fault
returns-in-Fault-clause-fault c =
    let g = c.args.graph.now in
    let flow = c.in_ok-flow.flow in
    let free : IsWithoutLoop flow.moves flow.entry (length flow.acts) c.in-Gap.gap = subst (IsJudged flow.moves flow.entry (length flow.acts)) c.in-Gap.is c.in_ok-byte.ensures in
    let first : IsFirstFault (MayStand flow.moves flow.acts flow.entry) flow.acts c.in-Fault.fault = subst (IsFitting flow.moves flow.acts flow.entry (length flow.acts)) c.in-Fault.is c.in_ok-fault.ensures in
    subst (λ (fault : CheckFault). IsFault g fault) (sym c.fault_of.ensures)
    (fault-told g flow c.in_ok-flow.ensures.well_formed c.in_ok-flow.ensures.flow c.in_ok-flow.ensures.whole c.in-Gap.gap free c.in-Fault.fault first)

pub returns-in-Fault-clause-accepted : goal.returns-in-Fault-clause-accepted
returns-in-Fault-clause-accepted c free fit = no_fault c.args.graph.now c.fault_of.result free fit (returns-in-Fault-clause-fault c)

pub returns-in-Fault-clause-alike : goal.returns-in-Fault-clause-alike
returns-in-Fault-clause-alike c fault some is = told_alike c.args.graph.now fault c.fault_of.result some is (returns-in-Fault-clause-fault c)

pub returns-clause-found : goal.returns-clause-found
returns-clause-found c =
    let g = c.args.graph.now in
    let flow = c.in_ok-flow.flow in
    let free : IsWithoutLoop flow.moves flow.entry (length flow.acts) c.in-Gap.gap = subst (IsJudged flow.moves flow.entry (length flow.acts)) c.in-Gap.is c.in_ok-byte.ensures in
    let fits = subst (IsFitting flow.moves flow.acts flow.entry (length flow.acts)) c.in-Fit.is c.in_ok-fault.ensures in
    found-told g flow c.in_ok-flow.ensures.well_formed c.in_ok-flow.ensures.flow c.in_ok-flow.ensures.whole c.in-Gap.gap free c.in-Fit.opened.items fits.0 fits.1

pub returns-clause-refused : goal.returns-clause-refused
returns-clause-refused c fault some is =
    let found : IsChecked (told c.args.graph.now (record { gap = c.in-Gap.gap; opened = c.in-Fit.opened.items })) = returns-clause-found c in
    some (no_fault c.args.graph.now fault found.loop_free found.spans_fit is)
