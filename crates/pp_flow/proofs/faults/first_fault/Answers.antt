use Rattle.std.proofs.Common.{◌≡◌, Option, length, arith, subst, below_more}
use Rattle.pp_flow.specs.declared.faults.SpanFault.{SpanFault}
use Rattle.pp_flow.specs.steps.Bits.{Has}
use Rattle.pp_flow.specs.Faults.{HasNoFault}
use Rattle.pp_flow.specs.steps.Faults.{IsToldAt}
use Rattle.pp_flow.proofs.faults.first_fault.Goals as goal

pub loop-node-preserved : goal.loop-node-preserved
loop-node-preserved c =
    below_more (λ m. HasNoFault (λ b n. Has c.args.words.now n b) c.args.acts.now m) _ c.loop-node.invariant
    (subst (λ (o : Option SpanFault). IsToldAt (λ b n. Has c.args.words.now n b) c.args.acts.now c.loop-node.node o) c.in_default.is c.fault_at.ensures)

pub returns-clause-none : goal.returns-clause-none
returns-clause-none c m h =
    let end : c.loop-node.node ≡ length c.args.acts.now = omega arith in
    c.loop-node.invariant m (omega arith)
