use Rattle.std.proofs.Common.{◌∙◌, ap, map}
use Rattle.pp_program.specs.declared.program.State.{State}
use Rattle.pp_program.specs.Spans.{act_of}
use Rattle.pp_program.proofs.FlowLemmas.{have-spans, lead-at, flow-more}
use Rattle.pp_program.proofs.moves.flow_of.Goals as goal

pub new-requires-clause-spans : goal.new-requires-clause-spans
new-requires-clause-spans c = have-spans c.args.program.now _ (c.in_ok-acts_of.ensures ∙ ap (map (λ (s : State). act_of s.instr)) c.items-states.ensures) c.requires

pub push_instr-requires-clause-to : goal.push_instr-requires-clause-to
push_instr-requires-clause-to c = lead-at c.args.program.now _ _ _ _ c.requires c.items-states.ensures c.loop-state-test.true c.loop-state.invariant.2

pub loop-state-preserved : goal.loop-state-preserved
loop-state-preserved c =
    flow-more c.args.program.now _ c.loop-state.state _ c.loop-state.flow c.push_instr.new.flow c.end_point.new.self c.items-states.ensures c.loop-state-test.true
    c.loop-state.invariant.0 c.loop-state.invariant.1 c.loop-state.invariant.2 c.in_ok-push_instr.ensures c.in_ok-end_point.ensures.added
