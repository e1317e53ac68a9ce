use Rattle.pp_flow.specs.steps.Spans.{TellsMasks}
use Rattle.pp_flow.proofs.faults.masks.Given as goal

abbrev pub invariant-loop-node : goal.invariant-loop-node
invariant-loop-node l = TellsMasks l.words l.node l.masks.items
