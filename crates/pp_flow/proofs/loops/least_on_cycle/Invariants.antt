use Rattle.pp_flow.specs.steps.Judging.{IsLeastSoFar}
use Rattle.pp_flow.proofs.loops.least_on_cycle.Given as goal

abbrev pub invariant-loop-number : goal.invariant-loop-number
invariant-loop-number l = IsLeastSoFar l.moves l.entry l.number l.least
