use Rattle.pp_flow.specs.steps.Judging.{Judging}
use Rattle.pp_flow.proofs.loops.judge.Given as goal

abbrev pub invariant-loop-number : goal.invariant-loop-number
invariant-loop-number l = Judging l.moves l.entry l.number l.gap
