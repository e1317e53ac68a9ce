use Rattle.pp_flow.proofs.MaskLemmas.{Passing}
use Rattle.pp_flow.proofs.spread.pass.Given as goal

abbrev pub invariant-loop-quarter : goal.invariant-loop-quarter
invariant-loop-quarter l = Passing l.from l.to l.lo l.hi l.quarter l.initial.words l.words l.changed
