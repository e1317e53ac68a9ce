use Rattle.pp_flow.specs.steps.Parts.{Marks}
use Rattle.pp_flow.proofs.parts.mark.Given as goal

abbrev pub invariant-loop-k : goal.invariant-loop-k
invariant-loop-k l = Marks l.moves l.b l.numbers l.k l.inside
