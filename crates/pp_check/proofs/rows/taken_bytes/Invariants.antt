use Rattle.pp_bytes.specs.Fold.{folded}
use Rattle.pp_check.specs.steps.Ends.{StopsBehind}
use Rattle.pp_check.proofs.KeyLemmas.{HoldsBelow}
use Rattle.pp_check.proofs.rows.taken_bytes.Given as goal

abbrev pub invariant-loop-b : goal.invariant-loop-b
invariant-loop-b l = HoldsBelow (λ x. StopsBehind l.fold l.keys (folded l.fold x)) l.bytes l.b
