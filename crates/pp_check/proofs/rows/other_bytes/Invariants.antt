use Rattle.pp_bytes.specs.Fold.{folded}
use Rattle.pp_check.specs.steps.Ends.{IsOtherByte}
use Rattle.pp_check.proofs.KeyLemmas.{HoldsBelow}
use Rattle.pp_check.proofs.rows.other_bytes.Given as goal

abbrev pub invariant-loop-b : goal.invariant-loop-b
invariant-loop-b l = HoldsBelow (λ x. IsOtherByte l.keys l.peeks (folded l.fold x)) l.bytes l.b
