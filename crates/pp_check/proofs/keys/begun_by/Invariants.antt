use Rattle.std.proofs.Common.{◌≡◌}
use Rattle.pp_bytes.specs.Fold.{folded}
use Rattle.pp_check.proofs.KeyLemmas.{HoldsBelow}
use Rattle.pp_check.proofs.keys.begun_by.Given as goal

abbrev pub invariant-loop-b : goal.invariant-loop-b
invariant-loop-b l = HoldsBelow (λ c. l.byte ≡ folded l.fold c) l.bytes l.b
