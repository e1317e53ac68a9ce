use Rattle.std.proofs.Common.{take}
use Rattle.pp_check.specs.steps.Ends.{IsKeyOf}
use Rattle.pp_check.proofs.keys.is_key.Given as goal

abbrev pub invariant-loop-place : goal.invariant-loop-place
invariant-loop-place l = IsKeyOf (take l.place l.keys) l.bytes → ⊥
