use Rattle.std.proofs.Common.{refl, arith, below_more}
use Rattle.pp_check.proofs.keys.stops_in.Goals as goal
use Rattle.pp_check.proofs.keys.stops_in.Goals.{else-not-is_key-via-then-not-is_key+else-is_live, else-not-is_key-via-else-not-is_key}

pub loop-size-preserved : goal.loop-size-preserved
loop-size-preserved c = below_more _ _ c.loop-size.invariant (elim c.else-not-is_key.branch [
  | else-not-is_key-via-then-not-is_key+else-is_live w ↦ (λ _ _ live. absurd (cc (w.if-is_live.ensures.1 live)))
  | else-not-is_key-via-else-not-is_key w ↦ (λ _ free _. free (w.if-not-is_key.ensures.0 refl))
])

pub returns : goal.returns
returns c = ((λ h. absurd (cc h)), (λ stops. absurd (c.loop-size.invariant stops.0 (omega (arith, stops.2)) stops.1 stops.3 stops.4)))
