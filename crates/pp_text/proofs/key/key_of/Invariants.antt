use Rattle.std.proofs.Common.{length}
use Rattle.pp_text.proofs.KeyLemmas.{HasRead, GoesOnAs}
use Rattle.pp_text.proofs.key.key_of.Given as goal

abbrev pub invariant-loop-rest : goal.invariant-loop-rest
invariant-loop-rest l = record {
  read : HasRead l.inside l.rest l.key.items;
  goes_on : GoesOnAs l.inside l.rest l.key.items;
}

abbrev pub decreases-loop-rest : goal.decreases-loop-rest
decreases-loop-rest l = length l.rest
