use Rattle.std.proofs.Common.{length}
use Rattle.pp_text.proofs.SpelledSetLemmas.{HasReadItems, AllGoOn}
use Rattle.pp_text.proofs.key.set_of.Given as goal

abbrev pub invariant-loop-rest : goal.invariant-loop-rest
invariant-loop-rest l = record {
  read : HasReadItems l.inside l.rest l.set;
  go_on : AllGoOn l.inside l.rest l.set;
}

abbrev pub decreases-loop-rest : goal.decreases-loop-rest
decreases-loop-rest l = length l.rest
