use Rattle.pp_rules.proofs.LookingBackLemmas.{AreBelow}
use Rattle.pp_rules.proofs.rules.looking_back.first_of_set.Given as goal

abbrev pub invariant-loop-byte : goal.invariant-loop-byte
invariant-loop-byte l = AreBelow l.rule l.how l.bytes l.fn.seen l.seen l.byte l.rank
