-- What stands in front was read.
use Rattle.pp_text.proofs.TokenLemmas.{IsInsideSoFar}
use Rattle.pp_text.proofs.token.inside_of.Given as goal

abbrev pub invariant-loop-i : goal.invariant-loop-i
invariant-loop-i l = IsInsideSoFar l.close l.escaped l.bytes l.i
