use Rattle.pp_engine.proofs.OpenLaws.{OpenUpTo}
use Rattle.pp_engine.proofs.opened.open_bits.Given as goal

abbrev pub invariant-loop-span : goal.invariant-loop-span
invariant-loop-span l = OpenUpTo l.spans l.bits l.span
