use Rattle.std.proofs.Common.{length, replicate}
use Rattle.pp_engine.proofs.SetLaws.{Tried}
use Rattle.pp_engine.proofs.sets.values_for.Given as goal

abbrev pub invariant-loop-i : goal.invariant-loop-i
invariant-loop-i l = Tried l.program.program l.sets (replicate (length l.program.program.props) 0) l.props l.i
