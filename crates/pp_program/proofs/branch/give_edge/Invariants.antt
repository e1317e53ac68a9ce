use Rattle.pp_program.proofs.TableLemmas.{Given}
use Rattle.pp_program.proofs.branch.give_edge.Given as goal

abbrev pub invariant-loop-b : goal.invariant-loop-b
invariant-loop-b l = Given l.fn.by_byte l.edge l.b l.by_byte
