use Rattle.pp_mean.specs.Loops.{graph_moves}
use Rattle.pp_event.proofs.LoopLaws.{loop_free, gap_of}
use Rattle.pp_check.proofs.laws.rank_table.Goals as goal

pub returns-clause-loop_free : goal.returns-clause-loop_free
returns-clause-loop_free c g rank table = loop_free (graph_moves g) rank table

pub returns-clause-gap : goal.returns-clause-gap
returns-clause-gap c g rank table gap b node most r e = gap_of (graph_moves g) rank table gap b node most r e
