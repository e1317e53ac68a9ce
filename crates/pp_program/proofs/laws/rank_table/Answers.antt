use Rattle.pp_event.proofs.LoopLaws as loops
use Rattle.pp_program.specs.Moves.{program_moves}
use Rattle.pp_program.proofs.ValidLaws.{loop-rule}
use Rattle.pp_program.proofs.laws.rank_table.Goals as goal

pub returns : goal.returns
returns c = record {
  loop_free = λ p rank table. loops.loop_free (program_moves p) rank table;
  rule = loop-rule;
  gap = λ p rank table gap b state most reached met. loops.gap_of (program_moves p) rank table gap b state most reached met;
}
