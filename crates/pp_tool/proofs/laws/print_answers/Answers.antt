use Rattle.pp_tool.specs.Print.{Prints}
use Rattle.pp_tool.proofs.StatusLemmas.{answered}
use Rattle.pp_tool.proofs.PrintLaws.{graph_where, no_check, no_program}
use Rattle.pp_tool.proofs.laws.print_answers.Goals as goal

pub returns-clause-graph : goal.returns-clause-graph
returns-clause-graph c bytes answer before after h = graph_where bytes answer (answered (Prints bytes) answer before after h)

pub returns-clause-no_check : goal.returns-clause-no_check
returns-clause-no_check c answer h = no_check answer h

pub returns-clause-no_program : goal.returns-clause-no_program
returns-clause-no_program c command answer h = no_program command answer h
