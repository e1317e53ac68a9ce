use Rattle.pp_tool.specs.Check.{IsCheckedAs}
use Rattle.pp_tool.proofs.StatusLemmas.{answered}
use Rattle.pp_tool.proofs.CheckLaws.{graph_where, check_where, no_capture}
use Rattle.pp_tool.proofs.laws.check_answers.Goals as goal

pub returns-clause-graph : goal.returns-clause-graph
returns-clause-graph c bytes answer before after h = graph_where bytes answer (answered (IsCheckedAs bytes) answer before after h)

pub returns-clause-check : goal.returns-clause-check
returns-clause-check c bytes answer before after h = check_where bytes answer (answered (IsCheckedAs bytes) answer before after h)

pub returns-clause-no_capture : goal.returns-clause-no_capture
returns-clause-no_capture c answer h = no_capture answer h
