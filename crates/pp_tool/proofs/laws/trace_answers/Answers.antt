use Rattle.pp_tool.specs.Trace.{Traces}
use Rattle.pp_tool.proofs.StatusLemmas.{answered}
use Rattle.pp_tool.proofs.TraceLaws.{graph_where, check_where, too_long_where, capture_where}
use Rattle.pp_tool.proofs.laws.trace_answers.Goals as goal

pub returns-clause-graph : goal.returns-clause-graph
returns-clause-graph c bytes answer before after h = graph_where bytes answer (answered (Traces bytes) answer before after h)

pub returns-clause-check : goal.returns-clause-check
returns-clause-check c bytes answer before after h = check_where bytes answer (answered (Traces bytes) answer before after h)

pub returns-clause-too_long : goal.returns-clause-too_long
returns-clause-too_long c bytes answer before after h = too_long_where bytes answer (answered (Traces bytes) answer before after h)

pub returns-clause-capture : goal.returns-clause-capture
returns-clause-capture c bytes answer before after h = capture_where bytes answer (answered (Traces bytes) answer before after h)
