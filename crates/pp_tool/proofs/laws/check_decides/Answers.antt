use Rattle.pp_tool.specs.declared.refusal.Refusal.TheVariants as refusal
use Rattle.pp_tool.proofs.CheckLaws.{check_refused, check_given}
use Rattle.pp_tool.proofs.laws.check_decides.Goals as goal

pub returns-clause-graph : goal.returns-clause-graph
returns-clause-graph c bytes before reason = check_refused bytes (refusal.Graph reason) before

pub returns-clause-check : goal.returns-clause-check
returns-clause-check c bytes before reason = check_refused bytes (refusal.Check reason) before

pub returns-clause-lines : goal.returns-clause-lines
returns-clause-lines c bytes lines = check_given bytes lines
