use Rattle.pp_lower.proofs.ValidLaws.{targets, widths, loops, spans, names, valid}
use Rattle.pp_lower.proofs.laws.lowered_is_valid.Goals as goal

pub returns-clause-targets : goal.returns-clause-targets
returns-clause-targets c = targets

pub returns-clause-widths : goal.returns-clause-widths
returns-clause-widths c = widths

pub returns-clause-loops : goal.returns-clause-loops
returns-clause-loops c = loops

pub returns-clause-spans : goal.returns-clause-spans
returns-clause-spans c = spans

pub returns-clause-names : goal.returns-clause-names
returns-clause-names c = names

pub returns-clause-valid : goal.returns-clause-valid
returns-clause-valid c = valid
