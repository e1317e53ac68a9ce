use Rattle.pp_text.specs.Printed.{printed}
use Rattle.pp_tool.specs.Verdict.{Writes}
use Rattle.pp_tool.specs.GraphText.{ReadsTextAlone}
use Rattle.pp_tool.proofs.OneText.{text_one, alone_one}
use Rattle.pp_tool.proofs.OneVerdict.{then_one, writes_one, checked_one, traces_one}
use Rattle.pp_tool.proofs.laws.one_verdict.Goals as goal

pub returns-clause-text : goal.returns-clause-text
returns-clause-text c bytes = text_one bytes

pub returns-clause-text_alone : goal.returns-clause-text_alone
returns-clause-text_alone c bytes = alone_one bytes

pub returns-clause-trace : goal.returns-clause-trace
returns-clause-trace c bytes = traces_one bytes (text_one bytes)

pub returns-clause-check : goal.returns-clause-check
returns-clause-check c bytes = checked_one bytes (alone_one bytes)

pub returns-clause-print : goal.returns-clause-print
returns-clause-print c bytes = then_one ReadsTextAlone (Writes printed) bytes (alone_one bytes) (writes_one printed)
