use Rattle.pp_text.specs.Printed.{printed}
use Rattle.pp_mean.proofs.ReturnLaws.{ends_once}
use Rattle.pp_tool.specs.Verdict.{Writes}
use Rattle.pp_tool.specs.GraphText.{ReadsTextAlone}
use Rattle.pp_tool.proofs.SomeText.{text_some, alone_some}
use Rattle.pp_tool.proofs.SomeVerdict.{then_some, writes_some, checked_some, traces_some}
use Rattle.pp_tool.proofs.laws.some_verdict.Goals as goal

pub returns-clause-text : goal.returns-clause-text
returns-clause-text c bytes = text_some bytes

pub returns-clause-text_alone : goal.returns-clause-text_alone
returns-clause-text_alone c bytes = alone_some bytes

pub returns-clause-trace : goal.returns-clause-trace
returns-clause-trace c bytes = traces_some ends_once bytes (text_some bytes)

pub returns-clause-check : goal.returns-clause-check
returns-clause-check c bytes = checked_some bytes (alone_some bytes)

pub returns-clause-print : goal.returns-clause-print
returns-clause-print c bytes = then_some ReadsTextAlone (Writes printed) bytes (alone_some bytes) (λ g h. writes_some printed g)
