use Rattle.pp_text.proofs.OneReadingLemmas.{text_same, wrong_line_same, text_not_wrong, text_not_long, wrong_not_long, fault_same, fault_not_graph}
use Rattle.pp_text.proofs.laws.one_reading.Goals as goal

pub returns-clause-text : goal.returns-clause-text
returns-clause-text c bytes told other last end rest more p q = text_same bytes told other last end rest more p q

pub returns-clause-wrong_line : goal.returns-clause-wrong_line
returns-clause-wrong_line c bytes line other p q = wrong_line_same bytes line other p q

pub returns-clause-text_or_wrong : goal.returns-clause-text_or_wrong
returns-clause-text_or_wrong c bytes told last rest line p q = text_not_wrong bytes told last rest line p q

pub returns-clause-text_or_long : goal.returns-clause-text_or_long
returns-clause-text_or_long c bytes told last rest p q = text_not_long bytes told last rest p q

pub returns-clause-wrong_or_long : goal.returns-clause-wrong_or_long
returns-clause-wrong_or_long c bytes line p q = wrong_not_long bytes line p q

pub returns-clause-fault : goal.returns-clause-fault
returns-clause-fault c bytes line other rule broken p q = fault_same bytes line other rule broken p q

pub returns-clause-fault_or_graph : goal.returns-clause-fault_or_graph
returns-clause-fault_or_graph c bytes line rule told last rest b text rules = fault_not_graph bytes line rule told last rest b text rules
