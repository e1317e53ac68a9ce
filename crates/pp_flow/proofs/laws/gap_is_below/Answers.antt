use Rattle.pp_flow.proofs.GapLemmas.{gap_below}
use Rattle.pp_flow.proofs.laws.gap_is_below.Goals as goal

pub returns : goal.returns
returns c moves entry count gap inside entry_in free gap_is = gap_below moves entry count gap inside entry_in free gap_is
