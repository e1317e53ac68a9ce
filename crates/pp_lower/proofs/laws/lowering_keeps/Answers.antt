use Rattle.pp_lower.proofs.FormLaws.{well_formed_lowers}
use Rattle.pp_lower.proofs.LowerLaws.{lowering_keeps as keeps}
use Rattle.pp_lower.proofs.laws.lowering_keeps.Goals as goal

pub returns : goal.returns
returns c g form = keeps g (well_formed_lowers g form)
