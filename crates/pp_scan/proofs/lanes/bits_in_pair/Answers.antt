use Rattle.pp_scan.proofs.LaneLemmas.{bits_of_pair}
use Rattle.pp_scan.proofs.lanes.bits_in_pair.Goals as goal

pub returns : goal.returns
returns c = bits_of_pair c.args.block c.args.lo c.args.hi c.requires
