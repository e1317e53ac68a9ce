use Rattle.pp_event.proofs.PlaceLaws.{lies}
use Rattle.pp_event.proofs.laws.lies_in_its_string.Goals as goal

pub returns : goal.returns
returns c turn oracle d bytes resumes r steady placed orderly behind h = lies turn steady placed orderly oracle d bytes resumes r behind h
