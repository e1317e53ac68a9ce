use Rattle.pp_file.proofs.LengthLemmas.{length-spelled}
use Rattle.pp_file.proofs.laws.one_length.Goals as goal

pub returns : goal.returns
returns c = length-spelled
