use Rattle.pp_frame.specs.Framing.{is_quoted}
use Rattle.pp_frame.proofs.values.is_quoted.Goals as goal

pub returns : goal.returns
unfolding is_quoted
returns c = c.contains.ensures.value
