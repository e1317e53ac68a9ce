use Rattle.pp_event.proofs.RunLaws.{prefix}
use Rattle.pp_event.proofs.laws.longer_strings.Goals as goal

pub returns : goal.returns
returns c turn oracle d bytes more resumes r q steady p h = prefix turn oracle steady d bytes more resumes r q p h
