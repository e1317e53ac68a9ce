use Rattle.pp_clean.proofs.LoopTrimLaws.{finished_loop_free}
use Rattle.pp_clean.proofs.laws.finishing_makes_no_loop.Goals as goal

pub returns : goal.returns
returns c p h free = finished_loop_free p h free
