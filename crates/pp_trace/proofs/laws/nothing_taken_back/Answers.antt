use Rattle.pp_trace.proofs.GrowthLaws.{program_grows}
use Rattle.pp_trace.proofs.laws.nothing_taken_back.Goals as goal

pub returns : goal.returns
returns c p run are = program_grows p run are
