use Rattle.pp_trace.proofs.SameLaws as same
use Rattle.pp_trace.proofs.laws.same_runs.Goals as goal

pub returns : goal.returns
returns c m n run shows are = same.same_runs m n run shows are
