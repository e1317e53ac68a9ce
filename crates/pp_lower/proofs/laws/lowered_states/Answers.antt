use Rattle.pp_lower.proofs.EmptyLaws.{empty_bare}
use Rattle.pp_lower.proofs.FrameLemmas.{few_states}
use Rattle.pp_lower.proofs.laws.lowered_states.Goals as goal

pub returns-clause-few : goal.returns-clause-few
returns-clause-few c = few_states

pub returns-clause-bare : goal.returns-clause-bare
returns-clause-bare c = empty_bare
