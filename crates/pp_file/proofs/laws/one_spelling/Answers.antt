use Rattle.pp_file.proofs.ProgramLemmas.{one_program, prefix_free}
use Rattle.pp_file.proofs.laws.one_spelling.Goals as goal

pub returns-clause-same : goal.returns-clause-same
returns-clause-same c = one_program

pub returns-clause-prefix_free : goal.returns-clause-prefix_free
returns-clause-prefix_free c = prefix_free
