use Rattle.std.proofs.lemmas.Result.{err_from_is_err_and}
use Rattle.pp_graph.proofs.builder.check_rules.Goals as goal

pub returns-in_err-first_fault-clause-broken : goal.returns-in_err-first_fault-clause-broken
returns-in_err-first_fault-clause-broken c =
    let failed = err_from_is_err_and c.from_residual-in_err-first_fault.result c.from_residual-in_err-first_fault.ensures.1 in
    rw (failed.1, failed.2) tt
