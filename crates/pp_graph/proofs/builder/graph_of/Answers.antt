use Rattle.std.proofs.Common.{ap, ◌∙◌}
use Rattle.std.proofs.lemmas.Result.{err_from_is_err_and}
use Rattle.pp_graph.specs.Built.{built}
use Rattle.pp_graph.proofs.builder.graph_of.Goals as goal

pub returns-in_err-build-clause-broken : goal.returns-in_err-build-clause-broken
returns-in_err-build-clause-broken c =
    let failed = err_from_is_err_and c.from_residual-in_err-build.result c.from_residual-in_err-build.ensures.1 in
    rw (failed.1, failed.2) tt

pub returns-clause-ok : goal.returns-clause-ok
returns-clause-ok c = (c.in_ok-check_rules.ensures.ok, c.in_ok-build.ensures ∙ ap built (c.in_ok-declared.ensures ∙ c.deref.ensures.value ∙ c.in_ok-all.ensures))
