use Rattle.std.proofs.Common.{length, arith, ap}
use Rattle.pp_rules.specs.Names.{IsName}
use Rattle.pp_graph.proofs.CallLemmas.{IsRecord-push}
use Rattle.pp_graph.proofs.builder.GraphBuilder.edge.Goals as goal

pub invariant_of-self-2 : goal.invariant_of-self-2
invariant_of-self-2 c =
    let form : IsName c.in_ok-target.target = rw (c.in_ok-target.ensures, c.as_bytes.ensures.value) c.requires.form in
    rw (c.in_ok-push.ensures.added, c.is_closed_by-closed.ensures)
    (IsRecord-push _ _ _ _ c.self.invariant form (omega (arith, ap length c.self.view_is)))
