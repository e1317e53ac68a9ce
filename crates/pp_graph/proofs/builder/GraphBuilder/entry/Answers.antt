use Rattle.std.proofs.Common.{length, arith, ap}
use Rattle.pp_rules.specs.Names.{IsName}
use Rattle.pp_graph.proofs.CallLemmas.{IsRecord-push}
use Rattle.pp_graph.proofs.builder.GraphBuilder.entry.Goals as goal

pub invariant_of-self-2 : goal.invariant_of-self-2
invariant_of-self-2 c =
    let form : IsName c.in_ok-node.node = rw (c.in_ok-node.ensures, c.as_bytes.ensures.value) c.requires.form in
    rw c.in_ok-push.ensures.added (IsRecord-push _ _ _ _ c.self.invariant form (omega (arith, ap length c.self.view_is)))
