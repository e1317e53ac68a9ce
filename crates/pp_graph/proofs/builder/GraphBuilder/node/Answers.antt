use Rattle.std.proofs.Common.{length, arith, ap}
use Rattle.pp_rules.specs.Names.{IsName}
use Rattle.pp_graph.proofs.CallLemmas.{IsRecord-push}
use Rattle.pp_graph.proofs.builder.GraphBuilder.node.Goals as goal

pub invariant_of-self-2 : goal.invariant_of-self-2
invariant_of-self-2 c =
    let form : IsName c.in_ok-name.name = rw (c.in_ok-name.ensures, c.as_bytes.ensures.value) c.requires.form in
    rw (c.in_ok-push.ensures.added, c.in_ok-kind.ensures, c.last_of-last.ensures)
    (IsRecord-push _ _ _ _ c.self.invariant (form, c.requires.kind_form) (omega (arith, ap length c.self.view_is)))
