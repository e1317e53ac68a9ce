use Rattle.std.proofs.Common.{length, arith, ap}
use Rattle.pp_rules.specs.Names.{IsName}
use Rattle.pp_graph.proofs.CallLemmas.{IsRecord-push}
use Rattle.pp_graph.proofs.builder.GraphBuilder.finish.Goals as goal

pub invariant_of-self-2 : goal.invariant_of-self-2
invariant_of-self-2 c =
    let prop_form : IsName c.in_ok-prop.prop = rw (c.in_ok-prop.ensures, c.as_bytes.ensures.value) c.requires.prop_form in
    let host_form : IsName c.in_ok-host.host = rw (c.in_ok-host.ensures, c.as_bytes-2.ensures.value) c.requires.host_form in
    rw c.in_ok-push.ensures.added (IsRecord-push _ _ _ _ c.self.invariant (prop_form, host_form) (omega (arith, ap length c.self.view_is)))
