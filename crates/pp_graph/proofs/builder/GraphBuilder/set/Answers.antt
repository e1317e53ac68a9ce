use Rattle.std.proofs.Common.{length, arith, ap}
use Rattle.pp_rules.specs.Names.{IsName}
use Rattle.pp_graph.proofs.SetCallLemmas.{IsRecord-set}
use Rattle.pp_graph.proofs.builder.GraphBuilder.set.Goals as goal

pub invariant_of-self-2 : goal.invariant_of-self-2
invariant_of-self-2 c =
    let form : IsName c.in_ok-target.target = rw (c.in_ok-target.ensures, c.as_bytes.ensures.value) c.requires.form in
    rw c.in_ok-push_set.ensures.added (IsRecord-set _ _ _ _ _ _ c.self.invariant form (omega (arith, ap length c.self.view_is, c.requires.room)))
