use Rattle.std.proofs.Common.{◌≡◌, ◌<◌, length, subst, sym, arith}
use Rattle.pp_flow.specs.Chart.{Chart}
use Rattle.pp_flow.proofs.PartLemmas.{built_end}
use Rattle.pp_flow.proofs.builder.Flow.end_point.Goals as goal

pub invariant_of-self-2 : goal.invariant_of-self-2
invariant_of-self-2 c =
    let long : c.len.result ≡ length c.self.inside.moves.items = omega (arith, c.self.inside.moves.ok.0, c.len.ensures) in
    rw c.in_ok-push.ensures.items (built_end _ _ _ _ _ c.self.invariant (subst (λ (v : Chart). v.told < length v.acts) (sym c.self.view_is) c.requires) long)
