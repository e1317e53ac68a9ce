use Rattle.std.proofs.Common.{◌<◌, length, subst, sym, ap, ◌∙◌}
use Rattle.pp_flow.specs.Chart.{Chart}
use Rattle.pp_flow.proofs.PartLemmas.{built_push}
use Rattle.pp_flow.proofs.builder.Flow.push.Goals as goal

pub invariant_of-self-2 : goal.invariant_of-self-2
invariant_of-self-2 c = rw c.in_ok-push.ensures.items (
    built_push _ _ _ _ c.args.m c.self.invariant
    (c.requires.from ∙ ap (λ (v : Chart). v.told) (sym c.self.view_is))
    (subst (λ (v : Chart). v.told < length v.acts) (sym c.self.view_is) c.requires.open)
    (subst (λ (v : Chart). c.args.m.to < length v.acts) (sym c.self.view_is) c.requires.to))
