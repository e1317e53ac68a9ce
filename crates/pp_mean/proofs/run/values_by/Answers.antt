use Rattle.std.proofs.Common.{◌<◌, ℕ, length, arith}
use Rattle.std.proofs.lemmas.List.Elements.{All-get_or}
use Rattle.pp_graph.specs.Plan.{Holds}
use Rattle.pp_mean.proofs.TurnLemmas.{holds-below}
use Rattle.pp_mean.proofs.run.values_by.Goals as goal

pub set-requires : goal.set-requires
set-requires c =
    let inside : c.loop-prop.prop-index < length c.args.sets.now = omega arith in
    let below = holds-below c.args.graph.now _ _ (All-get_or (λ (set : ℕ × ℕ). Holds c.args.graph.now set.0 set.1) c.args.sets.now c.loop-prop.prop-index (0, 0) inside c.requires) in
    omega (arith, c.loop-prop.invariant.long, below)
