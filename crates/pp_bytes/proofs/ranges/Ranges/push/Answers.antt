use Rattle.std.proofs.Common.{arith, length-take, subst, sym}
use Rattle.pp_bytes.specs.Ranges.{CanFollow}
use Rattle.pp_bytes.proofs.RangesLemmas.{HoldsRanges-push}
use Rattle.pp_bytes.proofs.ranges.Ranges.push.Goals as goal

pub invariant_of-self : goal.invariant_of-self
invariant_of-self c =
    let follows : CanFollow _ c.args.lo c.args.hi = subst (λ pairs. CanFollow pairs c.args.lo c.args.hi) (sym c.self.view_is) c.requires in
    HoldsRanges-push c.self.inside.pairs c.self.inside.count c.args.lo c.args.hi c.self.invariant.places (omega (arith, follows.room, length-take c.self.inside.count c.self.inside.pairs)) c.self.invariant.rest
    c.self.invariant.form follows (omega arith)
