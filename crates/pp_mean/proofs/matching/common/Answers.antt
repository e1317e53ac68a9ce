use Rattle.std.proofs.Common.{◌≡◌, length, min, drop, map, arith}
use Rattle.pp_bytes.specs.Fold.{folded}
use Rattle.pp_mean.specs.Nodes.{common}
use Rattle.pp_mean.proofs.MatchLemmas.{common-end}
use Rattle.pp_mean.proofs.matching.common.Goals as goal

pub returns-clause-value : goal.returns-clause-value
returns-clause-value c =
    let all : c.loop-n.n ≡ min (length c.args.key.now) (length c.args.rest.now) = omega (arith, c.min-most.ensures) in
    let none : common (drop c.loop-n.n c.args.key.now) (map (folded c.args.fold) (drop c.loop-n.n c.args.rest.now)) ≡ 0 = common-end (folded c.args.fold) c.args.key.now c.args.rest.now c.loop-n.n all in
    omega (arith, c.loop-n.invariant)
