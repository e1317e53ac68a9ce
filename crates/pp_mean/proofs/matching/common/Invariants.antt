use Rattle.std.proofs.Common.{◌≡◌, ◌+◌, drop, map}
use Rattle.pp_bytes.specs.Fold.{folded}
use Rattle.pp_mean.specs.Nodes.{common}
use Rattle.pp_mean.proofs.matching.common.Given as goal

abbrev pub invariant-loop-n : goal.invariant-loop-n
invariant-loop-n l = l.n + common (drop l.n l.key) (map (folded l.fold) (drop l.n l.rest)) ≡ common l.key (map (folded l.fold) l.rest)
