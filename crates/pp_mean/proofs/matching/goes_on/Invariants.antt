use Rattle.std.proofs.Common.{◌≡◌, drop, map}
use Rattle.pp_bytes.specs.Fold.{folded}
use Rattle.pp_mean.specs.Nodes.{goes_on}
use Rattle.pp_mean.proofs.matching.goes_on.Given as goal

abbrev pub invariant-loop-key : goal.invariant-loop-key
invariant-loop-key l = goes_on (drop l.key-index l.keys) (map (folded l.fold) l.rest) ≡ goes_on l.keys (map (folded l.fold) l.rest)
