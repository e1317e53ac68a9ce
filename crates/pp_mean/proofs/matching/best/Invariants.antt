use Rattle.std.proofs.Common.{◌≡◌, drop, map}
use Rattle.std.specs.Prelude.{option_map}
use Rattle.pp_bytes.specs.Fold.{folded}
use Rattle.pp_mean.specs.Nodes.{best}
use Rattle.pp_mean.specs.Steps.{key_edge, farther}
use Rattle.pp_mean.proofs.matching.best.Given as goal

abbrev pub invariant-loop-key : goal.invariant-loop-key
invariant-loop-key l =
    farther l.found (option_map key_edge (best (drop l.key-index l.keys) (map (folded l.fold) l.rest))) ≡ option_map key_edge (best l.keys (map (folded l.fold) l.rest))
