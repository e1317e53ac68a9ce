use Rattle.std.proofs.Common.{◌≡◌, ◌≤◌, length, drop, map, max}
use Rattle.pp_bytes.specs.Fold.{folded}
use Rattle.pp_mean.specs.Nodes.{reach}
use Rattle.pp_mean.proofs.matching.reach.Given as goal

abbrev pub invariant-loop-key : goal.invariant-loop-key
invariant-loop-key l = record {
  rest : max l.most (reach (drop l.key-index l.keys) (map (folded l.fold) l.rest)) ≡ reach l.keys (map (folded l.fold) l.rest);
  within : l.most ≤ length l.rest;
}
