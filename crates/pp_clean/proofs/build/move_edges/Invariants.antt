use Rattle.std.proofs.Common.{◌≡◌, take, map, get_or}
use Rattle.pp_clean.specs.Map.{mapped_edge}
use Rattle.pp_clean.proofs.build.move_edges.Given as goal

abbrev pub invariant-loop-edge : goal.invariant-loop-edge
invariant-loop-edge l = l.out.items ≡ map (mapped_edge (λ t. get_or l.places t 0)) (take l.edge-index l.edges)
