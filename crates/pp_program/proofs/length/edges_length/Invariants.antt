use Rattle.std.proofs.Common.{◌≡◌, ◌≤◌, ◌*◌, take}
use Rattle.std.specs.Prelude.{sum_by}
use Rattle.pp_program.specs.FileLength.{edge_length}
use Rattle.pp_program.proofs.length.edges_length.Given as goal

abbrev pub invariant-loop-edge : goal.invariant-loop-edge
invariant-loop-edge l = (l.sum ≡ sum_by (edge_length) (take l.edge-index l.edges)) × (l.sum ≤ 9 * l.edge-index)
