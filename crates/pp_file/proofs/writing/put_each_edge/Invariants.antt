-- What is written so far and what is left give the whole.
use Rattle.std.proofs.Common.{◌≡◌, ◌++◌, drop, flat_map}
use Rattle.pp_file.specs.Spelling.{spelled_edge}
use Rattle.pp_file.proofs.writing.put_each_edge.Given as goal

abbrev pub invariant-loop-edge : goal.invariant-loop-edge
invariant-loop-edge l = l.out.items ++ flat_map spelled_edge (drop l.edge-index l.edges) ≡ l.fn.out.items ++ flat_map spelled_edge l.edges
