use Rattle.std.proofs.Common.{take}
use Rattle.std.specs.Prelude.{All}
use Rattle.pp_graph.specs.Ranges.{NodeInRange}
use Rattle.pp_graph.proofs.ranges.numbers_fit.Given as goal

abbrev pub invariant-loop-node : goal.invariant-loop-node
invariant-loop-node l = All NodeInRange (take l.node-index l.nodes)
