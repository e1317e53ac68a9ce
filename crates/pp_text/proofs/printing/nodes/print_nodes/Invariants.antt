-- What is printed so far and the lines left give the lines of all nodes.
use Rattle.std.proofs.Common.{◌≡◌, ◌++◌, drop, flat_map}
use Rattle.pp_text.specs.Telling.{node_calls}
use Rattle.pp_text.specs.Printed.{printed_line}
use Rattle.pp_text.proofs.printing.nodes.print_nodes.Given as goal

abbrev pub invariant-loop-node : goal.invariant-loop-node
invariant-loop-node l =
    l.out.items ++ flat_map printed_line (flat_map (node_calls l.graph) (drop l.node-index l.graph.nodes)) ≡ l.fn.out.items ++ flat_map printed_line (flat_map (node_calls l.graph) l.graph.nodes)
