use Rattle.std.proofs.Common.{◌≡◌, ◌++◌, drop}
use Rattle.pp_rules.specs.Declarations.{tables_of}
use Rattle.pp_graph.specs.Built.{nodes_in}
use Rattle.pp_graph.proofs.build.nodes_of.Given as goal

abbrev pub invariant-loop-i : goal.invariant-loop-i
invariant-loop-i l =
    l.nodes.items ++ nodes_in (tables_of l.places) (drop l.i l.calls) ≡ nodes_in (tables_of l.places) l.calls
