use Rattle.std.proofs.Common.{◌≡◌, ◌++◌, filter_map, drop}
use Rattle.pp_rules.specs.Declarations.{tables_of}
use Rattle.pp_graph.specs.Built.{key_edge}
use Rattle.pp_graph.proofs.build.keys_of.Given as goal

abbrev pub invariant-loop-call : goal.invariant-loop-call
invariant-loop-call l =
    l.keys.items ++ filter_map (key_edge (tables_of l.places)) (drop l.call-index l.own) ≡ filter_map (key_edge (tables_of l.places)) l.own
