use Rattle.std.proofs.Common.{◌≡◌, ◌++◌, filter_map, drop}
use Rattle.pp_rules.specs.Declarations.{tables_of}
use Rattle.pp_graph.specs.Built.{answer_edge}
use Rattle.pp_graph.proofs.build.answers_of.Given as goal

abbrev pub invariant-loop-call : goal.invariant-loop-call
invariant-loop-call l =
    l.answers.items ++ filter_map (answer_edge (tables_of l.places)) (drop l.call-index l.own) ≡ filter_map (answer_edge (tables_of l.places)) l.own
