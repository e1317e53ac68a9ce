use Rattle.std.proofs.Common.{◌≡◌, ◌++◌, filter_map, drop}
use Rattle.pp_rules.specs.Declarations.{prop_decl}
use Rattle.pp_graph.proofs.build.props_of.Given as goal

abbrev pub invariant-loop-call : goal.invariant-loop-call
invariant-loop-call l =
    l.props.items ++ filter_map prop_decl (drop l.call-index l.calls) ≡ filter_map prop_decl l.calls
