use Rattle.std.proofs.Common.{◌≡◌, ◌++◌, filter_map, drop}
use Rattle.pp_rules.specs.Declarations.{span_decl}
use Rattle.pp_graph.proofs.build.spans_of.Given as goal

abbrev pub invariant-loop-call : goal.invariant-loop-call
invariant-loop-call l =
    l.spans.items ++ filter_map span_decl (drop l.call-index l.calls) ≡ filter_map span_decl l.calls
