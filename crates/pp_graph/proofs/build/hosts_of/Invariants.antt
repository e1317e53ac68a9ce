use Rattle.std.proofs.Common.{◌≡◌, ◌++◌, filter_map, drop}
use Rattle.pp_rules.specs.Declarations.{host_decl}
use Rattle.pp_graph.proofs.build.hosts_of.Given as goal

abbrev pub invariant-loop-call : goal.invariant-loop-call
invariant-loop-call l =
    l.hosts.items ++ filter_map host_decl (drop l.call-index l.calls) ≡ filter_map host_decl l.calls
