-- What is printed so far and the lines left give the lines of all.
use Rattle.std.proofs.Common.{◌≡◌, ◌++◌, drop, flat_map, map}
use Rattle.pp_text.specs.Telling.{host_call}
use Rattle.pp_text.specs.Printed.{printed_line}
use Rattle.pp_text.proofs.printing.declarations.print_hosts.Given as goal

abbrev pub invariant-loop-host : goal.invariant-loop-host
invariant-loop-host l =
    l.out.items ++ flat_map printed_line (map host_call (drop l.host-index l.graph.hosts)) ≡ l.fn.out.items ++ flat_map printed_line (map host_call l.graph.hosts)
