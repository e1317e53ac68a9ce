-- What is printed so far and the lines left give the lines of all.
use Rattle.std.proofs.Common.{◌≡◌, ◌++◌, drop, flat_map, map}
use Rattle.pp_text.specs.Telling.{span_call}
use Rattle.pp_text.specs.Printed.{printed_line}
use Rattle.pp_text.proofs.printing.declarations.print_spans.Given as goal

abbrev pub invariant-loop-span : goal.invariant-loop-span
invariant-loop-span l =
    l.out.items ++ flat_map printed_line (map span_call (drop l.span-index l.graph.spans)) ≡ l.fn.out.items ++ flat_map printed_line (map span_call l.graph.spans)
