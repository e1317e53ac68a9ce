-- What is printed so far and the lines left give the lines of all.
use Rattle.std.proofs.Common.{◌≡◌, ◌++◌, drop, flat_map, map}
use Rattle.pp_text.specs.Telling.{peek_call}
use Rattle.pp_text.specs.Printed.{printed_line}
use Rattle.pp_text.proofs.printing.edges.print_peeks.Given as goal

abbrev pub invariant-loop-peek : goal.invariant-loop-peek
invariant-loop-peek l =
    l.out.items ++ flat_map printed_line (map (peek_call l.graph) (drop l.peek-index l.peeks)) ≡ l.fn.out.items ++ flat_map printed_line (map (peek_call l.graph) l.peeks)
