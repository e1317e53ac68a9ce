-- What is printed so far and the lines left give the lines of all.
use Rattle.std.proofs.Common.{◌≡◌, ◌++◌, drop, flat_map, map}
use Rattle.pp_text.specs.Telling.{key_call}
use Rattle.pp_text.specs.Printed.{printed_line}
use Rattle.pp_text.proofs.printing.edges.print_keys.Given as goal

abbrev pub invariant-loop-key : goal.invariant-loop-key
invariant-loop-key l =
    l.out.items ++ flat_map printed_line (map (key_call l.graph) (drop l.key-index l.keys)) ≡ l.fn.out.items ++ flat_map printed_line (map (key_call l.graph) l.keys)
