-- What is printed so far and the lines left give the lines of all.
use Rattle.std.proofs.Common.{◌≡◌, ◌++◌, drop, flat_map, map}
use Rattle.pp_text.specs.Telling.{prop_call}
use Rattle.pp_text.specs.Printed.{printed_line}
use Rattle.pp_text.proofs.printing.declarations.print_props.Given as goal

abbrev pub invariant-loop-prop : goal.invariant-loop-prop
invariant-loop-prop l =
    l.out.items ++ flat_map printed_line (map prop_call (drop l.prop-index l.graph.props)) ≡ l.fn.out.items ++ flat_map printed_line (map prop_call l.graph.props)
