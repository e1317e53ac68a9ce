-- What is printed so far and the lines left give the lines of all.
use Rattle.std.proofs.Common.{◌≡◌, ◌++◌, drop, flat_map, map}
use Rattle.pp_text.specs.Telling.{answer_call}
use Rattle.pp_text.specs.Printed.{printed_line}
use Rattle.pp_text.proofs.printing.edges.print_answers.Given as goal

abbrev pub invariant-loop-answer : goal.invariant-loop-answer
invariant-loop-answer l =
    l.out.items ++ flat_map printed_line (map (answer_call l.graph) (drop l.answer-index l.answers)) ≡ l.fn.out.items ++ flat_map printed_line (map (answer_call l.graph) l.answers)
