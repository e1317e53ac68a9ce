use Rattle.std.proofs.Common.{drop, length, ◌-◌}
use Rattle.pp_program.specs.steps.Ends.{IsEdgeTable}
use Rattle.pp_program.proofs.branch.edges_by_byte.Given as goal

abbrev pub invariant-loop-i : goal.invariant-loop-i
invariant-loop-i l = IsEdgeTable (drop (length l.edges - l.i) l.edges) l.by_byte
