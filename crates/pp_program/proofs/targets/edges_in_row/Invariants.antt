use Rattle.std.proofs.Common.{◌≡◌, ◌-◌, drop}
use Rattle.pp_program.specs.Targets.{in_row, may_follow}
use Rattle.pp_program.proofs.targets.edges_in_row.Given as goal

abbrev pub invariant-loop-i : goal.invariant-loop-i
invariant-loop-i l = in_row may_follow (drop (l.i - 1) l.edges) ≡ in_row may_follow l.edges
