use Rattle.std.proofs.Common.{◌≡◌, ◌-◌, drop}
use Rattle.pp_program.specs.Targets.{in_row, answer_follows}
use Rattle.pp_program.proofs.targets.answers_in_row.Given as goal

abbrev pub invariant-loop-i : goal.invariant-loop-i
invariant-loop-i l = in_row answer_follows (drop (l.i - 1) l.answers) ≡ in_row answer_follows l.answers
