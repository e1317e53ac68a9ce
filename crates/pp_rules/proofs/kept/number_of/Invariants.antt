use Rattle.std.proofs.Common.{◌≡◌, take, sum_by}
use Rattle.pp_rules.specs.Sets.{size_of}
use Rattle.pp_rules.proofs.kept.number_of.Given as goal

abbrev pub invariant-loop-i : goal.invariant-loop-i
invariant-loop-i l = l.number ≡ sum_by size_of (take l.i l.sets)
