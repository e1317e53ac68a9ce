use Rattle.std.proofs.Common.{◌≡◌, take}
use Rattle.pp_clean.specs.Reach.{picked}
use Rattle.pp_clean.proofs.build.keep_names.Given as goal

abbrev pub invariant-loop-i : goal.invariant-loop-i
invariant-loop-i l = l.out.items ≡ picked l.marks (take l.i l.names)
