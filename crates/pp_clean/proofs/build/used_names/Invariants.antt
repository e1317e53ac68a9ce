use Rattle.std.proofs.Common.{take}
use Rattle.pp_clean.specs.Reach.{picked}
use Rattle.pp_clean.specs.Layout.{IsUsed}
use Rattle.pp_clean.proofs.build.used_names.Given as goal

abbrev pub invariant-loop-i : goal.invariant-loop-i
invariant-loop-i l = IsUsed (picked l.marks (take l.i l.states)) l.count l.used.items
