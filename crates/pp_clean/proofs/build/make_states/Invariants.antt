use Rattle.std.proofs.Common.{◌≡◌, map, take}
use Rattle.pp_clean.specs.Reach.{picked}
use Rattle.pp_clean.specs.Layout.{made_state}
use Rattle.pp_clean.proofs.build.make_states.Given as goal

abbrev pub invariant-loop-i : goal.invariant-loop-i
invariant-loop-i l = l.out.items ≡ map (made_state l.places l.origins) (picked l.marks (take l.i l.states))
