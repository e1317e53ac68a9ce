-- The bits below the place are counted.
use Rattle.std.proofs.Common.{◌≡◌, ◌≤◌}
use Rattle.pp_tool.specs.Check.{bits_below}
use Rattle.pp_tool.proofs.check.bits_of.Given as goal

abbrev pub invariant-loop-place : goal.invariant-loop-place
invariant-loop-place l = (l.count ≡ bits_below l.place l.fn.mask) × (l.count ≤ l.place)
