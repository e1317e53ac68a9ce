-- The most bits of the masks that were gone over.
use Rattle.std.proofs.Common.{◌≡◌, take}
use Rattle.pp_tool.specs.Check.{most_bits}
use Rattle.pp_tool.proofs.check.most_open.Given as goal

abbrev pub invariant-loop-mask : goal.invariant-loop-mask
invariant-loop-mask l = l.most ≡ most_bits (take l.mask-index l.fn.masks)
