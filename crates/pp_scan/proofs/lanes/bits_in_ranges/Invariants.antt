use Rattle.std.proofs.Common.{◌≡◌, take}
use Rattle.pp_bytes.specs.Ranges.{in_ranges}
use Rattle.pp_scan.specs.steps.Lanes.{bits_of}
use Rattle.pp_scan.proofs.lanes.bits_in_ranges.Given as goal

abbrev pub invariant-loop-i : goal.invariant-loop-i
invariant-loop-i l = l.inside ≡ bits_of (in_ranges (take l.i l.ranges)) l.block
