use Rattle.std.proofs.Common.{◌≡◌, ◌≤◌, ◌+◌, ◌-◌, length, drop}
use Rattle.std.specs.List.{prefix_len}
use Rattle.pp_bytes.specs.Ranges.{in_ranges}
use Rattle.pp_scan.proofs.run.run_of.Given as goal

abbrev pub invariant-loop-at : goal.invariant-loop-at
invariant-loop-at l = record {
  within : l.at ≤ length l.bytes;
  rest : l.at + prefix_len (in_ranges l.ranges) (drop l.at l.bytes) ≡ prefix_len (in_ranges l.ranges) l.bytes;
}

abbrev pub decreases-loop-at : goal.decreases-loop-at
decreases-loop-at l = length l.bytes - l.at
