-- What was moved so far stands in the front of the buffer, and the count did not fall.
use Rattle.std.proofs.Common.{length, ◌-◌, ◌<◌, ◌≤◌, ◌^◌}
use Rattle.pp_outside.specs.Source.{Moves}
use Rattle.pp_outside.proofs.reading.read_some.Given as goal

abbrev pub invariant-loop-done : goal.invariant-loop-done
invariant-loop-done g l = record {
  within : l.done ≤ length l.into;
  moved : Moves (g.S.Source.left l.initial.source) (g.S.Source.left l.source) l.done l.into;
  never_falls : g.S.Source.faults l.initial.source ≤ g.S.Source.faults l.source;
  fits : g.S.Source.faults l.initial.source < 2 ^ 64 → g.S.Source.faults l.source < 2 ^ 64;
}

abbrev pub decreases-loop-done : goal.decreases-loop-done
decreases-loop-done g l = length l.into - l.done
