-- The front of the part is written, and the count did not fall.
use Rattle.std.proofs.Common.{length, take, ◌-◌, ◌<◌, ◌≤◌, ◌^◌}
use Rattle.pp_outside.specs.Sink.{Adds}
use Rattle.pp_outside.proofs.writing.write_whole.Given as goal

abbrev pub invariant-loop-done : goal.invariant-loop-done
invariant-loop-done g l = record {
  within : l.done ≤ length l.part;
  added : Adds (g.K.Sink.written l.initial.sink) (g.K.Sink.written l.sink) (take l.done l.part);
  never_falls : g.K.Sink.faults l.initial.sink ≤ g.K.Sink.faults l.sink;
  fits : g.K.Sink.faults l.initial.sink < 2 ^ 64 → g.K.Sink.faults l.sink < 2 ^ 64;
}

abbrev pub decreases-loop-done : goal.decreases-loop-done
decreases-loop-done g l = length l.part - l.done
