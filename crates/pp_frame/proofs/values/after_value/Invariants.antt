use Rattle.std.proofs.Common.{◌≡◌, ◌≤◌, length}
use Rattle.pp_frame.specs.steps.Codings.{after_value}
use Rattle.pp_frame.proofs.values.after_value.Given as goal

abbrev pub invariant-loop-comma : goal.invariant-loop-comma
invariant-loop-comma l = record {
  same : after_value l.last l.rest ≡ after_value l.fn.before l.value;
  shorter : length l.rest ≤ length l.value;
}

abbrev pub decreases-loop-comma : goal.decreases-loop-comma
decreases-loop-comma l = length l.rest
