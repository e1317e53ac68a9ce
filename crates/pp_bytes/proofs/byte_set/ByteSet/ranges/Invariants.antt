use Rattle.pp_bytes.specs.steps.Found.{HasRunsBelow}
use Rattle.pp_bytes.proofs.byte_set.ByteSet.ranges.Given as goal

abbrev pub invariant-loop-b : goal.invariant-loop-b
invariant-loop-b l = HasRunsBelow l.self l.ranges l.b
