use Rattle.std.proofs.Common.{◌-◌, length}
use Rattle.pp_frame.specs.steps.Heads.{HasReadFields}
use Rattle.pp_frame.proofs.head.read_fields.Given as goal

abbrev pub invariant-loop-len : goal.invariant-loop-len
invariant-loop-len l = HasReadFields l.head l.fields.items l.at l.line

abbrev pub decreases-loop-len : goal.decreases-loop-len
decreases-loop-len l = length l.head - l.at
