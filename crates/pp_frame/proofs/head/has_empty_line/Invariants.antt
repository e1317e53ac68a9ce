use Rattle.std.proofs.Common.{◌-◌, List, ℕ, length}
use Rattle.pp_frame.specs.steps.Heads.{HasRead}
use Rattle.pp_frame.proofs.head.has_empty_line.Given as goal

abbrev pub invariant-loop-len : goal.invariant-loop-len
invariant-loop-len l = (lines : List (List ℕ)) × HasRead l.bytes lines l.at

abbrev pub decreases-loop-len : goal.decreases-loop-len
decreases-loop-len l = length l.bytes - l.at
