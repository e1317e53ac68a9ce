use Rattle.std.proofs.Common.{take}
use Rattle.pp_check.specs.steps.Ends.{PeekEnds}
use Rattle.pp_flow.specs.Rows.{Adds}
use Rattle.pp_check.proofs.rows.peek_rows.Given as goal

abbrev pub invariant-loop-place : goal.invariant-loop-place
invariant-loop-place l = Adds l.from l.fn.rows.items l.rows.items (PeekEnds l.fold (take l.place l.peeks))
