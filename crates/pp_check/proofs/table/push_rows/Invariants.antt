use Rattle.std.proofs.Common.{◌≡◌, take}
use Rattle.pp_check.specs.steps.Rows.{with_rows}
use Rattle.pp_check.proofs.table.push_rows.Given as goal

abbrev pub invariant-loop-place : goal.invariant-loop-place
invariant-loop-place l = l.flow ≡ with_rows l.fn.flow (take l.place l.rows)
