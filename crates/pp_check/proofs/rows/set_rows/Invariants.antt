use Rattle.std.proofs.Common.{◌-◌, ◌≤◌}
use Rattle.pp_flow.specs.Rows.{Adds}
use Rattle.pp_check.proofs.RowLemmas.{SetBelow}
use Rattle.pp_check.proofs.rows.set_rows.Given as goal

abbrev pub invariant-loop-b : goal.invariant-loop-b
invariant-loop-b l = Adds l.from l.fn.rows.items l.rows.items (SetBelow l.bytes l.to l.free l.onward l.b) × (l.b ≤ 256)

abbrev pub decreases-loop-b : goal.decreases-loop-b
decreases-loop-b l = 256 - l.b
