use Rattle.std.proofs.Common.{◌-◌, ◌≡◌, ℕ, ◌≤◌, true}
use Rattle.std.specs.FinSet as set
use Rattle.pp_check.proofs.rows.run_end.Given as goal

abbrev pub invariant-loop-end : goal.invariant-loop-end
invariant-loop-end l = (l.b ≤ l.end) × ((x : ℕ) → l.b ≤ x → x ≤ l.end → set.contains l.bytes x ≡ true)

abbrev pub decreases-loop-end : goal.decreases-loop-end
decreases-loop-end l = 255 - l.end
