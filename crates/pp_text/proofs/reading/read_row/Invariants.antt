use Rattle.std.proofs.Common.{◌+◌, ◌*◌, ◌≤◌, length}
use Rattle.pp_text.specs.steps.Reading.{count_told}
use Rattle.pp_text.specs.steps.Rows.{SameEnds, RowIs}
use Rattle.pp_text.proofs.reading.read_row.Given as goal

abbrev pub invariant-loop-behind : goal.invariant-loop-behind
invariant-loop-behind l =
    (count_told l.draft + 256 * length l.rest ≤ count_told l.initial.draft + 256 * length l.initial.rest) × SameEnds (RowIs l.line l.rest l.draft) (RowIs l.line l.initial.rest l.initial.draft)

abbrev pub decreases-loop-behind : goal.decreases-loop-behind
decreases-loop-behind l = length l.rest
