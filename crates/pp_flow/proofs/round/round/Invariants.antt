use Rattle.std.proofs.Common.{length, ◌*◌, ◌+◌}
use Rattle.pp_flow.specs.steps.Search.{steps_left}
use Rattle.pp_flow.specs.steps.Round.{Rounding}
use Rattle.pp_flow.proofs.round.round.Given as goal

abbrev pub invariant-walk : goal.invariant-walk
invariant-walk l = Rounding l.moves l.starts (length l.fn.color) l.b l.root l.color l.next l.path.items

abbrev pub decreases-walk : goal.decreases-walk
decreases-walk l = steps_left l.starts l.color l.next (length l.fn.color) * 2 + length l.path.items
