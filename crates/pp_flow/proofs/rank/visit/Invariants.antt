use Rattle.std.proofs.Common.{length}
use Rattle.pp_flow.specs.steps.Search.{steps_left}
use Rattle.pp_flow.proofs.WalkLemmas.{Walking}
use Rattle.pp_flow.proofs.rank.visit.Given as goal

abbrev pub invariant-walk : goal.invariant-walk
invariant-walk l = Walking l.moves l.starts (length l.fn.color) l.b l.root l.fn.color l.color l.next l.rank l.path.items

abbrev pub decreases-walk : goal.decreases-walk
decreases-walk l = steps_left l.starts l.color l.next (length l.fn.color)
