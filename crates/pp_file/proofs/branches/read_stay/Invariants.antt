use Rattle.std.proofs.Common.{◌≡◌, ◌-◌, None}
use Rattle.pp_file.specs.Fields.{items_at}
use Rattle.pp_file.specs.Parts.{range_at}
use Rattle.pp_file.proofs.LoopLemmas.{with_front}
use Rattle.pp_file.proofs.StayLemmas.{IsPartly}
use Rattle.pp_file.proofs.branches.read_stay.Given as goal

abbrev pub invariant-loop : goal.invariant-loop
invariant-loop l = (with_front l.stay (items_at range_at (l.count - l.counter) l.before l.cursor) ≡ items_at range_at l.count None l.fn.cursor) × IsPartly l.stay l.before l.counter
