use Rattle.std.proofs.Common.{◌≡◌, ◌-◌, None}
use Rattle.pp_file.specs.Fields.{items_at}
use Rattle.pp_file.specs.Parts.{answer_at}
use Rattle.pp_file.proofs.LoopLemmas.{with_front}
use Rattle.pp_file.proofs.states.read_answers.Given as goal

abbrev pub invariant-loop : goal.invariant-loop
invariant-loop l = with_front l.answers.items (items_at answer_at (l.count - l.counter) l.before l.cursor) ≡ items_at answer_at l.count None l.fn.cursor
