use Rattle.std.proofs.Common.{◌≡◌, ◌-◌}
use Rattle.pp_file.specs.Fields.{any_at}
use Rattle.pp_file.specs.Parts.{state_at}
use Rattle.pp_file.proofs.LoopLemmas.{with_front}
use Rattle.pp_file.proofs.states.read_states.Given as goal

abbrev pub invariant-loop : goal.invariant-loop
invariant-loop l = with_front l.states.items (any_at state_at (l.count - l.counter) l.cursor) ≡ any_at state_at l.count l.fn.cursor
