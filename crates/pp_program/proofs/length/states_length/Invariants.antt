use Rattle.std.proofs.Common.{◌≡◌, ◌≤◌, ◌*◌, ◌^◌, take}
use Rattle.std.specs.Prelude.{sum_by}
use Rattle.pp_program.specs.FileLength.{state_length}
use Rattle.pp_program.proofs.length.states_length.Given as goal

abbrev pub invariant-loop-state : goal.invariant-loop-state
invariant-loop-state l = (l.sum ≡ sum_by (state_length) (take l.state-index l.states)) × (l.sum ≤ 2 ^ 41 * l.state-index)
