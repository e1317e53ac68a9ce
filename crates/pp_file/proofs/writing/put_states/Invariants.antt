-- What is written so far and the states left give all states, and a step was taken for each so far.
use Rattle.std.proofs.Common.{◌≡◌, ◌+◌, ◌++◌, drop, flat_map}
use Rattle.pp_file.specs.Spelling.{spelled_state}
use Rattle.pp_file.proofs.writing.put_states.Given as goal

abbrev pub invariant-loop-state : goal.invariant-loop-state
invariant-loop-state g l = record {
  written : l.out.items ++ flat_map spelled_state (drop l.state l.program.program.states) ≡ l.fn.out.items ++ flat_map spelled_state l.program.program.states;
  ticked : l.steps ≡ l.fn.steps + l.state;
}
