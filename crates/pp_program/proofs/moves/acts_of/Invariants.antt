use Rattle.std.proofs.Common.{◌≡◌, map, take}
use Rattle.pp_program.specs.declared.program.State.{State}
use Rattle.pp_program.specs.Spans.{act_of}
use Rattle.pp_program.proofs.moves.acts_of.Given as goal

abbrev pub invariant-loop-state : goal.invariant-loop-state
invariant-loop-state l = l.acts.items ≡ map (λ (s : State). act_of s.instr) (take l.state-index l.states)
