use Rattle.std.proofs.Common.{ℕ, ◌<◌}
use Rattle.pp_flow.specs.steps.Bits.{Has}
use Rattle.pp_flow.specs.Faults.{HasNoFault}
use Rattle.pp_flow.proofs.faults.first_fault.Given as goal

abbrev pub invariant-loop-node : goal.invariant-loop-node
invariant-loop-node l = (m : ℕ) → m < l.node → HasNoFault (λ b n. Has l.words n b) l.acts m
