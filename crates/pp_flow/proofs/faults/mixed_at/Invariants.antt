use Rattle.std.proofs.Common.{ℕ, ◌<◌, ◌*◌, ◌+◌}
use Rattle.pp_flow.specs.steps.Bits.{Has}
use Rattle.pp_flow.proofs.faults.mixed_at.Given as goal

abbrev pub invariant-loop-s : goal.invariant-loop-s
invariant-loop-s l = (t : ℕ) → t < l.s → Has l.words l.node (t * 2 + 1) → Has l.words l.node (t * 2) → ⊥
