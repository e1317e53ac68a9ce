use Rattle.std.proofs.Common.{ℕ, ◌<◌, ◌≤◌, ◌/◌}
use Rattle.pp_flow.specs.steps.Bits.{Has}
use Rattle.pp_flow.proofs.spread.any_of.Given as goal

abbrev pub invariant-loop-quarter : goal.invariant-loop-quarter
invariant-loop-quarter l = (b : ℕ) → b / 64 < l.quarter → l.lo ≤ b → b ≤ l.hi → Has l.words l.from b → ⊥
