use Rattle.std.proofs.Common.{ℕ, ◌<◌, ◌/◌}
use Rattle.pp_flow.specs.steps.Bits.{Has}
use Rattle.pp_flow.specs.steps.Spread.{Grows}
use Rattle.pp_flow.proofs.spread.fill.Given as goal

abbrev pub invariant-loop-quarter : goal.invariant-loop-quarter
invariant-loop-quarter l = record {
  grows : Grows l.to l.initial.words l.words l.changed;
  all : (b : ℕ) → b / 64 < l.quarter → Has l.words l.to b;
}
