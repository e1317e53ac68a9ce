use Rattle.std.proofs.Common.{◌≡◌, ℕ, ◌<◌, ◌⊎◌}
use Rattle.pp_flow.specs.steps.Bits.{Has}
use Rattle.pp_flow.specs.Spans.{leads}
use Rattle.pp_flow.specs.steps.Spread.{Grows}
use Rattle.pp_flow.proofs.spans.pass_on.Given as goal

abbrev pub invariant-loop-b : goal.invariant-loop-b
invariant-loop-b l = record {
  grows : Grows l.to l.initial.words l.words l.changed;
  source : (c : ℕ) → c < 256 → Has l.words l.to c → Has l.initial.words l.to c ⊎ ((a : ℕ) × (a < 64) × Has l.initial.words l.from a × (leads l.act a ≡ c));
  all : (a : ℕ) → a < l.b → Has l.initial.words l.from a → Has l.words l.to (leads l.act a);
}
