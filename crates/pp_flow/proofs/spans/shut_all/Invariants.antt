use Rattle.std.proofs.Common.{◌≡◌, ℕ, ◌<◌, ◌*◌, length}
use Rattle.pp_flow.specs.steps.Bits.{Has}
use Rattle.pp_flow.proofs.spans.shut_all.Given as goal

abbrev pub invariant-loop-s : goal.invariant-loop-s
invariant-loop-s l = record {
  long : length l.words ≡ length l.initial.words;
  only : (x b : ℕ) → b < 256 → Has l.words x b → (x ≡ l.entry) × ((s : ℕ) × (s < 32) × (b ≡ s * 2));
  all : (s : ℕ) → s < l.s → Has l.words l.entry (s * 2);
}
