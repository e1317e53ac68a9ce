use Rattle.std.proofs.Common.{◌≡◌, ◌⊎◌, ℕ, ◌<◌, ◌≤◌, length, get_or}
use Rattle.pp_flow.specs.steps.Bits.{Has}
use Rattle.pp_flow.proofs.loops.greatest.Given as goal

abbrev pub invariant-loop-x : goal.invariant-loop-x
invariant-loop-x l = record {
  least : l.gap ≤ l.most;
  above : (x : ℕ) → x < l.x → Has l.words x l.b → get_or l.ranks x 0 ≤ l.most;
  met : (l.most ≡ l.gap) ⊎ ((x : ℕ) × (x < length l.ranks) × Has l.words x l.b × (get_or l.ranks x 0 ≡ l.most));
}
