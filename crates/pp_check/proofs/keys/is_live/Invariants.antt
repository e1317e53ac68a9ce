use Rattle.std.proofs.Common.{◌≡◌, ℕ, ◌<◌, true}
use Rattle.std.specs.FinSet as set
use Rattle.pp_bytes.specs.Fold.{folded}
use Rattle.pp_check.proofs.keys.is_live.Given as goal

abbrev pub invariant-loop-b : goal.invariant-loop-b
invariant-loop-b l = (c : ℕ) → c < l.b → set.contains l.next (folded l.fold c) ≡ true
