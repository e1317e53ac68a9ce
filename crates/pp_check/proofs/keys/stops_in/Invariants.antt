use Rattle.std.proofs.Common.{ℕ, ◌<◌, take}
use Rattle.pp_check.specs.steps.Ends.{IsLive, IsKeyOf}
use Rattle.pp_check.proofs.keys.stops_in.Given as goal

abbrev pub invariant-loop-size : goal.invariant-loop-size
invariant-loop-size l = (m : ℕ) → m < l.size → 0 < m → (IsKeyOf l.keys (take m l.bytes) → ⊥) → IsLive l.fold l.keys (take m l.bytes) → ⊥
