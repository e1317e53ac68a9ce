use Rattle.std.proofs.Common.{◌≡◌, ℕ, ◌<◌, Some}
use Rattle.std.specs.Prelude.{slice_get}
use Rattle.pp_graph.specs.declared.node.Key.{Key}
use Rattle.pp_mean.specs.Plain.{IsPlainKey}
use Rattle.pp_mean.proofs.plain.are_plain_keys.Given as goal

abbrev pub invariant-loop-key : goal.invariant-loop-key
invariant-loop-key l = (i : ℕ) (k : Key) → i < l.key-index → slice_get l.keys i ≡ Some k → IsPlainKey k
