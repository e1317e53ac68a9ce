use Rattle.std.proofs.Common.{◌≡◌, take}
use Rattle.std.specs.Prelude.{slice_index}
use Rattle.pp_graph.specs.declared.node.Key.{Key}
use Rattle.pp_check.specs.steps.Ends.{StopsIn}
use Rattle.pp_check.proofs.KeyLemmas.{Holds}
use Rattle.pp_check.proofs.keys.stop_bytes.Given as goal

abbrev pub invariant-loop-place : goal.invariant-loop-place
invariant-loop-place l = Holds (λ (k : Key) c. (slice_index k.bytes 0 ≡ c) × StopsIn l.fold l.keys k.bytes) l.bytes (take l.place l.keys)
