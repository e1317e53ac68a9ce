use Rattle.std.proofs.Common.{take}
use Rattle.pp_graph.specs.declared.node.Key.{Key}
use Rattle.pp_check.specs.steps.Ends.{GoesOnBy}
use Rattle.pp_check.proofs.KeyLemmas.{Holds}
use Rattle.pp_check.proofs.keys.next_bytes.Given as goal

abbrev pub invariant-loop-place : goal.invariant-loop-place
invariant-loop-place l = Holds (λ (k : Key) c. GoesOnBy l.front k.bytes c) l.bytes (take l.place l.keys)
