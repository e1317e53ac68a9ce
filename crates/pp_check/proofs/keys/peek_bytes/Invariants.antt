use Rattle.std.proofs.Common.{◌≡◌, take}
use Rattle.pp_graph.specs.declared.node.Peek.{Peek}
use Rattle.pp_check.proofs.KeyLemmas.{Holds}
use Rattle.pp_check.proofs.keys.peek_bytes.Given as goal

abbrev pub invariant-loop-place : goal.invariant-loop-place
invariant-loop-place l = Holds (λ (p : Peek) c. p.byte ≡ c) l.bytes (take l.place l.peeks)
