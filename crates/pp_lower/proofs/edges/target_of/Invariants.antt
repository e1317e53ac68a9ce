use Rattle.std.proofs.Common.{◌≡◌, drop}
use Rattle.pp_lower.specs.steps.Parts.{peek_by}
use Rattle.pp_lower.proofs.edges.target_of.Given as goal

abbrev pub invariant-loop-peek : goal.invariant-loop-peek
invariant-loop-peek l = peek_by (drop l.peek-index l.peeks) l.byte ≡ peek_by l.peeks l.byte
