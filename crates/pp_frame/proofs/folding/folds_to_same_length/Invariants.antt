use Rattle.std.proofs.Common.{◌≡◌, drop}
use Rattle.pp_frame.specs.Bytes.{folds_to}
use Rattle.pp_frame.proofs.folding.folds_to_same_length.Given as goal

abbrev pub invariant-loop-i : goal.invariant-loop-i
invariant-loop-i l = folds_to (drop l.i l.lower) (drop l.i l.bytes) ≡ folds_to l.lower l.bytes
