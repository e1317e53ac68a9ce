use Rattle.std.proofs.Common.{◌≡◌, ◌≤◌, ◌*◌, take}
use Rattle.std.specs.Prelude.{sum_by}
use Rattle.pp_program.specs.FileLength.{text_length}
use Rattle.pp_program.proofs.length.names_length.Given as goal

abbrev pub invariant-loop-name : goal.invariant-loop-name
invariant-loop-name l = (l.sum ≡ sum_by (text_length) (take l.name-index l.names)) × (l.sum ≤ 257 * l.name-index)
