-- What is written so far and what is left give the whole.
use Rattle.std.proofs.Common.{◌≡◌, ◌++◌, drop, flat_map}
use Rattle.pp_file.specs.Spelling.{text}
use Rattle.pp_file.proofs.writing.put_names.Given as goal

abbrev pub invariant-loop-i : goal.invariant-loop-i
invariant-loop-i l = l.out.items ++ flat_map text (drop l.i l.program.program.names) ≡ l.fn.out.items ++ flat_map text l.program.program.names
