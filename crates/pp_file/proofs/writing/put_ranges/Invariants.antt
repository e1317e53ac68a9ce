-- What is written so far and what is left give the whole.
use Rattle.std.proofs.Common.{◌≡◌, ◌++◌, drop, flat_map}
use Rattle.pp_file.specs.Spelling.{spelled_range}
use Rattle.pp_file.proofs.writing.put_ranges.Given as goal

abbrev pub invariant-loop-i : goal.invariant-loop-i
invariant-loop-i l = l.out.items ++ flat_map spelled_range (drop l.i l.stay) ≡ l.fn.out.items ++ flat_map spelled_range l.stay
