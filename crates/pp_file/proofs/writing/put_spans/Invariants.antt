-- What is written so far and what is left give the whole.
use Rattle.std.proofs.Common.{◌≡◌, ◌++◌, drop, flat_map}
use Rattle.pp_file.specs.Spelling.{spelled_span}
use Rattle.pp_file.proofs.writing.put_spans.Given as goal

abbrev pub invariant-loop-i : goal.invariant-loop-i
invariant-loop-i l = l.out.items ++ flat_map spelled_span (drop l.i l.program.program.spans) ≡ l.fn.out.items ++ flat_map spelled_span l.program.program.spans
