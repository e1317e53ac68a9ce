-- The calls of the runs so far and those left give the number.
use Rattle.std.proofs.Common.{◌≡◌, ◌+◌, length, take}
use Rattle.pp_text.specs.steps.Lines.{lines_of}
use Rattle.pp_text.proofs.reading.line_of_call.Given as goal

abbrev pub invariant-loop-run : goal.invariant-loop-run
invariant-loop-run l = length (lines_of (take l.run-index l.runs)) + l.before ≡ l.fn.call
