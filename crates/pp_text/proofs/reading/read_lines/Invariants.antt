-- What is left decides as the whole does.
use Rattle.std.proofs.Common.{length}
use Rattle.pp_text.proofs.LineStepLemmas.{IsReading}
use Rattle.pp_text.proofs.reading.read_lines.Given as goal

abbrev pub invariant-loop-rest : goal.invariant-loop-rest
invariant-loop-rest l = IsReading l.initial.draft l.bytes l.room l.line l.draft l.rest

abbrev pub decreases-loop-rest : goal.decreases-loop-rest
decreases-loop-rest l = length l.rest
