use Rattle.std.proofs.Common.{◌≡◌, ◌++◌, drop}
use Rattle.pp_mean.specs.Whole.{open_from}
use Rattle.pp_mean.proofs.run.open_spans.Given as goal

abbrev pub invariant-loop-span : goal.invariant-loop-span
invariant-loop-span l = l.found.items ++ open_from l.span (drop l.span l.spans) ≡ open_from 0 l.spans
