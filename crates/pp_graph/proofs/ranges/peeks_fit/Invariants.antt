use Rattle.std.proofs.Common.{take}
use Rattle.std.specs.Prelude.{All}
use Rattle.pp_graph.specs.Ranges.{PeekInRange}
use Rattle.pp_graph.proofs.ranges.peeks_fit.Given as goal

abbrev pub invariant-loop-peek : goal.invariant-loop-peek
invariant-loop-peek l = All PeekInRange (take l.peek-index l.peeks)
