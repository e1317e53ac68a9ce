use Rattle.std.proofs.Common.{take}
use Rattle.pp_graph.specs.steps.Places.{ArePlaces}
use Rattle.pp_graph.proofs.places.SortPlaces.of.Given as goal

abbrev pub invariant-loop-call : goal.invariant-loop-call
invariant-loop-call l = ArePlaces l.places (take l.call-index l.calls)
