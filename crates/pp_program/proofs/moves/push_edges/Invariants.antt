use Rattle.std.proofs.Common.{take}
use Rattle.pp_program.specs.steps.Ends.{EdgeEnds}
use Rattle.pp_flow.specs.Rows.{Rowed}
use Rattle.pp_program.proofs.moves.push_edges.Given as goal

abbrev pub invariant-loop-edge : goal.invariant-loop-edge
invariant-loop-edge l = Rowed l.fn.flow l.flow (EdgeEnds (take l.edge-index l.edges))
