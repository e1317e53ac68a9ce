-- The loops of a graph: cycles of moves that take no byte, among nodes that can be come to.
use Rattle.std.specs.Prelude.{ℕ, List}
use Rattle.pp_graph.specs.Plan.{Plan}
use Rattle.pp_event.specs.Loops as loops
use Rattle.pp_mean.specs.Loops.{graph_moves}

-- a node that can be come to with b next is on a cycle of free moves there
abbrev pub IsOnCycle : Plan → ℕ → ℕ → Type 0
IsOnCycle g b node = loops.IsOnCycle (graph_moves g) b node

-- free moves lead from each node to the next, and from the last to the first
abbrev pub IsCycle : Plan → ℕ → List ℕ → Type 0
IsCycle g b cycle = loops.IsCycle (graph_moves g) b cycle

-- the least byte that has a loop, and a cycle there that begins at the least node that is on any at that byte
abbrev pub IsLeastLoop : Plan → ℕ → List ℕ → Type 0
IsLeastLoop g byte cycle = loops.IsLeastLoop (graph_moves g) byte cycle
