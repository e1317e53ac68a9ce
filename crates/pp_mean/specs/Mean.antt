-- The meaning of a graph on a whole string.
use Rattle.std.specs.Prelude.{ℕ, List, None, All, length, replicate}
use Rattle.pp_event.specs.Run.{Config, Oracle, RunResult, RunEnds}
use Rattle.pp_event.specs.Values.{values_of}
use Rattle.pp_graph.specs.Plan.{Plan, Holds}
use Rattle.pp_mean.specs.Nodes.{graph_turn}

-- the entry at place 0, with these values of the properties, and no span open
abbrev pub entry_with : Plan → List ℕ → Config
entry_with g values = record { node = g.entry; at = 0; carried = 0; values = values; spans = replicate (length g.spans) None }

-- the run of the graph on the string, which passes so many pauses and ends at the next, has this result: after some
-- number of moves it has ended so
abbrev pub Means : Plan → List ℕ → List ℕ → Oracle → ℕ → RunResult → Type 0
Means g values bytes oracle resumes r = RunEnds (graph_turn g) oracle (entry_with g values) bytes resumes r

-- the values that a run begins with: 0 for each property, and then these sets
abbrev pub values_by : Plan → List (ℕ × ℕ) → List ℕ
values_by g sets = values_of (length g.props) sets

-- each set names a property of the graph, by its place, and its value fits the property
abbrev pub SetsFit : Plan → List (ℕ × ℕ) → Type 0
SetsFit g sets = All (λ (set : ℕ × ℕ). Holds g set.0 set.1) sets
