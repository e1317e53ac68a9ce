-- Edges that go on with one another, as one.
use Rattle.std.specs.Prelude.{◌+◌, List, [], ◌∷◌, Bool, ◌&&◌, ◌==◌, if◌then◌else◌}
use Rattle.pp_program.specs.declared.program.Edge.{Edge}
use Rattle.pp_program.specs.Targets.{is_alike}

-- the bytes of the second edge are right above those of the first, and it does the same on them
abbrev pub joins : Edge → Edge → Bool
joins e f = e.hi + 1 == f.lo && is_alike e f

-- what the first does, on the bytes of both
abbrev pub joined : Edge → Edge → Edge
joined e f = record { lo = e.lo; hi = f.hi; take = e.take; number = e.number; target = e.target }

-- an edge and those behind it, each with those that go on with it as one
abbrev pub merged_from : Edge → List Edge → List Edge
merged_from e [] = e ∷ []
merged_from e (f ∷ l) = if joins e f then merged_from (joined e f) l else e ∷ merged_from f l

-- edges, each with those that go on with it as one
abbrev pub merged : List Edge → List Edge
merged [] = []
merged (e ∷ l) = merged_from e l
