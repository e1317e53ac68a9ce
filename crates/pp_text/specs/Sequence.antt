-- Calls in a row.
use Rattle.std.specs.Prelude.{List, [], ◌∷◌, ◌++◌}
use Rattle.pp_rules.specs.declared.call.BuilderCall.{BuilderCall}
use Rattle.pp_graph.specs.Calls.{MayFollow}

-- behind the calls before them, each call may follow those in front of it
abbrev pub Follow : List BuilderCall → List BuilderCall → Type 0
Follow before [] = Unit {0}
Follow before (c ∷ calls) = MayFollow before c × Follow (before ++ c ∷ []) calls
