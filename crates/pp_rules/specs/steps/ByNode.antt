-- Facts of calls, node by node.
use Rattle.std.specs.Prelude.{ℕ, ◌+◌, ◌<◌, ◌≤◌, List, drop, length}
use Rattle.pp_rules.specs.declared.call.BuilderCall.{BuilderCall}
use Rattle.pp_rules.specs.Calls.{own_calls}

-- the place behind the calls that belong to the node of this one, or that stand with it behind a node
abbrev pub end_of_node : List BuilderCall → ℕ → ℕ
end_of_node calls i = i + length (own_calls (drop i calls))

-- the fact holds of one of the calls before this place
abbrev pub HoldsBelow : (List BuilderCall → ℕ → Type 0) → List BuilderCall → ℕ → ℕ → Type 0
HoldsBelow Among calls end m = (m < end) × Among calls m

-- and of one of those from a place to another
abbrev pub HoldsBetween : (List BuilderCall → ℕ → Type 0) → List BuilderCall → ℕ → ℕ → ℕ → Type 0
HoldsBetween Among calls start end m = (start ≤ m) × HoldsBelow Among calls end m
