-- A key clash by its parts: equal keys that sorting brings together, and all other clashes, which are told edge by edge.
use Rattle.std.specs.Prelude.{ℕ, List, Option, Some, Bool, false, ◌&&◌, ◌==◌, not, length, take, slice_get, bytes_eq, IsTrue, IsSomeAnd}
use Rattle.std.specs.Prelude.{None as none}
use Rattle.std.specs.List.{list_any}
use Rattle.pp_rules.specs.declared.call.NamedEdge.{NamedEdge}
use Rattle.pp_rules.specs.declared.call.NamedEdge.TheVariants as edge
use Rattle.pp_rules.specs.declared.call.BuilderCall.{BuilderCall}
use Rattle.pp_rules.specs.Edges.{edge_of, edges_of}
use Rattle.pp_rules.specs.Rules.Clash.{edges_clash}

-- two keys are equal, and have not one byte
abbrev pub same_longer : NamedEdge → NamedEdge → Bool
same_longer (edge.Key bytes number) (edge.Key other n) = bytes_eq bytes other && not (length other == 1)
same_longer a b = false

-- two edges clash, and are not such keys
abbrev pub short_clash : NamedEdge → NamedEdge → Bool
short_clash e when = edges_clash e when && not (same_longer e when)

-- one of these edges passes a test with the edge of a call, if it adds one
abbrev pub any_with : (NamedEdge → NamedEdge → Bool) → List NamedEdge → Option NamedEdge → Bool
any_with test edges none = false
any_with test edges (Some when) = list_any (λ e. test e when) edges

-- an earlier edge of the same node clashes with it, and is not the same longer key
abbrev pub is_short_clash : List BuilderCall → BuilderCall → Bool
is_short_clash before c = any_with short_clash (edges_of before) (edge_of c)

-- it adds a key that has not one byte, as an earlier call of the same node does
abbrev pub comes_again : List BuilderCall → BuilderCall → Bool
comes_again before c = any_with same_longer (edges_of before) (edge_of c)

-- the call of this number does
abbrev pub ComesAgainAt : List BuilderCall → ℕ → Type 0
ComesAgainAt calls i = IsSomeAnd (slice_get calls i) (λ c. IsTrue (comes_again (take i calls) c))
