-- The rule on two keys of one node where one begins the other: prefix gap.
use Rattle.std.specs.Prelude.{ℕ, List, ◌∷◌, ◌++◌, Option, Some, None, Bool, false, ◌||◌}
use Rattle.std.specs.List.{list_any}
use Rattle.pp_rules.specs.declared.call.NamedEdge.{NamedEdge}
use Rattle.pp_rules.specs.declared.call.NamedEdge.TheVariants as edge
use Rattle.pp_rules.specs.declared.call.BuilderCall.{BuilderCall}
use Rattle.pp_rules.specs.Keys.{has_gap}
use Rattle.pp_rules.specs.Calls.{own_calls, since_node}
use Rattle.pp_rules.specs.Edges.{edge_of, keys_of}

-- Prefix gap: with an earlier key of the same node there is such a gap, either way round. The keys are all those of the node.
abbrev pub gaps_with : List (List ℕ) → List (List ℕ) → List ℕ → Bool
gaps_with keys earlier bytes = list_any (λ k. has_gap keys k bytes || has_gap keys bytes k) earlier

abbrev pub gaps_with_any : List (List ℕ) → List (List ℕ) → Option NamedEdge → Bool
gaps_with_any keys earlier None = false
gaps_with_any keys earlier (Some (edge.Key bytes number)) = gaps_with keys earlier bytes
gaps_with_any keys earlier (Some (edge.Peek byte)) = false
gaps_with_any keys earlier (Some (edge.Answer number)) = false
gaps_with_any keys earlier (Some (edge.Otherwise skip)) = false

abbrev pub is_gap : List BuilderCall → BuilderCall → List BuilderCall → Bool
is_gap before c after = gaps_with_any (keys_of (since_node before ++ c ∷ own_calls after)) (keys_of (since_node before)) (edge_of c)
