-- The edges of one node, as tables have them.
use Rattle.std.specs.Prelude.{◌≡◌, ℕ, List, [], ◌∷◌, Bool, false, ◌&&◌, ◌==◌, length, bytes_eq, filter_map}
use Rattle.std.specs.List.{list_any}
use Rattle.std.specs.FinSet as set
use Rattle.std.specs.BTreeSet.{contains}
use Rattle.std.specs.Ordering.{nat_cmp}
use Rattle.pp_rules.specs.declared.call.NamedEdge.{NamedEdge}
use Rattle.pp_rules.specs.declared.call.NamedEdge.TheVariants as edge
use Rattle.pp_rules.specs.declared.rules.clash.OwnEdges.{OwnEdges}
use Rattle.pp_rules.specs.Edges.{key_of_edge}
use Rattle.pp_rules.specs.Rules.Clash.{begins_with_byte}
use Rattle.pp_rules.specs.steps.OwnKeys.{HasKeys}

-- an edge is this peek byte
abbrev pub is_peek : ℕ → NamedEdge → Bool
is_peek b (edge.Key bytes number) = false
is_peek b (edge.Peek byte) = byte == b
is_peek b (edge.Answer number) = false
is_peek b (edge.Otherwise skip) = false

-- an edge is this answer number
abbrev pub is_answer : ℕ → NamedEdge → Bool
is_answer n (edge.Key bytes number) = false
is_answer n (edge.Peek byte) = false
is_answer n (edge.Answer number) = number == n
is_answer n (edge.Otherwise skip) = false

-- an edge is this key, of one byte, or a peek byte that it begins with
abbrev pub key_clash : List ℕ → NamedEdge → Bool
key_clash key (edge.Key bytes number) = bytes_eq bytes key && length key == 1
key_clash key (edge.Peek byte) = begins_with_byte byte key
key_clash key (edge.Answer number) = false
key_clash key (edge.Otherwise skip) = false

-- the first of some bytes is in a set
abbrev pub begins_in : set.FinSet nat_cmp → List ℕ → Bool
begins_in bytes [] = false
begins_in bytes (b ∷ key) = set.contains bytes b

-- the tables have these edges
pub record HasEdges (table : OwnEdges) (own : List NamedEdge) : Type 0 where
  pub keys : HasKeys table.keys (filter_map key_of_edge own)
  pub peeks : (b : ℕ) → set.contains table.peeks b ≡ list_any (is_peek b) own
  pub answers : (n : ℕ) → contains nat_cmp table.answers n ≡ list_any (is_answer n) own
