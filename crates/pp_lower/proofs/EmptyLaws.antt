-- The states of a lowered program that have no edge.
use Rattle.std.proofs.Common.{◌≡◌, ℕ, zero, suc, List, [], ◌∷◌, ◌++◌, Option, Some, None, refl, sym, ◌∙◌, ap, ◌≤◌}
use Rattle.std.specs.Prelude.{slice_get}
use Rattle.pp_bytes.specs.declared.fold.Fold.{Fold}
use Rattle.pp_graph.specs.declared.node.Key.{Key}
use Rattle.pp_graph.specs.declared.node.Peek.{Peek}
use Rattle.pp_graph.specs.declared.node.Other.{Other}
use Rattle.pp_graph.specs.declared.node.Kind.{Kind}
use Rattle.pp_graph.specs.declared.node.Kind.TheVariants as kind
use Rattle.pp_graph.specs.Plan.{Plan, IsWellFormed}
use Rattle.pp_program.specs.declared.program.Edge.{Edge}
use Rattle.pp_program.specs.declared.program.Rest.{Rest}
use Rattle.pp_program.specs.declared.program.Instr.{Instr}
use Rattle.pp_program.specs.declared.program.Instr.TheVariants as instr
use Rattle.pp_program.specs.declared.program.State.{State}
use Rattle.pp_program.specs.Merge.{merged}
use Rattle.pp_program.proofs.MergeLaws.{merged-some}
use Rattle.pp_lower.specs.Tree.{place_of, each_below}
use Rattle.pp_lower.specs.Lowered.{inner_of, key_of, edge_at, peek_of, rest_by, branch_of, root_of, lowered}
use Rattle.pp_lower.proofs.Bond.{GoodKeys, GoodPeeks, GoodKind}
use Rattle.pp_lower.proofs.Keys.{has_contains, IsInner}
use Rattle.pp_lower.proofs.TreeLaws.{KeyIs, key_is, place_is, get_has, inner_only}
use Rattle.pp_lower.proofs.EdgeLaws.{OnOwn, some_edges}
use Rattle.pp_lower.proofs.WalkLaws.{own_by, peek_is, none_by, some_by}
use Rattle.pp_lower.proofs.FormLaws.{well_formed_lowers}
use Rattle.pp_lower.proofs.FromStates.{InstrIs, instr_is, FromNode, from_node}

module _ (roots : ℕ → ℕ) (root : ℕ) (keys : List Key) (peeks : List Peek) (good : GoodKeys keys) (small : GoodPeeks peeks) where
  abbrev edges_of : List ℕ → List Edge
  edges_of prefix = merged (each_below (edge_at roots root keys peeks prefix) 256)

  -- an inner state has an edge
  inner_full : (prefix : List ℕ) → IsInner keys prefix → edges_of prefix ≡ [] → ⊥
  inner_full prefix inner none =
      let b : ℕ = inner.2 in
      let some : (e : Edge) × (edge_at roots root keys peeks prefix b ≡ Some e) =
      some_by roots root keys prefix b inner.3 inner.0 inner.1 inner.4 (place_of (prefix ++ b ∷ []) (inner_of keys)) (place_is (prefix ++ b ∷ []) (inner_of keys))
      (key_of keys (prefix ++ b ∷ [])) (key_is keys (prefix ++ b ∷ [])) (peek_of peeks prefix b) in
      let full : (x : Edge) × (l : List Edge) × (each_below (edge_at roots root keys peeks prefix) 256 ≡ x ∷ l) = some_edges (edge_at roots root keys peeks prefix) own over b some.0 some.1 in
      let first : (y : Edge) × (m : List Edge) × (merged (full.0 ∷ full.1) ≡ y ∷ m) = merged-some full.0 full.1 in
      let both : first.0 ∷ first.1 ≡ [] = sym first.2 ∙ sym (ap merged full.2) ∙ none in
      cc
    where
      own : OnOwn (edge_at roots root keys peeks prefix)
      own b y h = own_by roots root b (place_of (prefix ++ b ∷ []) (inner_of keys)) (key_of keys (prefix ++ b ∷ [])) (peek_of peeks prefix b) y h

      over : (b : ℕ) → 256 ≤ b → edge_at roots root keys peeks prefix b ≡ None
      over b h =
          none_by roots root keys peeks prefix b good small h (place_of (prefix ++ b ∷ []) (inner_of keys)) (place_is (prefix ++ b ∷ []) (inner_of keys))
          (key_of keys (prefix ++ b ∷ [])) (key_is keys (prefix ++ b ∷ [])) (peek_of peeks prefix b) (peek_is peeks prefix b)

  -- a key is the prefix of no state without edges
  no_key : (prefix : List ℕ) (j : ℕ) → slice_get ([] ∷ inner_of keys) j ≡ Some prefix → edges_of prefix ≡ [] → (k : Key) → KeyIs keys prefix (Some k) → ⊥
  no_key prefix zero at none k key =
      let first : prefix ≡ [] = cc in
      good.filled k (has_contains keys k key.0) (key.1 ∙ first)
  no_key prefix (suc j) at none k key = inner_full prefix (inner_only keys prefix (get_has (inner_of keys) j prefix at)) none

  -- so its rest carries no number
  rest_bare : (other : Other) (prefix : List ℕ) (j : ℕ) → slice_get ([] ∷ inner_of keys) j ≡ Some prefix → edges_of prefix ≡ [] → (o : Option Key) → KeyIs keys prefix o → (rest_by roots other o).number ≡ None
  rest_bare other prefix j at none None key = refl
  rest_bare other prefix j at none (Some k) key = absurd (no_key prefix j at none k key)

kind_bare : (roots : ℕ → ℕ) (root : ℕ) (k : Kind) → GoodKind k → (j : ℕ) (i : Instr) → InstrIs roots root k j i → (fold : Fold) (stay : List (ℕ × ℕ)) (rest : Rest) → i ≡ instr.Branch fold stay [] rest → rest.number ≡ None
kind_bare roots root (kind.Match folding keys peeks other) good j i (prefix, at, same) fold stay rest is =
    let whole : branch_of roots root folding keys peeks other prefix ≡ instr.Branch fold stay [] rest = same ∙ is in
    let none : merged (each_below (edge_at roots root keys peeks prefix) 256) ≡ [] = cc in
    let last : rest_by roots other (key_of keys prefix) ≡ rest = cc in
    sym (ap (λ (r : Rest). r.number) last) ∙ rest_bare roots root keys peeks good.0 good.1 other prefix j at none (key_of keys prefix) (key_is keys prefix)
kind_bare roots root (kind.Invoke what answers other) good j i (at, same) fold stay rest is = absurd cc
kind_bare roots root (kind.Consume prop next) good j i (at, same) fold stay rest is = absurd cc
kind_bare roots root (kind.SpanOpen span next) good j i (at, same) fold stay rest is = absurd cc
kind_bare roots root (kind.SpanClose span next) good j i (at, same) fold stay rest is = absurd cc
kind_bare roots root (kind.Pause number reason next) good j i (at, same) fold stay rest is = absurd cc
kind_bare roots root (kind.Fail number reason) good j i (at, same) fold stay rest is = absurd cc

-- where a state has no edge, its rest carries no number
pub empty_bare : (g : Plan) → IsWellFormed g → (n : ℕ) (s : State) → slice_get (lowered g).states n ≡ Some s → (fold : Fold) (stay : List (ℕ × ℕ)) (rest : Rest) → s.instr ≡ instr.Branch fold stay [] rest → rest.number ≡ None
empty_bare g form n s e fold stay rest is =
    let from : FromNode g.nodes n s = from_node g.nodes n s e in
    let made : (s.origin ≡ from.place) × InstrIs (root_of g.nodes) (root_of g.nodes from.place) from.node.kind from.step s.instr = instr_is (root_of g.nodes) from.place (root_of g.nodes from.place) from.node.kind from.step s from.listed in
    kind_bare (root_of g.nodes) (root_of g.nodes from.place) from.node.kind (well_formed_lowers g form from.place from.node from.there) from.step s.instr made.1 fold stay rest is
