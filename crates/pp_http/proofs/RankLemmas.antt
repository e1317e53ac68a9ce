-- A number for each node that falls along each move that takes no byte: then no way of such moves comes round, and
-- none is longer than the number where it begins.
use Rattle.std.proofs.Common.{◌≡◌, refl, subst, ℕ, zero, suc, ◌+◌, ◌≤◌, ◌<◌, List, [], ◌∷◌, ◌++◌, Bool, true, false, ◌&&◌, inl, inr, Option, Some, None, map, slice_get, slice_index_or, nat_lt, nat_le, arith}
use Rattle.std.specs.List.{list_all}
use Rattle.std.proofs.lemmas.Bool.{ltb-true, leb-true}
use Rattle.pp_graph.specs.declared.node.Peek.{Peek}
use Rattle.pp_graph.specs.declared.node.Answer.{Answer}
use Rattle.pp_graph.specs.declared.node.Kind.{Kind}
use Rattle.pp_graph.specs.declared.node.Kind.TheVariants.{Match, Invoke, Consume, SpanOpen, SpanClose, Pause, Fail}
use Rattle.pp_graph.specs.declared.node.Node.{Node}
use Rattle.pp_graph.specs.Plan.{Plan, IsWellFormed}
use Rattle.pp_flow.specs.Rows.{free}
use Rattle.pp_event.specs.Loops.{FreeMove, FreeWay, stay, onward, Reaches}
use Rattle.pp_event.proofs.FlowLemmas.{reached-byte}
use Rattle.pp_mean.specs.Loops.{graph_moves, IsLoopFree}
use Rattle.pp_check.specs.steps.Ends.{EndsOf, EndsAt}
use Rattle.pp_check.proofs.KindLemmas.{free-told}
use Rattle.pp_check.proofs.WellLemmas.{nodes-fit}
use Rattle.pp_http.proofs.TestLemmas.{and_left, and_right, all_append, all_any}

-- the otherwise, where it takes no byte
abbrev pub plain_targets : Bool → ℕ → List ℕ
plain_targets true target = []
plain_targets false target = target ∷ []

-- where a node's moves that take no byte may lead, whatever byte comes next
abbrev pub free_targets : Kind → List ℕ
free_targets (Match fold keys peeks other) = plain_targets other.skip other.target ++ map (λ (p : Peek). p.target) peeks
free_targets (Invoke code answers other) = other ∷ map (λ (a : Answer). a.target) answers
free_targets (Consume p n) = n ∷ []
free_targets (SpanOpen s n) = n ∷ []
free_targets (SpanClose s n) = n ∷ []
free_targets (Pause code reason n) = n ∷ []
free_targets (Fail code reason) = []

-- a rank is above those of these targets
abbrev pub is_above : List ℕ → ℕ → List ℕ → Bool
is_above ranks r targets = list_all (λ t. nat_lt (slice_index_or ranks t r) r) targets

-- each node's rank is above those of its targets
abbrev pub all_fall : List ℕ → List ℕ → List Node → Bool
all_fall ranks [] [] = true
all_fall ranks [] (n ∷ ns) = false
all_fall ranks (r ∷ rs) [] = true
all_fall ranks (r ∷ rs) (n ∷ ns) = is_above ranks r (free_targets n.kind) && all_fall ranks rs ns

plain_in : (f : ℕ → Bool) (s : Bool) (t : ℕ) → s ≡ false → list_all f (plain_targets s t) ≡ true → f t ≡ true
plain_in f true t e h = absurd cc
plain_in f false t e h = and_left (f t) true h

-- a test that holds of a node's targets holds where each of its free moves leads
pub free_in : (f : ℕ → Bool) (k : Kind) (b next : ℕ) → EndsOf k free b next → list_all f (free_targets k) ≡ true → f next ≡ true
free_in f (Match fold keys peeks other) b next (inl m) e = absurd m
free_in f (Match fold keys peeks other) b next (inr (inl a)) e =
    all_any f (λ (p : Peek). p.target) peeks next a.0 a.1 (all_append f (plain_targets other.skip other.target) (map (λ (p : Peek). p.target) peeks) e).1 a.2 a.3 a.4.1
free_in f (Match fold keys peeks other) b next (inr (inr m)) e =
    subst (λ n. f n ≡ true) m.0 (plain_in f other.skip other.target m.1 (all_append f (plain_targets other.skip other.target) (map (λ (p : Peek). p.target) peeks) e).0)
free_in f (Invoke code answers other) b next (inl p) e = subst (λ n. f n ≡ true) p (and_left (f other) (list_all f (map (λ (a : Answer). a.target) answers)) e)
free_in f (Invoke code answers other) b next (inr a) e = all_any f (λ (x : Answer). x.target) answers next a.0 a.1 (and_right (f other) (list_all f (map (λ (a : Answer). a.target) answers)) e) a.2 a.3 a.4
free_in f (Consume p n) b next m e = subst (λ n. f n ≡ true) m (and_left (f n) true e)
free_in f (SpanOpen s n) b next m e = subst (λ n. f n ≡ true) m (and_left (f n) true e)
free_in f (SpanClose s n) b next m e = subst (λ n. f n ≡ true) m (and_left (f n) true e)
free_in f (Pause code reason n) b next m e = subst (λ n. f n ≡ true) m (and_left (f n) true e)
free_in f (Fail code reason) b next m e = absurd m

above_at : (ranks rs : List ℕ) (ns : List Node) (i : ℕ) (n : Node) → all_fall ranks rs ns ≡ true → slice_get ns i ≡ Some n →
    is_above ranks (slice_index_or rs i 0) (free_targets n.kind) ≡ true
above_at ranks [] [] i n e g = grind (arith, g)
above_at ranks [] (x ∷ ns) i n e g = grind (arith, e)
above_at ranks (r ∷ rs) [] i n e g = grind (arith, g)
above_at ranks (r ∷ rs) (x ∷ ns) zero n e g = let same : x ≡ n = grind (arith, g) in subst (λ (m : Node). is_above ranks r (free_targets m.kind) ≡ true) same (and_left (is_above ranks r (free_targets x.kind)) (all_fall ranks rs ns) e)
above_at ranks (r ∷ rs) (x ∷ ns) (suc i) n e g = above_at ranks rs ns i n (and_right (is_above ranks r (free_targets x.kind)) (all_fall ranks rs ns) e) g

-- a rank given for another's default is at least as great where that default is
default_le : (ranks : List ℕ) (t d : ℕ) → slice_index_or ranks t 0 ≤ slice_index_or ranks t d
default_le [] t d = omega arith
default_le (r ∷ rs) zero d = omega arith
default_le (r ∷ rs) (suc t) d = default_le rs t d

-- what bounds each number of a list bounds what stands at a place
bounded_at : (most : ℕ) (ranks : List ℕ) (i : ℕ) → list_all (λ r. nat_le r most) ranks ≡ true → slice_index_or ranks i 0 ≤ most
bounded_at most [] i e = omega arith
bounded_at most (r ∷ rs) zero e = leb-true r most (and_left (nat_le r most) (list_all (λ r. nat_le r most) rs) e)
bounded_at most (r ∷ rs) (suc i) e = bounded_at most rs i (and_right (nat_le r most) (list_all (λ r. nat_le r most) rs) e)

module _ (g : Plan) (well : IsWellFormed g) (ranks : List ℕ) (fall : all_fall ranks ranks g.nodes ≡ true) where
  abbrev rank : ℕ → ℕ
  rank node = slice_index_or ranks node 0

  falls_at : (o : Option Node) (b node next : ℕ) → slice_get g.nodes node ≡ o → EndsAt o free b next → rank next < rank node
  falls_at None b node next there m = absurd m
  falls_at (Some n) b node next there m =
      let test : nat_lt (slice_index_or ranks next (rank node)) (rank node) ≡ true =
      free_in (λ t. nat_lt (slice_index_or ranks t (rank node)) (rank node)) n.kind b next m (above_at ranks ranks g.nodes node n fall there) in
      let lt : slice_index_or ranks next (rank node) < rank node = ltb-true (slice_index_or ranks next (rank node)) (rank node) test in
      let le : rank next ≤ slice_index_or ranks next (rank node) = default_le ranks next (rank node) in
      omega arith

  falls : (b node next : ℕ) → b < 256 → FreeMove (graph_moves g) b node next → rank next < rank node
  falls b node next h m = falls_at (slice_get g.nodes node) b node next refl (free-told g (nodes-fit g well) b node next h m)

  way_falls : {b node n end : ℕ} → b < 256 → FreeWay (graph_moves g) b node n end → rank end + n ≤ rank node
  way_falls h stay = omega arith
  way_falls {b} {node} h (onward {next = next} {end = end} {n = n} m w) =
      let rest : rank end + n ≤ rank next = way_falls h w in
      let first : rank next < rank node = falls b node next h m in
      omega arith

  pub loop_free : IsLoopFree g
  loop_free b node n r w = let fell : rank node + suc n ≤ rank node = way_falls (reached-byte (graph_moves g) r) w in omega arith

  -- no way of free moves is longer than the greatest rank
  pub at_most : (most : ℕ) → list_all (λ r. nat_le r most) ranks ≡ true → (b node n end : ℕ) → Reaches (graph_moves g) b node → FreeWay (graph_moves g) b node n end → n ≤ most
  at_most most bound b node n end r w =
      let fell : rank end + n ≤ rank node = way_falls (reached-byte (graph_moves g) r) w in
      let here : rank node ≤ most = bounded_at most ranks node bound in
      omega arith
