-- A table of the span that is open at each node: 0 is none, s + 1 is span s, 99 stands at an error node, where any may be.
use Rattle.std.proofs.Common.{◌≡◌, ◌≢◌, refl, sym, ◌∙◌, subst, ap, ℕ, zero, suc, ◌<◌, List, [], ◌∷◌, ◌++◌, Bool, true, false, cond, ◌&&◌, ◌||◌, ◌⊎◌, inl, inr, ltb-true, Option, Some, None, map, slice_get, slice_index_or, ◌==◌, nat_lt, eqb-true, arith}
use Rattle.std.specs.List.{list_all}
use Rattle.std.proofs.lemmas.Bool.{or_cases, false≢true}
use Rattle.pp_flow.specs.declared.moves.Act.TheVariants as act
use Rattle.pp_flow.specs.Standing.{MayStand, at_entry, along, behind}
use Rattle.pp_graph.specs.declared.node.Key.{Key}
use Rattle.pp_graph.specs.declared.node.Peek.{Peek}
use Rattle.pp_graph.specs.declared.node.Answer.{Answer}
use Rattle.pp_graph.specs.declared.node.Kind.{Kind}
use Rattle.pp_graph.specs.declared.node.Kind.TheVariants.{Match, Invoke, Consume, SpanOpen, SpanClose, Pause, Fail}
use Rattle.pp_graph.specs.declared.node.Node.{Node}
use Rattle.pp_graph.specs.Plan.{Plan}
use Rattle.pp_check.specs.Edges.{HasEdge, EdgeFrom}
use Rattle.pp_check.specs.Spans.{act_of, act_by, ways, SpansFit}
use Rattle.pp_http.proofs.TestLemmas.{and_left, and_right, all_append, all_any}

-- where the edges of a node lead
abbrev pub targets : Kind → List ℕ
targets (Match fold keys peeks other) = other.target ∷ (map (λ (k : Key). k.target) keys ++ map (λ (p : Peek). p.target) peeks)
targets (Invoke code answers other) = other ∷ map (λ (a : Answer). a.target) answers
targets (Consume p n) = n ∷ []
targets (SpanOpen s n) = n ∷ []
targets (SpanClose s n) = n ∷ []
targets (Pause code reason n) = n ∷ []
targets (Fail code reason) = []

-- what is open behind a node
abbrev pub open_behind : Kind → ℕ → ℕ
open_behind (Match fold keys peeks other) o = o
open_behind (Invoke code answers other) o = o
open_behind (Consume p n) o = o
open_behind (SpanOpen s n) o = suc s
open_behind (SpanClose s n) o = 0
open_behind (Pause code reason n) o = o
open_behind (Fail code reason) o = o

-- whether the node may stand so
abbrev pub may_be : Kind → ℕ → Bool
may_be (Match fold keys peeks other) o = nat_lt o 99
may_be (Invoke code answers other) o = nat_lt o 99
may_be (Consume p n) o = nat_lt o 99
may_be (SpanOpen s n) o = o == 0
may_be (SpanClose s n) o = (o == suc s) && nat_lt o 99
may_be (Pause code reason n) o = nat_lt o 99
may_be (Fail code reason) o = true

abbrev pub is_open : List ℕ → ℕ → ℕ → Bool
is_open table o t = (slice_index_or table t 0 == o) || (slice_index_or table t 0 == 99)

-- whether a node stands so, and its edges lead where what is open behind it is open
abbrev pub stands : List ℕ → Kind → ℕ → Bool
stands table k o = may_be k o && list_all (is_open table (open_behind k o)) (targets k)

abbrev pub all_stand : List ℕ → List ℕ → List Node → Bool
all_stand table [] [] = true
all_stand table [] (n ∷ ns) = false
all_stand table (o ∷ os) [] = false
all_stand table (o ∷ os) (n ∷ ns) = stands table n.kind o && all_stand table os ns

stands_at : (table os : List ℕ) (ns : List Node) (i : ℕ) (n : Node) → all_stand table os ns ≡ true → slice_get ns i ≡ Some n → stands table n.kind (slice_index_or os i 0) ≡ true
stands_at table [] [] i n e g = grind (arith, g)
stands_at table [] (x ∷ ns) i n e g = grind (arith, e)
stands_at table (o ∷ os) [] i n e g = absurd (false≢true e)
stands_at table (o ∷ os) (x ∷ ns) zero n e g = let same : x ≡ n = grind (arith, g) in subst (λ (m : Node). stands table m.kind o ≡ true) same (and_left (stands table x.kind o) (all_stand table os ns) e)
stands_at table (o ∷ os) (x ∷ ns) (suc i) n e g = stands_at table os ns i n (and_right (stands table x.kind o) (all_stand table os ns) e) g

-- the table ends where the nodes do
past_end : (table os : List ℕ) (ns : List Node) (i : ℕ) → all_stand table os ns ≡ true → slice_get ns i ≡ None → slice_index_or os i 0 ≡ 0
past_end table [] ns i e g = refl
past_end table (o ∷ os) [] i e g = absurd (false≢true e)
past_end table (o ∷ os) (x ∷ ns) zero e g = absurd cc
past_end table (o ∷ os) (x ∷ ns) (suc i) e g = past_end table os ns i (and_right (stands table x.kind o) (all_stand table os ns) e) g

-- a standing of a span agrees with what is open
pub record Agrees (o s : ℕ) (is_up : Bool) : Type 0 where
  pub opened : is_up ≡ true → o ≡ suc s
  pub shut : is_up ≡ false → o ≢ suc s

edge_in : (f : ℕ → Bool) (k : Kind) (next : ℕ) → HasEdge k next → list_all f (targets k) ≡ true → f next ≡ true
edge_in f (Match fold keys peeks other) next (inl a) e =
    all_any f (λ (k : Key). k.target) keys next a.0 a.1 (all_append f (map (λ (k : Key). k.target) keys) (map (λ (p : Peek). p.target) peeks) (and_right (f other.target) (list_all f (map (λ (k : Key). k.target) keys ++ map (λ (p : Peek). p.target) peeks)) e)).0 a.2 a.3 a.4
edge_in f (Match fold keys peeks other) next (inr (inl a)) e =
    all_any f (λ (p : Peek). p.target) peeks next a.0 a.1 (all_append f (map (λ (k : Key). k.target) keys) (map (λ (p : Peek). p.target) peeks) (and_right (f other.target) (list_all f (map (λ (k : Key). k.target) keys ++ map (λ (p : Peek). p.target) peeks)) e)).1 a.2 a.3 a.4
edge_in f (Match fold keys peeks other) next (inr (inr p)) e = subst (λ n. f n ≡ true) p (and_left (f other.target) (list_all f (map (λ (k : Key). k.target) keys ++ map (λ (p : Peek). p.target) peeks)) e)
edge_in f (Invoke code answers other) next (inl p) e = subst (λ n. f n ≡ true) p (and_left (f other) (list_all f (map (λ (a : Answer). a.target) answers)) e)
edge_in f (Invoke code answers other) next (inr a) e = all_any f (λ (x : Answer). x.target) answers next a.0 a.1 (and_right (f other) (list_all f (map (λ (a : Answer). a.target) answers)) e) a.2 a.3 a.4
edge_in f (Consume p n) next m e = subst (λ n. f n ≡ true) m (and_left (f n) true e)
edge_in f (SpanOpen s n) next m e = subst (λ n. f n ≡ true) m (and_left (f n) true e)
edge_in f (SpanClose s n) next m e = subst (λ n. f n ≡ true) m (and_left (f n) true e)
edge_in f (Pause code reason n) next m e = subst (λ n. f n ≡ true) m (and_left (f n) true e)
edge_in f (Fail code reason) next m e = absurd m

-- where no span is open, behind an open of this span its own is
opened_behind : (span s : ℕ) (is_up : Bool) → Agrees 0 s is_up → (c : Bool) → (s == span) ≡ c → Agrees (suc span) s (cond c true is_up)
opened_behind span s is_up a true e = (let same : s ≡ span = eqb-true s span e in record { opened = λ h. ap (λ n. suc n) (sym same); shut = λ h. absurd (false≢true (sym h)) })
opened_behind span s is_up a false e = record {
  opened = λ h. (let none : 0 ≡ suc s = a.opened h in absurd (omega (arith, none)));
  shut = λ h q. (let same : s ≡ span = omega (arith, q) in grind (arith, same, e));
}

-- where this span is open, none is behind its close
shut_behind : (span s : ℕ) (is_up : Bool) → Agrees (suc span) s is_up → (c : Bool) → (s == span) ≡ c → Agrees 0 s (cond c false is_up)
shut_behind span s is_up a true e = record { opened = λ h. absurd (false≢true h); shut = λ h q. omega (arith, q) }
shut_behind span s is_up a false e = record {
  opened = λ h. (let own : suc span ≡ suc s = a.opened h in let same : s ≡ span = omega (arith, own) in absurd (grind (arith, same, e)));
  shut = λ h q. omega (arith, q);
}

agrees_behind : (k : Kind) (o s : ℕ) (is_up : Bool) → may_be k o ≡ true → Agrees o s is_up → Agrees (open_behind k o) s (behind (act_of k) s is_up)
agrees_behind (Match fold keys peeks other) o s is_up m a = a
agrees_behind (Invoke code answers other) o s is_up m a = a
agrees_behind (Consume p n) o s is_up m a = a
agrees_behind (SpanOpen span n) o s is_up m a = opened_behind span s is_up (subst (λ x. Agrees x s is_up) (eqb-true o 0 m) a) (s == span) refl
agrees_behind (SpanClose span n) o s is_up m a = shut_behind span s is_up (subst (λ x. Agrees x s is_up) (eqb-true o (suc span) (and_left (o == suc span) (nat_lt o 99) m)) a) (s == span) refl
agrees_behind (Pause code reason n) o s is_up m a = a
agrees_behind (Fail code reason) o s is_up m a = a

open_cases : (table : List ℕ) (o t : ℕ) → is_open table o t ≡ true → (slice_index_or table t 0 ≡ o) ⊎ (slice_index_or table t 0 ≡ 99)
open_cases table o t e = elim (or_cases (slice_index_or table t 0 == o) (slice_index_or table t 0 == 99) e) [
  | inl here ↦ inl (eqb-true (slice_index_or table t 0) o here)
  | inr error ↦ inr (eqb-true (slice_index_or table t 0) 99 error)
]

-- only an error node has 99
only_fail : (k : Kind) → may_be k 99 ≡ true → act_of k ≡ act.Fails
only_fail (Match fold keys peeks other) e = absurd (false≢true e)
only_fail (Invoke code answers other) e = absurd (false≢true e)
only_fail (Consume p n) e = absurd (false≢true e)
only_fail (SpanOpen s n) e = absurd (false≢true e)
only_fail (SpanClose s n) e = absurd (false≢true (and_right (99 == suc s) false e))
only_fail (Pause code reason n) e = absurd (false≢true e)
only_fail (Fail code reason) e = refl

-- and such a node has no edge
fail_ends : (k : Kind) (next : ℕ) → act_of k ≡ act.Fails → HasEdge k next → ⊥
fail_ends (Match fold keys peeks other) next e m = cc
fail_ends (Invoke code answers other) next e m = cc
fail_ends (Consume p n) next e m = cc
fail_ends (SpanOpen s n) next e m = cc
fail_ends (SpanClose s n) next e m = cc
fail_ends (Pause code reason n) next e m = cc
fail_ends (Fail code reason) next e m = m

-- what a node that opens or closes a span asks of the table
open_node : (k : Kind) (o s : ℕ) → may_be k o ≡ true → act_of k ≡ act.Opens s → o ≡ 0
open_node (Match fold keys peeks other) o s m e = absurd cc
open_node (Invoke code answers other) o s m e = absurd cc
open_node (Consume p n) o s m e = absurd cc
open_node (SpanOpen span n) o s m e = eqb-true o 0 m
open_node (SpanClose span n) o s m e = absurd cc
open_node (Pause code reason n) o s m e = absurd cc
open_node (Fail code reason) o s m e = absurd cc

close_node : (k : Kind) (o s : ℕ) → may_be k o ≡ true → act_of k ≡ act.Closes s → (o ≡ suc s) × (o < 99)
close_node (Match fold keys peeks other) o s m e = absurd cc
close_node (Invoke code answers other) o s m e = absurd cc
close_node (Consume p n) o s m e = absurd cc
close_node (SpanOpen span n) o s m e = absurd cc
close_node (SpanClose span n) o s m e =
    (let same : span ≡ s = cc in
    (eqb-true o (suc span) (and_left (o == suc span) (nat_lt o 99) m) ∙ ap (λ n. suc n) same, ltb-true o 99 (and_right (o == suc span) (nat_lt o 99) m)))
close_node (Pause code reason n) o s m e = absurd cc
close_node (Fail code reason) o s m e = absurd cc

module _ (g : Plan) (table : List ℕ) (stand : all_stand table table g.nodes ≡ true) (entry : slice_index_or table g.entry 0 ≡ 0) where
  abbrev at_table : ℕ → ℕ
  at_table node = slice_index_or table node 0

  -- of the node at a place
  node_may : (node : ℕ) (n : Node) → slice_get g.nodes node ≡ Some n → may_be n.kind (at_table node) ≡ true
  node_may node n there = and_left (may_be n.kind (at_table node)) (list_all (is_open table (open_behind n.kind (at_table node))) (targets n.kind)) (stands_at table table g.nodes node n stand there)

  node_leads : (node : ℕ) (n : Node) → slice_get g.nodes node ≡ Some n → list_all (is_open table (open_behind n.kind (at_table node))) (targets n.kind) ≡ true
  node_leads node n there = and_right (may_be n.kind (at_table node)) (list_all (is_open table (open_behind n.kind (at_table node))) (targets n.kind)) (stands_at table table g.nodes node n stand there)

  -- each standing agrees with the table, but at error nodes
  abbrev Stands : ℕ → Bool → ℕ → Type 0
  Stands s is_up node = Agrees (at_table node) s is_up ⊎ (at_table node ≡ 99)

  stands_next : (o : Option Node) (s node next : ℕ) (is_up : Bool) → slice_get g.nodes node ≡ o → EdgeFrom o next → Stands s is_up node → Stands s (behind (act_by o) s is_up) next
  stands_next None s node next is_up there edge so_far = absurd edge
  stands_next (Some n) s node next is_up there edge (inr error) = absurd (fail_ends n.kind next (only_fail n.kind (subst (λ x. may_be n.kind x ≡ true) error (node_may node n there))) edge)
  stands_next (Some n) s node next is_up there edge (inl agrees) =
      elim (open_cases table (open_behind n.kind (at_table node)) next (edge_in (is_open table (open_behind n.kind (at_table node))) n.kind next edge (node_leads node n there))) [
        | inl same ↦ inl (subst (λ x. Agrees x s (behind (act_of n.kind) s is_up)) (sym same) (agrees_behind n.kind (at_table node) s is_up (node_may node n there) agrees))
        | inr error ↦ inr error
      ]

  all_agree : (s node : ℕ) (is_up : Bool) → MayStand (ways g) s is_up node → Stands s is_up node
  all_agree s node is_up at_entry = inl (record { opened = λ h. absurd (false≢true h); shut = λ h q. absurd (omega (arith, q, entry)) })
  all_agree s node is_up (along {is_open = before} {node = from} {next = next} way edge) = stands_next (slice_get g.nodes from) s from next before refl edge (all_agree s from before way)

  no_reopen : (o : Option Node) (node s : ℕ) → slice_get g.nodes node ≡ o → act_by o ≡ act.Opens s → Stands s true node → ⊥
  no_reopen None node s there is so = cc
  no_reopen (Some n) node s there is so =
      let none : at_table node ≡ 0 = open_node n.kind (at_table node) s (node_may node n there) is in
      elim so [
        | inl a ↦ (let up : at_table node ≡ suc s = a.opened refl in omega (arith, up, none))
        | inr error ↦ omega (arith, error, none)
      ]

  no_shut : (o : Option Node) (node s : ℕ) → slice_get g.nodes node ≡ o → act_by o ≡ act.Closes s → Stands s false node → ⊥
  no_shut None node s there is so = cc
  no_shut (Some n) node s there is so =
      let own = close_node n.kind (at_table node) s (node_may node n there) is in
      elim so [
        | inl a ↦ a.shut refl own.0
        | inr error ↦ (let low : at_table node < 99 = own.1 in omega (arith, error, low))
      ]

  -- no span is open and shut where both standings agree with the table
  one_standing : (s node : ℕ) → (at_table node ≡ 99 → ⊥) → Stands s true node → Stands s false node → ⊥
  one_standing s node fine so shut = elim so [
    | inl a ↦ elim shut [
      | inl b ↦ b.shut refl (a.opened refl)
      | inr error ↦ fine error
    ]
    | inr error ↦ fine error
  ]

  no_error : (o : Option Node) (node : ℕ) → slice_get g.nodes node ≡ o → act_by o ≢ act.Fails → at_table node ≡ 99 → ⊥
  no_error None node there fine error = (let none : at_table node ≡ 0 = past_end table table g.nodes node stand there in omega (arith, none, error))
  no_error (Some n) node there fine error = fine (only_fail n.kind (subst (λ x. may_be n.kind x ≡ true) error (node_may node n there)))

  pub spans_fit : SpansFit g
  spans_fit node = record {
    reopens = λ s h. no_reopen (slice_get g.nodes node) node s refl h.0 (all_agree s node true h.1);
    closes = λ s h. no_shut (slice_get g.nodes node) node s refl h.0 (all_agree s node false h.1);
    mixes = λ s h. one_standing s node (no_error (slice_get g.nodes node) node refl h.0) (all_agree s node true h.1) (all_agree s node false h.2);
  }
