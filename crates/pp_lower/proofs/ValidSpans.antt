-- The spans of a lowered program fit where those of the graph do.
use Rattle.std.proofs.Common.{subst, ◌≡◌, ℕ, zero, suc, ◌+◌, List, [], ◌∷◌, ◌++◌, Option, Some, None, Bool, true, false, refl, sym, ◌∙◌, ap, inl, inr}
use Rattle.std.specs.Prelude.{◌⊎◌, slice_get}
use Rattle.std.specs.List.{Any}
use Rattle.std.proofs.lemmas.Bool.{false≢true}
use Rattle.pp_bytes.specs.declared.fold.Fold.{Fold}
use Rattle.pp_graph.specs.declared.node.Key.{Key}
use Rattle.pp_graph.specs.declared.node.Peek.{Peek}
use Rattle.pp_graph.specs.declared.node.Answer.{Answer}
use Rattle.pp_graph.specs.declared.node.Other.{Other}
use Rattle.pp_graph.specs.declared.node.Kind.{Kind}
use Rattle.pp_graph.specs.declared.node.Kind.TheVariants as kind
use Rattle.pp_graph.specs.declared.node.Node.{Node}
use Rattle.pp_graph.specs.Plan.{Plan, Leads, FitsIn, IsWellFormed}
use Rattle.pp_flow.specs.declared.moves.Act.{Act}
use Rattle.pp_flow.specs.declared.moves.Act.TheVariants as act
use Rattle.pp_flow.specs.Standing as standing
use Rattle.pp_flow.proofs.ListLemmas.{any-listed}
use Rattle.pp_check.specs.Spans as node_spans
use Rattle.pp_check.specs.Edges.{HasEdge as NodeHasEdge, EdgeFrom as NodeEdgeFrom}
use Rattle.pp_program.specs.declared.program.Edge.{Edge}
use Rattle.pp_program.specs.declared.program.Instr.{Instr}
use Rattle.pp_program.specs.declared.program.Instr.TheVariants as instr
use Rattle.pp_program.specs.declared.program.State.{State}
use Rattle.pp_program.specs.Edges.{HasEdge as StateHasEdge, EdgeFrom as StateEdgeFrom, IsEdge}
use Rattle.pp_program.specs.Spans as state_spans
use Rattle.pp_program.specs.Merge.{merged}
use Rattle.pp_program.proofs.MergeLaws.{bare, HasEdge, merged-has}
use Rattle.pp_lower.specs.Tree.{each_below, place_of}
use Rattle.pp_lower.specs.Lowered.{inner_of, key_of, edge_by, edge_at, peek_of, rest_by, root_of, answers_of, states_by, lowered}
use Rattle.pp_lower.proofs.TreeLaws.{KeyIs, key_is, PlaceIs, place_is}
use Rattle.pp_lower.proofs.WalkLaws.{PeekIs, peek_is}
use Rattle.pp_lower.proofs.FromStates.{InstrIs, instr_is, FromNode, from_node, first_of, first_stands, inner_stands}
use Rattle.pp_lower.proofs.ValidTargets.{each_has, has_any, answers_ahead}

edge_there : (l : List Edge) (i : ℕ) (x : Edge) → slice_get l i ≡ Some x → HasEdge l x
edge_there [] i x e = absurd cc
edge_there (y ∷ l) zero x e = inl cc
edge_there (y ∷ l) (suc i) x e = inr (edge_there l i x e)

-- where an edge of a state of a node leads: to the first state of where an edge of the node leads, or to another state of it,
-- which is a match node then
abbrev Ahead : Plan → ℕ → Kind → ℕ → Type 0
Ahead g i k next =
    ((m : ℕ) × NodeHasEdge k m × (root_of g.nodes m ≡ next))
    ⊎ ((s : State) × (slice_get (states_by g.nodes) next ≡ Some s) × (s.origin ≡ i) × (node_spans.act_of k ≡ act.Goes))

module _ (g : Plan) where
  abbrev roots : ℕ → ℕ
  roots = root_of g.nodes

  edge_ahead : (i : ℕ) (n : Node) (fold : Fold) (keys : List Key) (peeks : List Peek) (other : Other) → slice_get g.nodes i ≡ Some n → n.kind ≡ kind.Match fold keys peeks other →
      (text : List ℕ) (b next : ℕ) (o : Option ℕ) → PlaceIs text (inner_of keys) o → (k : Option Key) → KeyIs keys text k → (q : Option Peek) → PeekIs peeks b q → (y : Edge) →
      edge_by roots (roots i) b o k q ≡ Some y → y.target ≡ next → Ahead g i (kind.Match fold keys peeks other) next
  edge_ahead i n fold keys peeks other e is text b next (Some j) place k key q peek y h to =
      let x : Edge = record { lo = b; hi = b; take = true; number = None; target = roots i + suc j } in
      let same : x ≡ y = cc in
      let at : roots i + suc j ≡ next = ap (λ (z : Edge). z.target) same ∙ to in
      inr (_, (ap (slice_get (states_by g.nodes)) (sym at) ∙ inner_stands g.nodes i j n fold keys peeks other text e is place), refl, refl)
  edge_ahead i n fold keys peeks other e is text b next None place (Some k) key q peek y h to =
      let x : Edge = record { lo = b; hi = b; take = true; number = k.number; target = roots k.target } in
      let same : x ≡ y = cc in
      inl (k.target, inl (has_any (λ (l : Key). l.target ≡ k.target) keys k key.0 refl), ap (λ (z : Edge). z.target) same ∙ to)
  edge_ahead i n fold keys peeks other e is text b next None place None key (Some q) peek y h to =
      let x : Edge = record { lo = b; hi = b; take = false; number = None; target = roots q.target } in
      let same : x ≡ y = cc in
      inl (q.target, inr (inl (has_any (λ (l : Peek). l.target ≡ q.target) peeks q peek.0 refl)), ap (λ (z : Edge). z.target) same ∙ to)
  edge_ahead i n fold keys peeks other e is text b next None place None key None peek y h to = absurd cc

  rest_ahead : (i : ℕ) (fold : Fold) (keys : List Key) (peeks : List Peek) (other : Other) (prefix : List ℕ) (next : ℕ) (o : Option Key) → KeyIs keys prefix o → (rest_by roots other o).target ≡ next →
      Ahead g i (kind.Match fold keys peeks other) next
  rest_ahead i fold keys peeks other prefix next None key to = inl (other.target, inr (inr refl), to)
  rest_ahead i fold keys peeks other prefix next (Some k) key to = inl (k.target, inl (has_any (λ (l : Key). l.target ≡ k.target) keys k key.0 refl), to)

  match_ahead : (i : ℕ) (n : Node) (fold : Fold) (keys : List Key) (peeks : List Peek) (other : Other) → slice_get g.nodes i ≡ Some n → n.kind ≡ kind.Match fold keys peeks other → (prefix : List ℕ) (state next : ℕ) →
      StateHasEdge state (instr.Branch fold [] (merged (each_below (edge_at roots (roots i) keys peeks prefix) 256)) (rest_by roots other (key_of keys prefix))) next → Ahead g i (kind.Match fold keys peeks other) next
  match_ahead i n fold keys peeks other e is prefix state next (inl (same, b, low, stays)) = absurd (false≢true stays)
  match_ahead i n fold keys peeks other e is prefix state next (inr (inr to)) = rest_ahead i fold keys peeks other prefix next (key_of keys prefix) (key_is keys prefix) to
  match_ahead i n fold keys peeks other e is prefix state next (inr (inl some)) =
      let all : List Edge = each_below (edge_at roots (roots i) keys peeks prefix) 256 in
      let listed : slice_get (merged all) some.0 ≡ Some some.1 = any-listed (λ (x : Edge). x.target ≡ next) (merged all) some in
      let from : (z : Edge) × HasEdge all z × (bare some.1 ≡ bare z) = merged-has all some.1 (edge_there (merged all) some.0 some.1 listed) in
      let at : (b : ℕ) × (edge_at roots (roots i) keys peeks prefix b ≡ Some from.0) = each_has (edge_at roots (roots i) keys peeks prefix) 256 from.0 from.1 in
      edge_ahead i n fold keys peeks other e is (prefix ++ at.0 ∷ []) at.0 next (place_of (prefix ++ at.0 ∷ []) (inner_of keys)) (place_is (prefix ++ at.0 ∷ []) (inner_of keys))
      (key_of keys (prefix ++ at.0 ∷ [])) (key_is keys (prefix ++ at.0 ∷ [])) (peek_of peeks prefix at.0) (peek_is peeks prefix at.0) from.0 at.1
      (sym (ap (λ (x : Edge). x.target) from.2) ∙ some.4)

  invoke_ahead : (i : ℕ) (k : Kind) (next other : ℕ) (answers : List Answer) → ((m : ℕ) → (other ≡ m) ⊎ Any (λ (a : Answer). a.target ≡ m) answers → NodeHasEdge k m) →
      (roots other ≡ next) ⊎ Any (λ (a : Answer). a.target ≡ next) (answers_of roots answers) → Ahead g i k next
  invoke_ahead i k next other answers has (inl to) = inl (other, has other (inl refl), to)
  invoke_ahead i k next other answers has (inr some) = (let r : (m : ℕ) × Any (λ (a : Answer). a.target ≡ m) answers × (roots m ≡ next) = answers_ahead roots next answers some in inl (r.0, has r.0 (inr r.1), r.2))

  ahead : (i : ℕ) (n : Node) (k : Kind) → slice_get g.nodes i ≡ Some n → n.kind ≡ k → (j : ℕ) (x : Instr) → InstrIs roots (roots i) k j x → (state next : ℕ) → StateHasEdge state x next → Ahead g i k next
  ahead i n (kind.Match fold keys peeks other) e is j x (prefix, at, same) state next edge =
      match_ahead i n fold keys peeks other e is prefix state next (subst (λ (y : Instr). StateHasEdge state y next) (sym same) edge)
  ahead i n (kind.Invoke what answers other) e is j x (at, same) state next edge =
      invoke_ahead i (kind.Invoke what answers other) next other answers (λ m h. h) (subst (λ (y : Instr). StateHasEdge state y next) (sym same) edge)
  ahead i n (kind.Consume prop to) e is j x (at, same) state next edge = inl (to, refl, subst (λ (y : Instr). StateHasEdge state y next) (sym same) edge)
  ahead i n (kind.SpanOpen span to) e is j x (at, same) state next edge = inl (to, refl, subst (λ (y : Instr). StateHasEdge state y next) (sym same) edge)
  ahead i n (kind.SpanClose span to) e is j x (at, same) state next edge = inl (to, refl, subst (λ (y : Instr). StateHasEdge state y next) (sym same) edge)
  ahead i n (kind.Pause number reason to) e is j x (at, same) state next edge = inl (to, refl, subst (λ (y : Instr). StateHasEdge state y next) (sym same) edge)
  ahead i n (kind.Fail number reason) e is j x (at, same) state next edge = absurd (subst (λ (y : Instr). StateHasEdge state y next) (sym same) edge)

  -- a state does to spans what its node does
  same_act : (root : ℕ) (k : Kind) (j : ℕ) (x : Instr) → InstrIs roots root k j x → state_spans.act_of x ≡ node_spans.act_of k
  same_act root (kind.Match fold keys peeks other) j x (prefix, at, same) = ap state_spans.act_of (sym same)
  same_act root (kind.Invoke what answers other) j x (at, same) = ap state_spans.act_of (sym same)
  same_act root (kind.Consume prop to) j x (at, same) = ap state_spans.act_of (sym same)
  same_act root (kind.SpanOpen s to) j x (at, same) = ap state_spans.act_of (sym same)
  same_act root (kind.SpanClose s to) j x (at, same) = ap state_spans.act_of (sym same)
  same_act root (kind.Pause number reason to) j x (at, same) = ap state_spans.act_of (sym same)
  same_act root (kind.Fail number reason) j x (at, same) = ap state_spans.act_of (sym same)

  -- the node of a state
  record Of (s : State) : Type 0 where
    node : Node
    step : ℕ
    there : slice_get g.nodes s.origin ≡ Some node
    does : InstrIs roots (roots s.origin) node.kind step s.instr

  of_state : (t : ℕ) (s : State) → slice_get (states_by g.nodes) t ≡ Some s → Of s
  of_state t s e =
      let from : FromNode g.nodes t s = from_node g.nodes t s e in
      let made : (s.origin ≡ from.place) × InstrIs roots (roots from.place) from.node.kind from.step s.instr = instr_is roots from.place (roots from.place) from.node.kind from.step s from.listed in
      record {
        node = from.node;
        step = from.step;
        there = ap (slice_get g.nodes) made.0 ∙ from.there;
        does = subst (λ (i : ℕ). InstrIs roots (roots i) from.node.kind from.step s.instr) (sym made.0) made.1;
      }

  leads_there : (k : Kind) → FitsIn g k → (m : ℕ) → NodeHasEdge k m → (n : Node) × (slice_get g.nodes m ≡ Some n)
  leads_there (kind.Match fold keys peeks other) fits m (inl some) = key_there (fits.0.each_key some.0 some.1 (any-listed (λ (x : Key). x.target ≡ m) keys some)).leads
    where
      by : (number : Option ℕ) (target : ℕ) → target ≡ m → Leads g number target → (n : Node) × (slice_get g.nodes m ≡ Some n)
      by None target e l = (l.0, ap (slice_get g.nodes) (sym e) ∙ l.1)
      by (Some number) target e l = (l.0, ap (slice_get g.nodes) (sym e) ∙ l.1)

      key_there : Leads g some.1.number some.1.target → (n : Node) × (slice_get g.nodes m ≡ Some n)
      key_there l = by some.1.number some.1.target some.4 l
  leads_there (kind.Match fold keys peeks other) fits m (inr (inl some)) =
      let l : Leads g None some.1.target = (fits.0.each_peek some.0 some.1 (any-listed (λ (x : Peek). x.target ≡ m) peeks some)).leads in
      (l.0, ap (slice_get g.nodes) (sym some.4) ∙ l.1)
  leads_there (kind.Match fold keys peeks other) fits m (inr (inr e)) = (fits.1.0, ap (slice_get g.nodes) (sym e) ∙ fits.1.1)
  leads_there (kind.Invoke what answers other) fits m (inl e) = (fits.2.0, ap (slice_get g.nodes) (sym e) ∙ fits.2.1)
  leads_there (kind.Invoke what answers other) fits m (inr some) =
      let l : Leads g None some.1.target = fits.1.leads some.0 some.1 (any-listed (λ (x : Answer). x.target ≡ m) answers some) in
      (l.0, ap (slice_get g.nodes) (sym some.4) ∙ l.1)
  leads_there (kind.Consume prop next) fits m e = (fits.1.0, ap (slice_get g.nodes) (sym e) ∙ fits.1.1)
  leads_there (kind.SpanOpen span next) fits m e = (fits.1.0, ap (slice_get g.nodes) (sym e) ∙ fits.1.1)
  leads_there (kind.SpanClose span next) fits m e = (fits.1.0, ap (slice_get g.nodes) (sym e) ∙ fits.1.1)
  leads_there (kind.Pause number reason next) fits m e = (fits.1.0, ap (slice_get g.nodes) (sym e) ∙ fits.1.1)
  leads_there (kind.Fail number reason) fits m e = absurd e

  -- a state is there, and a span may stand so at its node
  abbrev Stands : ℕ → Bool → ℕ → Type 0
  Stands span is_open t = (s : State) × (slice_get (states_by g.nodes) t ≡ Some s) × node_spans.MayStand g span is_open s.origin

  act_there : (t : ℕ) (s : State) → slice_get (states_by g.nodes) t ≡ Some s → Of s → (state_spans.ways (lowered g)).act t ≡ (node_spans.ways g).act s.origin
  act_there t s there of = ap state_spans.act_by there ∙ same_act (roots s.origin) of.node.kind of.step s.instr of.does ∙ sym (ap node_spans.act_by of.there)

  onward : IsWellFormed g → (span : ℕ) (is_open : Bool) (t next : ℕ) → Stands span is_open t → IsEdge (lowered g) t next → Stands span (standing.behind ((state_spans.ways (lowered g)).act t) span is_open) next
  onward form span is_open t next (s, there, way) edge =
      let of : Of s = of_state t s there in
      let own : StateHasEdge t s.instr next = subst (λ (o : Option State). StateEdgeFrom t o next) there edge in
      subst (λ (a : Act). Stands span (standing.behind a span is_open) next) (sym (act_there t s there of)) (go of (ahead s.origin of.node of.node.kind of.there refl of.step s.instr of.does t next own))
    where
      go : (of : Of s) → Ahead g s.origin of.node.kind next → Stands span (standing.behind ((node_spans.ways g).act s.origin) span is_open) next
      go of (inl (m, has, to)) =
          let target : (n : Node) × (slice_get g.nodes m ≡ Some n) = leads_there of.node.kind (form.kinds s.origin of.node of.there) m has in (
            record { origin = m; instr = first_of roots (roots m) target.0.kind },
            ap (slice_get (states_by g.nodes)) (sym to) ∙ first_stands g.nodes m target.0 target.1,
            standing.along way (subst (λ (o : Option Node). NodeEdgeFrom o m) (sym of.there) has),
          )
      go of (inr (to, at, same, goes)) = (
        to,
        at,
        subst (λ (a : Act). node_spans.MayStand g span (standing.behind a span is_open) to.origin) (sym (ap node_spans.act_by of.there ∙ goes))
            (subst (node_spans.MayStand g span is_open) (sym same) way),
      )

  stands_at : IsWellFormed g → (span : ℕ) (is_open : Bool) (t : ℕ) → state_spans.MayStand (lowered g) span is_open t → Stands span is_open t
  stands_at form span is_open t standing.at_entry =
      (record { origin = g.entry; instr = first_of roots (roots g.entry) form.entry.0.kind }, first_stands g.nodes g.entry form.entry.0 form.entry.1, standing.at_entry)
  stands_at form span is_open t (standing.along {is_open = was} {node = state} way edge) = onward form span was state t (stands_at form span was state way) edge

  -- the node of a state has the fault that the state has
  no_reopen : IsWellFormed g → node_spans.SpansFit g → (t span : ℕ) → state_spans.Reopens (lowered g) t span → ⊥
  no_reopen form fit t span (reopens, stood) =
      let at : Stands span true t = stands_at form span true t stood in
      (fit at.0.origin).reopens span (sym (act_there t at.0 at.1 (of_state t at.0 at.1)) ∙ reopens, at.2)

  no_shut : IsWellFormed g → node_spans.SpansFit g → (t span : ℕ) → state_spans.ClosesShut (lowered g) t span → ⊥
  no_shut form fit t span (shuts, stood) =
      let at : Stands span false t = stands_at form span false t stood in
      (fit at.0.origin).closes span (sym (act_there t at.0 at.1 (of_state t at.0 at.1)) ∙ shuts, at.2)

  no_mix : IsWellFormed g → node_spans.SpansFit g → (t span : ℕ) → state_spans.Mixes (lowered g) t span → ⊥
  no_mix form fit t span (works, stood, shut) =
      let at : Stands span true t = stands_at form span true t stood in
      let also : Stands span false t = stands_at form span false t shut in
      let both : Some also.0 ≡ Some at.0 = sym also.1 ∙ at.1 in
      let same : also.0 ≡ at.0 = cc in
      (fit at.0.origin).mixes span (
        (λ fails. works (act_there t at.0 at.1 (of_state t at.0 at.1) ∙ fails)),
        at.2,
        subst (λ (s : State). node_spans.MayStand g span false s.origin) same also.2,
      )

-- no state has a fault of spans
pub spans_right : (g : Plan) → IsWellFormed g → node_spans.SpansFit g → (t : ℕ) → state_spans.HasFault (lowered g) t → ⊥
spans_right g form fit t (inl (span, h)) = no_reopen g form fit t span h
spans_right g form fit t (inr (inl (span, h))) = no_shut g form fit t span h
spans_right g form fit t (inr (inr (span, h))) = no_mix g form fit t span h
