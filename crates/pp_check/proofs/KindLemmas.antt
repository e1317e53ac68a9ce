-- The moves of a graph are those that the edges of its nodes tell.
use Rattle.std.proofs.Common.{subst, ◌≡◌, ℕ, zero, suc, ◌<◌, ◌⊎◌, List, [], ◌∷◌, Option, Some, None, Bool, true, false, cond, refl, sym, ◌∙◌, ap, arith, map, replicate, inl, inr}
use Rattle.std.specs.Prelude.{slice_get, slice_index, nat_le, ◌==◌, find}
use Rattle.std.specs.List.{Any}
use Rattle.std.proofs.lemmas.List.{get_or-replicate}
use Rattle.pp_flow.specs.Rows.{free, onward}
use Rattle.pp_bytes.specs.Fold.{folded}
use Rattle.pp_graph.specs.declared.node.Answer.{Answer}
use Rattle.pp_graph.specs.declared.node.Key.{Key}
use Rattle.pp_graph.specs.declared.node.Peek.{Peek}
use Rattle.pp_graph.specs.declared.node.Other.{Other}
use Rattle.pp_graph.specs.declared.node.Kind.{Kind}
use Rattle.pp_graph.specs.declared.node.Kind.TheVariants.{Match, Invoke, Consume, SpanOpen, SpanClose, Pause, Fail}
use Rattle.pp_graph.specs.declared.node.Node.{Node}
use Rattle.pp_graph.specs.Plan.{Plan}
use Rattle.pp_event.specs.Run.{Config, Turn, Goes, Asks, Rests, Stops, Fails}
use Rattle.pp_event.specs.Turns.{Effect, AsksHost, Answers, Sets, effect_turn, consumed, drained}
use Rattle.pp_event.specs.Codes.{target_or, answered, effect_of}
use Rattle.pp_event.specs.Loops.{LeadsTo, Leads, FreeMove, TakingMove, PauseMove, AreBytes}
use Rattle.pp_mean.specs.Nodes.{kind_turn, key_turn, peek_turn, peek_at, reach, best, node_turn, graph_turn}
use Rattle.pp_mean.specs.Loops.{AnswersWith, AnswerEdge, graph_moves}
use Rattle.pp_check.specs.steps.Ends.{EndsOf, EndsAt}
use Rattle.pp_flow.proofs.ListLemmas.{any-first, any-later}
use Rattle.pp_check.proofs.MatchLemmas.{KeysFit, PeeksFit, way_of, match-told}
use Rattle.pp_check.proofs.MadeLemmas.{key-made, behind-made, peek-made, free-made, skip-made}

-- what is used of a node
abbrev pub KindFits : Kind → Type 0
KindFits (Match fold keys peeks other) = KeysFit fold keys × PeeksFit keys peeks
KindFits (Invoke what answers other) = Unit {0}
KindFits (Consume prop n) = Unit {0}
KindFits (SpanOpen span n) = Unit {0}
KindFits (SpanClose span n) = Unit {0}
KindFits (Pause code reason n) = Unit {0}
KindFits (Fail code reason) = Unit {0}

-- an invoke
effect-told : (c : Config) (lead : ℕ → ℕ) (e : Effect) (n next : ℕ) → LeadsTo (effect_turn c lead e) n next → (n ≡ 0) × ((v : ℕ) × (lead v ≡ next))
effect-told c lead (AsksHost host) n next l = (l.0, (l.1, l.3))
effect-told c lead (Answers answer) n next l = (sym l.0, (answer, l.1))
effect-told c lead (Sets prop value) n next l = (sym l.0, (0, l.1))

found-in : (answers : List Answer) (n : ℕ) (a : Answer) → find (λ (a : Answer). a.number == n) answers ≡ Some a → Any (λ (x : Answer). x ≡ a) answers
found-in [] n a e = absurd cc
found-in (x ∷ rest) n a e = by (λ f. found-in rest n a f) (x.number == n) e
  where
    by : (find (λ (a : Answer). a.number == n) rest ≡ Some a → Any (λ (x : Answer). x ≡ a) rest) → (t : Bool) → cond t (Some x) (find (λ (a : Answer). a.number == n) rest) ≡ Some a → Any (λ (x : Answer). x ≡ a) (x ∷ rest)
    by go true e = any-first (λ (x : Answer). x ≡ a) x rest (let same : x ≡ a = cc in same)
    by go false e = any-later (λ (x : Answer). x ≡ a) x rest (go e)

answer-told : (answers : List Answer) (other v next : ℕ) → answered answers other v ≡ next → (other ≡ next) ⊎ Any (λ (a : Answer). a.target ≡ next) answers
answer-told answers other v next e = by (find (λ (a : Answer). a.number == v) answers) refl e
  where
    by : (o : Option Answer) → find (λ (a : Answer). a.number == v) answers ≡ o → target_or other o ≡ next → (other ≡ next) ⊎ Any (λ (a : Answer). a.target ≡ next) answers
    by None f e = inl e
    by (Some a) f e = (let q = found-in answers v a f in inr (q.0, q.1, q.2, q.3, ap (λ (x : Answer). x.target) q.4 ∙ e))

consume-told : (t : Bool) (d e : Config) (v n next : ℕ) → LeadsTo (cond t (Goes d v []) (Rests e)) n next → d.node ≡ next
consume-told true d e v n next l = l.1
consume-told false d e v n next l = absurd l

-- where a node leads, an edge of it does
kind-told : (k : Kind) → KindFits k → (c : Config) (b : ℕ) (str : List ℕ) → AreBytes (b ∷ str) → (n next : ℕ) → LeadsTo (kind_turn k c (b ∷ str)) n next → EndsOf k (way_of n) b next
kind-told (Match fold keys peeks other) fit c b str are n next l = match-told fold keys fit.0 peeks other b str are c n next l
kind-told (Invoke what answers other) fit c b str are zero next l =
    let q = effect-told c (answered answers other) (effect_of c.values c.carried what) zero next l in
    answer-told answers other q.1.0 next q.1.1
kind-told (Invoke what answers other) fit c b str are (suc n) next l =
    let q = effect-told c (answered answers other) (effect_of c.values c.carried what) (suc n) next l in
    absurd (omega (arith, q.0))
kind-told (Consume prop m) fit c b str are zero next l = consume-told _ _ _ _ zero next l
kind-told (Consume prop m) fit c b str are (suc n) next l = consume-told _ _ _ _ (suc n) next l
kind-told (SpanOpen span m) fit c b str are zero next l = l.1
kind-told (SpanOpen span m) fit c b str are (suc n) next l = absurd (omega (arith, l.0))
kind-told (SpanClose span m) fit c b str are zero next l = l.1
kind-told (SpanClose span m) fit c b str are (suc n) next l = absurd (omega (arith, l.0))
kind-told (Pause code reason m) fit c b str are zero next l = l.1
kind-told (Pause code reason m) fit c b str are (suc n) next l = absurd (omega (arith, l.0))
kind-told (Fail code reason) fit c b str are n next l = absurd l

-- a turn stops, and goes on at this node
abbrev StopsAt : Turn → ℕ → Type 0
StopsAt (Goes d k items) next = ⊥
StopsAt (Asks code value go) next = ⊥
StopsAt (Rests d) next = ⊥
StopsAt (Stops code d) next = d.node ≡ next
StopsAt (Fails code) next = ⊥

effect-stays : (c : Config) (lead : ℕ → ℕ) (e : Effect) (next : ℕ) → StopsAt (effect_turn c lead e) next → ⊥
effect-stays c lead (AsksHost host) next s = s
effect-stays c lead (Answers answer) next s = s
effect-stays c lead (Sets prop value) next s = s

consume-stays : (t : Bool) (d e : Config) (v next : ℕ) → StopsAt (cond t (Goes d v []) (Rests e)) next → ⊥
consume-stays true d e v next s = s
consume-stays false d e v next s = s

peek-stays : (c : Config) (other : Other) (m : ℕ) (p : Option Peek) (next : ℕ) → StopsAt (peek_turn c other m p) next → ⊥
peek-stays c other zero (Some p) next s = s
peek-stays c other zero None next s = s
peek-stays c other (suc m) p next s = s

key-stays : (c : Config) (keys : List Key) (peeks : List Peek) (other : Other) (w : List ℕ) (o : Option Key) (next : ℕ) → StopsAt (key_turn c keys peeks other w o) next → ⊥
key-stays c keys peeks other w (Some k) next s = s
key-stays c keys peeks other w None next s = peek-stays c other (reach keys w) (peek_at peeks w) next s

match-stays : (t : Bool) (d : Config) (c : Config) (keys : List Key) (peeks : List Peek) (other : Other) (w : List ℕ) (next : ℕ) → StopsAt (cond t (Rests d) (key_turn c keys peeks other w (best keys w))) next → ⊥
match-stays true d c keys peeks other w next s = s
match-stays false d c keys peeks other w next s = key-stays c keys peeks other w (best keys w) next s

-- only a pause stops
stop-told : (k : Kind) (c : Config) (b : ℕ) (rest : List ℕ) (next : ℕ) → StopsAt (kind_turn k c rest) next → EndsOf k onward b next
stop-told (Match fold keys peeks other) c b rest next s = absurd (match-stays _ _ c keys peeks other (map (folded fold) rest) next s)
stop-told (Invoke what answers other) c b rest next s = absurd (effect-stays c (answered answers other) (effect_of c.values c.carried what) next s)
stop-told (Consume prop m) c b rest next s = absurd (consume-stays _ _ _ _ next s)
stop-told (SpanOpen span m) c b rest next s = absurd s
stop-told (SpanClose span m) c b rest next s = absurd s
stop-told (Pause code reason m) c b rest next s = s
stop-told (Fail code reason) c b rest next s = absurd s

-- at a node, with these values
abbrev at_node : ℕ → List ℕ → Config
at_node node values = record { node = node; at = 0; carried = 0; values = values; spans = [] }

no-bytes : AreBytes []
no-bytes i = omega arith

free-kind : (k : Kind) → KindFits k → (node b next : ℕ) → EndsOf k free b next → LeadsTo (kind_turn k (at_node node []) (b ∷ [])) 0 next ⊎ AnswersWith k next
free-kind (Match fold keys peeks other) fit node b next (inl e) = absurd e
free-kind (Match fold keys peeks other) fit node b next (inr (inl e)) = inl (peek-made fold keys fit.0 (at_node node []) peeks other fit.1 b next e)
free-kind (Match fold keys peeks other) fit node b next (inr (inr e)) = inl (free-made fold keys fit.0 (at_node node []) peeks other b next e)
free-kind (Invoke what answers other) fit node b next e = inr e
free-kind (Consume prop m) fit node b next e = inl (refl, e)
free-kind (SpanOpen span m) fit node b next e = inl (refl, e)
free-kind (SpanClose span m) fit node b next e = inl (refl, e)
free-kind (Pause code reason m) fit node b next e = inl (refl, e)
free-kind (Fail code reason) fit node b next e = absurd e

-- on some string of bytes and for some values, bytes are taken
abbrev Takes : Kind → ℕ → ℕ → ℕ → Type 0
Takes k node b next = (values str : List ℕ) × AreBytes str × (n : ℕ) × LeadsTo (kind_turn k (at_node node values) (b ∷ str)) (suc n) next

-- or the node pauses
abbrev Waits : Kind → ℕ → ℕ → Type 0
Waits k node next = (code : ℕ) × (d : Config) × (kind_turn k (at_node node []) [] ≡ Stops code d) × (d.node ≡ next)

consume-one : (node b prop next v : ℕ) (values : List ℕ) → v ≡ 1 → LeadsTo (cond (nat_le v 1) (Goes (consumed (at_node node values) prop next v) v []) (Rests (drained (at_node node values) prop v 1))) 1 next
consume-one node b prop next v values e = subst (λ (u : ℕ). LeadsTo (cond (nat_le u 1) (Goes (consumed (at_node node values) prop next u) u []) (Rests (drained (at_node node values) prop u 1))) 1 next) (sym e) (refl, refl)

onward-kind : (k : Kind) → KindFits k → (node b next : ℕ) → EndsOf k onward b next → Takes k node b next ⊎ Waits k node next
onward-kind (Match fold keys peeks other) fit node b next (inl e) = (let q = key-made fold keys fit.0 (at_node node []) peeks other b next e in inl ([], q.0, q.1, q.2, q.3))
onward-kind (Match fold keys peeks other) fit node b next (inr (inl e)) = absurd e
onward-kind (Match fold keys peeks other) fit node b next (inr (inr (e, inl s))) = inl ([], [], no-bytes, 0, skip-made fold keys fit.0 (at_node node []) peeks other b next e s.0 s.1)
onward-kind (Match fold keys peeks other) fit node b next (inr (inr (e, inr s))) = (let q = behind-made fold keys fit.0 (at_node node []) peeks other b next s e in inl ([], q.0, q.1, q.2, q.3))
onward-kind (Invoke what answers other) fit node b next e = absurd e
onward-kind (Consume prop m) fit node b next e =
    inl (
      replicate (suc prop) 1,
      [],
      no-bytes,
      0,
      subst (λ (x : ℕ). LeadsTo (kind_turn (Consume prop m) (at_node node (replicate (suc prop) 1)) (b ∷ [])) 1 x) e
          (consume-one node b prop m (slice_index (replicate (suc prop) 1) prop) (replicate (suc prop) 1) (get_or-replicate (suc prop) prop 1 0 (omega arith))),
    )
onward-kind (SpanOpen span m) fit node b next e = absurd e
onward-kind (SpanClose span m) fit node b next e = absurd e
onward-kind (Pause code reason m) fit node b next e = inr (code, record { node = m; at = 0; carried = 0; values = []; spans = [] }, refl, e)
onward-kind (Fail code reason) fit node b next e = absurd e

-- of the node at a place
module _ (g : Plan) (fits : (i : ℕ) (n : Node) → slice_get g.nodes i ≡ Some n → KindFits n.kind) where
  node-told : (o : Option Node) → ((n : Node) → o ≡ Some n → KindFits n.kind) → (c : Config) (b : ℕ) (str : List ℕ) → AreBytes (b ∷ str) → (n next : ℕ) →
      LeadsTo (node_turn o c (b ∷ str)) n next → EndsAt o (way_of n) b next
  node-told None fit c b str are n next l = absurd l
  node-told (Some n) fit c b str are m next l = kind-told n.kind (fit n refl) c b str are m next l

  bytes-first : (b : ℕ) (str : List ℕ) → b < 256 → AreBytes str → AreBytes (b ∷ str)
  bytes-first b str h are zero = h
  bytes-first b str h are (suc i) = are i

  leads-told : (b node n next : ℕ) → b < 256 → Leads (graph_turn g) node b n next → EndsAt (slice_get g.nodes node) (way_of n) b next
  leads-told b node n next h (c, str, are, there, l) =
      node-told (slice_get g.nodes node) (λ m e. fits node m e) c b str (bytes-first b str h are) n next
      (subst (λ (x : ℕ). LeadsTo (node_turn (slice_get g.nodes x) c (b ∷ str)) n next) there l)

  edge-told : (k : Kind) (b next : ℕ) → AnswersWith k next → EndsOf k free b next
  edge-told (Match fold keys peeks other) b next e = absurd e
  edge-told (Invoke what answers other) b next e = e
  edge-told (Consume prop n) b next e = absurd e
  edge-told (SpanOpen span n) b next e = absurd e
  edge-told (SpanClose span n) b next e = absurd e
  edge-told (Pause code reason n) b next e = absurd e
  edge-told (Fail code reason) b next e = absurd e

  answer-edge-told : (o : Option Node) (b next : ℕ) → AnswerEdge o next → EndsAt o free b next
  answer-edge-told None b next e = absurd e
  answer-edge-told (Some n) b next e = edge-told n.kind b next e

  pub free-told : (b node next : ℕ) → b < 256 → FreeMove (graph_moves g) b node next → EndsAt (slice_get g.nodes node) free b next
  free-told b node next h (inl l) = leads-told b node 0 next h l
  free-told b node next h (inr e) = answer-edge-told (slice_get g.nodes node) b next e

  stops-told : (o : Option Node) (c : Config) (b : ℕ) (rest : List ℕ) (next : ℕ) → StopsAt (node_turn o c rest) next → EndsAt o onward b next
  stops-told None c b rest next s = absurd s
  stops-told (Some n) c b rest next s = stop-told n.kind c b rest next s

  pub onward-told : (b node next : ℕ) → b < 256 → TakingMove (graph_moves g) b node next ⊎ PauseMove (graph_moves g) node next → EndsAt (slice_get g.nodes node) onward b next
  onward-told b node next h (inl (k, l)) = leads-told b node (suc k) next h l
  onward-told b node next h (inr (c, d, rest, code, there, stops, leads)) =
      stops-told (slice_get g.nodes node) c b rest next
      (subst (λ (x : ℕ). StopsAt (node_turn (slice_get g.nodes x) c rest) next) there (subst (λ (t : Turn). StopsAt t next) (sym stops) leads))

  free-at : (o : Option Node) → ((n : Node) → o ≡ Some n → KindFits n.kind) → (node b next : ℕ) → EndsAt o free b next →
      LeadsTo (node_turn o (at_node node []) (b ∷ [])) 0 next ⊎ AnswerEdge o next
  free-at None fit node b next e = absurd e
  free-at (Some n) fit node b next e = free-kind n.kind (fit n refl) node b next e

  pub free-made-by : (b node next : ℕ) → EndsAt (slice_get g.nodes node) free b next → FreeMove (graph_moves g) b node next
  free-made-by b node next e = elim (free-at (slice_get g.nodes node) (λ m f. fits node m f) node b next e) [
    | inl l ↦ inl (at_node node [], [], no-bytes, refl, l)
    | inr a ↦ inr a
  ]

  abbrev OnwardAt : Option Node → ℕ → ℕ → ℕ → Type 0
  OnwardAt o node b next =
      ((values str : List ℕ) × AreBytes str × (n : ℕ) × LeadsTo (node_turn o (at_node node values) (b ∷ str)) (suc n) next)
      ⊎ ((code : ℕ) × (d : Config) × (node_turn o (at_node node []) [] ≡ Stops code d) × (d.node ≡ next))

  onward-at : (o : Option Node) → ((n : Node) → o ≡ Some n → KindFits n.kind) → (node b next : ℕ) → EndsAt o onward b next → OnwardAt o node b next
  onward-at None fit node b next e = absurd e
  onward-at (Some n) fit node b next e = onward-kind n.kind (fit n refl) node b next e

  pub onward-made-by : (b node next : ℕ) → EndsAt (slice_get g.nodes node) onward b next → TakingMove (graph_moves g) b node next ⊎ PauseMove (graph_moves g) node next
  onward-made-by b node next e = elim (onward-at (slice_get g.nodes node) (λ m f. fits node m f) node b next e) [
    | inl l ↦ inl (l.3, (at_node node l.0, l.1, l.2, refl, l.4))
    | inr s ↦ inr (at_node node [], s.1, [], s.0, refl, s.2, s.3)
  ]
