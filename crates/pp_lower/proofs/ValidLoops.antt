-- A lowered program has no loop where its graph has none: free moves lead to first states alone, as the moves of their nodes do.
use Rattle.std.proofs.Common.{subst, ◌≡◌, ℕ, suc, ◌+◌, ◌<◌, List, [], ◌∷◌, ◌++◌, Option, Some, None, Bool, true, false, cond, refl, sym, ◌∙◌, ap, arith, length, map, leb, inl, inr, zero-add}
use Rattle.std.specs.Prelude.{◌⊎◌, slice_get, slice_index}
use Rattle.std.specs.List.{Any}
use Rattle.pp_bytes.specs.declared.fold.Fold.{Fold}
use Rattle.pp_bytes.specs.Fold.{folded}
use Rattle.pp_bytes.specs.Ranges.{in_ranges}
use Rattle.pp_graph.specs.declared.node.Key.{Key}
use Rattle.pp_graph.specs.declared.node.Peek.{Peek}
use Rattle.pp_graph.specs.declared.node.Answer.{Answer}
use Rattle.pp_graph.specs.declared.node.Other.{Other}
use Rattle.pp_graph.specs.declared.node.Kind.{Kind}
use Rattle.pp_graph.specs.declared.node.Kind.TheVariants as kind
use Rattle.pp_graph.specs.declared.node.Node.{Node}
use Rattle.pp_graph.specs.Plan.{Plan}
use Rattle.pp_program.specs.declared.program.Edge.{Edge}
use Rattle.pp_program.specs.declared.program.Rest.{Rest}
use Rattle.pp_program.specs.declared.program.Instr.{Instr}
use Rattle.pp_program.specs.declared.program.State.{State}
use Rattle.pp_event.specs.Run.{Config, Turn, Goes, Asks, Rests, Stops, Fails}
use Rattle.pp_event.specs.Turns.{to, Effect, AsksHost, Answers, Sets, effect_turn, consumed, drained, consume_turn}
use Rattle.pp_event.specs.Codes.{answered, effect_of}
use Rattle.pp_event.specs.Loops.{LeadsTo, Leads, Moves, FreeMove, TakingMove, PauseMove, Reaches, at_entry, by_free, by_taking, by_pause, FreeWay, stay, onward}
use Rattle.pp_event.proofs.FlowLemmas.{reached-byte}
use Rattle.pp_mean.specs.Nodes.{kind_turn, node_turn, graph_turn}
use Rattle.pp_mean.specs.Loops.{AnswersWith as NodeAnswers, AnswerEdge as NodeAnswerEdge, graph_moves, IsLoopFree}
use Rattle.pp_program.specs.States.{is_empty_branch, rest_turn, edge_turn, edge_on, branch_turn, instr_turn, state_turn, program_turn}
use Rattle.pp_program.specs.Moves.{AnswersWith as StateAnswers, AnswerEdge as StateAnswerEdge, program_moves, IsOnCycle}
use Rattle.pp_program.specs.Merge.{merged}
use Rattle.pp_lower.specs.Tree.{each_below}
use Rattle.pp_lower.specs.Lowered.{inner_of, answers_of, branch_of, edge_at, key_of, rest_by, root_of, states_by, lowered}
use Rattle.pp_lower.proofs.Bond.{GoodKeys, GoodPeeks, GoodKind, CanBeLowered}
use Rattle.pp_lower.proofs.Keys.{IsInner}
use Rattle.pp_lower.proofs.TreeLaws.{get_has, inner_only}
use Rattle.pp_lower.proofs.StateLaws.{state_none, answered_mapped}
use Rattle.pp_lower.proofs.FromStates.{first_of, first_stands, inner_stands}
use Rattle.pp_lower.proofs.ValidTargets.{answers_ahead}
use Rattle.pp_lower.proofs.LoopWalks.{AllBytes, bytes_last, map_last, match_leads}

-- a way of free moves leads on
reach_way : (m : Moves) {b node n end : ℕ} → Reaches m b node → FreeWay m b node n end → Reaches m b end
reach_way m r stay = r
reach_way m r (onward f w) = reach_way m (by_free r f) w

-- the turn stops, and then leads to a node
abbrev StopsAt : Turn → ℕ → Type 0
StopsAt (Goes d k items) next = ⊥
StopsAt (Asks code value go) next = ⊥
StopsAt (Rests d) next = ⊥
StopsAt (Stops code d) next = d.node ≡ next
StopsAt (Fails code) next = ⊥

neither_stops : (v : Bool) (t u : Turn) (next : ℕ) → (StopsAt t next → ⊥) → (StopsAt u next → ⊥) → StopsAt (cond v t u) next → ⊥
neither_stops true t u next p q h = p h
neither_stops false t u next p q h = q h

edge_goes : (c : Config) (rest : Rest) (o : Option Edge) (next : ℕ) → StopsAt (edge_turn c rest o) next → ⊥
edge_goes c rest None next h = h
edge_goes c rest (Some e) next h = h

branch_goes : (c : Config) (fold : Fold) (ranges : List (ℕ × ℕ)) (edges : List Edge) (rest : Rest) (bytes : List ℕ) (next : ℕ) → StopsAt (branch_turn c fold ranges edges rest bytes) next → ⊥
branch_goes c fold ranges edges rest [] next h = neither_stops (is_empty_branch ranges edges rest) (rest_turn c rest) (Rests (record c { carried = 0 })) next (λ i. i) (λ i. i) h
branch_goes c fold ranges edges rest (b ∷ bytes) next h =
    neither_stops (in_ranges ranges b) (to c c.node 1 0) (edge_turn c rest (edge_on (folded fold b) edges)) next (λ i. i) (edge_goes c rest (edge_on (folded fold b) edges) next) h

effect_goes : (c : Config) (edge : ℕ → ℕ) (f : Effect) (next : ℕ) → StopsAt (effect_turn c edge f) next → ⊥
effect_goes c edge (AsksHost host) next h = h
effect_goes c edge (Answers answer) next h = h
effect_goes c edge (Sets prop value) next h = h

consume_goes : (c : Config) (rest : List ℕ) (prop target next : ℕ) → StopsAt (consume_turn c rest prop target) next → ⊥
consume_goes c rest prop target next h =
    let v : ℕ = slice_index c.values prop in
    neither_stops (leb v (length rest)) (Goes (consumed c prop target v) v []) (Rests (drained c prop v (length rest))) next (λ i. i) (λ i. i) h

-- a turn leads where the other one does, to the first state of a node
abbrev Mapped : (ℕ → ℕ) → ℕ → ℕ → Turn → Type 0
Mapped roots taken next t = (m : ℕ) × (roots m ≡ next) × LeadsTo t taken m

effect_leads : (roots : ℕ → ℕ) (c d : Config) (edge other : ℕ → ℕ) → ((n : ℕ) → other n ≡ roots (edge n)) → (f : Effect) (taken next : ℕ) → LeadsTo (effect_turn d other f) taken next → Mapped roots taken next (effect_turn c edge f)
effect_leads roots c d edge other h (AsksHost host) taken next (none, answer, low, at) = (edge answer, sym (h answer) ∙ at, (none, answer, low, refl))
effect_leads roots c d edge other h (Answers answer) taken next (none, at) = (edge answer, sym (h answer) ∙ at, (none, refl))
effect_leads roots c d edge other h (Sets prop value) taken next (none, at) = (edge 0, sym (h 0) ∙ at, (none, refl))

consume_leads : (roots : ℕ → ℕ) (c d : Config) (target prop v n : ℕ) (low : Bool) (taken next : ℕ) → LeadsTo (cond low (Goes (consumed d prop (roots target) v) v []) (Rests (drained d prop v n))) taken next →
    Mapped roots taken next (cond low (Goes (consumed c prop target v) v []) (Rests (drained c prop v n)))
consume_leads roots c d target prop v n true taken next (some, at) = (target, at, (some, refl))
consume_leads roots c d target prop v n false taken next h = absurd h

module _ (g : Plan) (good : CanBeLowered g.nodes) where
  abbrev roots : ℕ → ℕ
  roots = root_of g.nodes

  abbrev states : List State
  states = states_by g.nodes

  -- the moves of the graph, and those of its program
  abbrev own : Moves
  own = graph_moves g

  abbrev made : Moves
  made = program_moves (lowered g)

  abbrev at_node : Config → ℕ → Config
  at_node c i = record c { node = i }

  -- an inner state of a node, to which the graph can come with the first of the bytes that were walked
  record Inner (t : ℕ) : Type 0 where
    place : ℕ
    node : Node
    folding : Fold
    keys : List Key
    peeks : List Peek
    other : Other
    listed : slice_get g.nodes place ≡ Some node
    is : node.kind ≡ kind.Match folding keys peeks other
    prefix : List ℕ
    byte : ℕ
    walked : List ℕ
    stands : slice_get states t ≡ Some (record { origin = place; instr = branch_of roots (roots place) folding keys peeks other prefix })
    raw : map (folded folding) (byte ∷ walked) ≡ prefix
    bytes : AllBytes (byte ∷ walked)
    live : IsInner keys prefix
    reached : Reaches own byte place

  -- the first state of a node to which the graph can come
  abbrev Rooted : ℕ → ℕ → Type 0
  Rooted b t = (m : ℕ) × (roots m ≡ t) × Reaches own b m

  abbrev Came : ℕ → ℕ → Type 0
  Came b t = Rooted b t ⊎ Inner t

  -- where the first state of a node leads: where the node leads, or to an inner state behind one byte
  abbrev FromRoot : ℕ → ℕ → ℕ → ℕ → Type 0
  FromRoot i a taken next = ((m : ℕ) × (roots m ≡ next) × Leads (graph_turn g) i a taken m) ⊎ ((taken ≡ 1) × (Reaches own a i → Inner next))

  match_root : (i : ℕ) (n : Node) (folding : Fold) (keys : List Key) (peeks : List Peek) (other : Other) → slice_get g.nodes i ≡ Some n → n.kind ≡ kind.Match folding keys peeks other →
      (a taken next : ℕ) → a < 256 → Leads (program_turn (lowered g)) (roots i) a taken next → FromRoot i a taken next
  match_root i n folding keys peeks other e is a taken next low (c, bytes, are, at, leads) =
      let stands : slice_get states c.node ≡ Some (record { origin = i; instr = first_of roots (roots i) n.kind }) = ap (slice_get states) at ∙ first_stands g.nodes i n e in
      let kinds : GoodKeys keys × GoodPeeks peeks = subst (λ (k : Kind). GoodKind k) is (good i n e) in
      go (match_leads g i n folding keys peeks other e is kinds.0 kinds.1 c [] [] bytes a taken next (record { origin = i; instr = first_of roots (roots i) n.kind }) stands (ap (first_of roots (roots i)) is) refl tt low (inl refl) leads)
    where
      go : ((m : ℕ) × (roots m ≡ next) × Leads (graph_turn g) i a (0 + taken) m) ⊎ ((j : ℕ) × (taken ≡ 1) × (roots i + suc j ≡ next) × (slice_get (inner_of keys) j ≡ Some (folded folding a ∷ []))) → FromRoot i a taken next
      go (inl (m, to, l)) = inl (m, to, subst (λ (k : ℕ). Leads (graph_turn g) i a k m) (zero-add taken) l)
      go (inr (j, one, to, there)) =
          inr (
            one,
            λ reached. record {
              place = i;
              node = n;
              folding = folding;
              keys = keys;
              peeks = peeks;
              other = other;
              listed = e;
              is = is;
              prefix = folded folding a ∷ [];
              byte = a;
              walked = [];
              stands = ap (slice_get states) (sym to) ∙ inner_stands g.nodes i j n folding keys peeks other (folded folding a ∷ []) e is there;
              raw = refl;
              bytes = (low, tt);
              live = inner_only keys (folded folding a ∷ []) (get_has (inner_of keys) j (folded folding a ∷ []) there);
              reached = reached;
            },
          )

  -- the turn of the first state of a node, and the node's own
  abbrev root_turn : ℕ → Kind → Config → List ℕ → Turn
  root_turn i k c bytes = instr_turn (first_of roots (roots i) k) c bytes

  first_turn : (i : ℕ) (n : Node) (k : Kind) → slice_get g.nodes i ≡ Some n → n.kind ≡ k → (c : Config) (bytes : List ℕ) → c.node ≡ roots i → program_turn (lowered g) c bytes ≡ root_turn i k c bytes
  first_turn i n k e is c bytes at =
      ap (λ (o : Option State). state_turn o c bytes) (ap (slice_get states) at ∙ first_stands g.nodes i n e) ∙ ap (λ (x : Kind). root_turn i x c bytes) is

  own_turn : (i : ℕ) (n : Node) (k : Kind) → slice_get g.nodes i ≡ Some n → n.kind ≡ k → (c : Config) (bytes : List ℕ) → graph_turn g (at_node c i) bytes ≡ kind_turn k (at_node c i) bytes
  own_turn i n k e is c bytes = ap (λ (o : Option Node). node_turn o (at_node c i) bytes) e ∙ ap (λ (x : Kind). kind_turn x (at_node c i) bytes) is

  -- a node with one state
  one_root : (i : ℕ) (n : Node) (k : Kind) → slice_get g.nodes i ≡ Some n → n.kind ≡ k → (a taken next : ℕ) →
      ((c : Config) (bytes : List ℕ) → LeadsTo (root_turn i k c (a ∷ bytes)) taken next → Mapped roots taken next (kind_turn k (at_node c i) (a ∷ bytes))) →
      Leads (program_turn (lowered g)) (roots i) a taken next → FromRoot i a taken next
  one_root i n k e is a taken next leads_so (c, bytes, are, at, leads) =
      let r : Mapped roots taken next (kind_turn k (at_node c i) (a ∷ bytes)) =
      leads_so c bytes (subst (λ (t : Turn). LeadsTo t taken next) (first_turn i n k e is c (a ∷ bytes) at) leads) in
      inl (r.0, r.1, (at_node c i, bytes, are, refl, subst (λ (t : Turn). LeadsTo t taken r.0) (sym (own_turn i n k e is c (a ∷ bytes))) r.2))

  kind_root : (i : ℕ) (n : Node) (k : Kind) → slice_get g.nodes i ≡ Some n → n.kind ≡ k → (a taken next : ℕ) → a < 256 → Leads (program_turn (lowered g)) (roots i) a taken next → FromRoot i a taken next
  kind_root i n (kind.Match folding keys peeks other) e is a taken next low h = match_root i n folding keys peeks other e is a taken next low h
  kind_root i n (kind.Invoke what answers other) e is a taken next low h =
      one_root i n (kind.Invoke what answers other) e is a taken next
      (λ c bytes l. effect_leads roots (at_node c i) c (answered answers other) (answered (answers_of roots answers) (roots other)) (λ m. answered_mapped roots answers other m) (effect_of c.values c.carried what) taken next l) h
  kind_root i n (kind.Consume prop target) e is a taken next low h =
      one_root i n (kind.Consume prop target) e is a taken next
      (λ c bytes l. consume_leads roots (at_node c i) c target prop (slice_index c.values prop) (length (a ∷ bytes)) (leb (slice_index c.values prop) (length (a ∷ bytes))) taken next l) h
  kind_root i n (kind.SpanOpen span target) e is a taken next low h = one_root i n (kind.SpanOpen span target) e is a taken next (λ c bytes l. (target, l.1, (l.0, refl))) h
  kind_root i n (kind.SpanClose span target) e is a taken next low h = one_root i n (kind.SpanClose span target) e is a taken next (λ c bytes l. (target, l.1, (l.0, refl))) h
  kind_root i n (kind.Pause number reason target) e is a taken next low h = one_root i n (kind.Pause number reason target) e is a taken next (λ c bytes l. (target, l.1, (l.0, refl))) h
  kind_root i n (kind.Fail number reason) e is a taken next low h = one_root i n (kind.Fail number reason) e is a taken next (λ c bytes l. absurd l) h

  root_leads : (i : ℕ) (o : Option Node) → slice_get g.nodes i ≡ o → (a taken next : ℕ) → a < 256 → Leads (program_turn (lowered g)) (roots i) a taken next → FromRoot i a taken next
  root_leads i (Some n) e a taken next low h = kind_root i n n.kind e refl a taken next low h
  root_leads i None e a taken next low (c, bytes, are, at, leads) =
      absurd (subst (λ (o : Option State). LeadsTo (state_turn o c (a ∷ bytes)) taken next) (ap (slice_get states) at ∙ state_none roots g.nodes i 0 0 e) leads)

  -- the edges of an invoke
  kind_edge : (root : ℕ) (k : Kind) (next : ℕ) → StateAnswers (first_of roots root k) next → (m : ℕ) × (roots m ≡ next) × NodeAnswers k m
  kind_edge root (kind.Match folding keys peeks other) next h = absurd h
  kind_edge root (kind.Invoke what answers other) next (inl at) = (other, at, inl refl)
  kind_edge root (kind.Invoke what answers other) next (inr some) =
      (let r : (m : ℕ) × Any (λ (a : Answer). a.target ≡ m) answers × (roots m ≡ next) = answers_ahead roots next answers some in (r.0, r.2, inr r.1))
  kind_edge root (kind.Consume prop target) next h = absurd h
  kind_edge root (kind.SpanOpen span target) next h = absurd h
  kind_edge root (kind.SpanClose span target) next h = absurd h
  kind_edge root (kind.Pause number reason target) next h = absurd h
  kind_edge root (kind.Fail number reason) next h = absurd h

  root_edge : (i : ℕ) (o : Option Node) → slice_get g.nodes i ≡ o → (next : ℕ) → StateAnswerEdge (slice_get states (roots i)) next → (m : ℕ) × (roots m ≡ next) × NodeAnswerEdge o m
  root_edge i (Some n) e next h = kind_edge (roots i) n.kind next (subst (λ (o : Option State). StateAnswerEdge o next) (first_stands g.nodes i n e) h)
  root_edge i None e next h = absurd (subst (λ (o : Option State). StateAnswerEdge o next) (state_none roots g.nodes i 0 0 e) h)

  -- a free move from the first state of a node
  root_free : (i a next : ℕ) → a < 256 → FreeMove made a (roots i) next → (m : ℕ) × (roots m ≡ next) × FreeMove own a i m
  root_free i a next low (inl leads) = go (root_leads i (slice_get g.nodes i) refl a 0 next low leads)
    where
      go : FromRoot i a 0 next → (m : ℕ) × (roots m ≡ next) × FreeMove own a i m
      go (inl (m, to, l)) = (m, to, inl l)
      go (inr (one, later)) = absurd cc
  root_free i a next low (inr edge) =
      (let r : (m : ℕ) × (roots m ≡ next) × NodeAnswerEdge (slice_get g.nodes i) m = root_edge i (slice_get g.nodes i) refl next edge in (r.0, r.1, inr r.2))

  -- where an inner state leads: where the node leads, behind all the bytes that were walked, or to another inner state behind one byte
  abbrev FromInner : (t : ℕ) → Inner t → ℕ → ℕ → Type 0
  FromInner t x taken next = ((m : ℕ) × (roots m ≡ next) × TakingMove own x.byte x.place m) ⊎ ((taken ≡ 1) × Inner next)

  inner_leads : (t : ℕ) (x : Inner t) (a taken next : ℕ) → a < 256 → Leads (program_turn (lowered g)) t a taken next → FromInner t x taken next
  inner_leads t x a taken next low (c, bytes, are, at, leads) =
      let state : State = record { origin = x.place; instr = branch_of roots (roots x.place) x.folding x.keys x.peeks x.other x.prefix } in
      let kinds : GoodKeys x.keys × GoodPeeks x.peeks = subst (λ (k : Kind). GoodKind k) x.is (good x.place x.node x.listed) in
      go (match_leads g x.place x.node x.folding x.keys x.peeks x.other x.listed x.is kinds.0 kinds.1 c (x.byte ∷ x.walked) x.prefix bytes a taken next state (ap (slice_get states) at ∙ x.stands) refl x.raw x.bytes low (inr x.live) leads)
    where
      go : ((m : ℕ) × (roots m ≡ next) × Leads (graph_turn g) x.place x.byte (length (x.byte ∷ x.walked) + taken) m) ⊎ ((j : ℕ) × (taken ≡ 1) × (roots x.place + suc j ≡ next) × (slice_get (inner_of x.keys) j ≡ Some (x.prefix ++ folded x.folding a ∷ []))) →
          FromInner t x taken next
      go (inl (m, to, l)) =
          let more : length (x.byte ∷ x.walked) + taken ≡ suc (length x.walked + taken) = omega arith in
          inl (m, to, (length x.walked + taken, subst (λ (k : ℕ). Leads (graph_turn g) x.place x.byte k m) more l))
      go (inr (j, one, to, there)) =
          let longer : List ℕ = x.prefix ++ folded x.folding a ∷ [] in
          inr (
            one,
            record {
              place = x.place;
              node = x.node;
              folding = x.folding;
              keys = x.keys;
              peeks = x.peeks;
              other = x.other;
              listed = x.listed;
              is = x.is;
              prefix = x.prefix ++ folded x.folding a ∷ [];
              byte = x.byte;
              walked = x.walked ++ a ∷ [];
              stands = ap (slice_get states) (sym to) ∙ inner_stands g.nodes x.place j x.node x.folding x.keys x.peeks x.other (x.prefix ++ folded x.folding a ∷ []) x.listed x.is there;
              raw = map_last (folded x.folding) (x.byte ∷ x.walked) a ∙ ap (λ (l : List ℕ). l ++ folded x.folding a ∷ []) x.raw;
              bytes = bytes_last (x.byte ∷ x.walked) a x.bytes low;
              live = inner_only x.keys longer (get_has (inner_of x.keys) j longer there);
              reached = x.reached;
            },
          )

  -- a free move leads to a first state
  came_free : (b t next : ℕ) → b < 256 → Came b t → FreeMove made b t next → Rooted b next
  came_free b t next low (inl (i, at, reached)) f =
      let r : (m : ℕ) × (roots m ≡ next) × FreeMove own b i m = root_free i b next low (subst (λ (s : ℕ). FreeMove made b s next) (sym at) f) in
      (r.0, r.1, by_free reached r.2)
  came_free b t next low (inr x) (inl leads) = go (inner_leads t x b 0 next low leads)
    where
      go : FromInner t x 0 next → Rooted b next
      go (inl (m, to, taking)) = (m, to, by_taking low x.reached taking)
      go (inr (one, later)) = absurd cc
  came_free b t next low (inr x) (inr edge) = absurd (subst (λ (o : Option State). StateAnswerEdge o next) x.stands edge)

  came_taking : (a b t next : ℕ) → a < 256 → b < 256 → Came a t → TakingMove made a t next → Came b next
  came_taking a b t next small low (inl (i, at, reached)) (k, leads) =
      go (root_leads i (slice_get g.nodes i) refl a (suc k) next small (subst (λ (s : ℕ). Leads (program_turn (lowered g)) s a (suc k) next) (sym at) leads))
    where
      go : FromRoot i a (suc k) next → Came b next
      go (inl (m, to, l)) = inl (m, to, by_taking low reached (k, l))
      go (inr (one, later)) = inr (later reached)
  came_taking a b t next small low (inr x) (k, leads) = go (inner_leads t x a (suc k) next small leads)
    where
      go : FromInner t x (suc k) next → Came b next
      go (inl (m, to, taking)) = inl (m, to, by_taking low x.reached taking)
      go (inr (one, later)) = inr later

  -- a pause of a state is one of its node
  kind_pause : (i : ℕ) (n : Node) (k : Kind) → slice_get g.nodes i ≡ Some n → n.kind ≡ k → (c : Config) (rest : List ℕ) (next : ℕ) → StopsAt (root_turn i k c rest) next → (m : ℕ) × (roots m ≡ next) × PauseMove own i m
  kind_pause i n (kind.Match folding keys peeks other) e is c rest next h =
      absurd (branch_goes c folding [] (merged (each_below (edge_at roots (roots i) keys peeks []) 256)) (rest_by roots other (key_of keys [])) rest next h)
  kind_pause i n (kind.Invoke what answers other) e is c rest next h = absurd (effect_goes c (answered (answers_of roots answers) (roots other)) (effect_of c.values c.carried what) next h)
  kind_pause i n (kind.Consume prop target) e is c rest next h = absurd (consume_goes c rest prop (roots target) next h)
  kind_pause i n (kind.SpanOpen span target) e is c rest next h = absurd h
  kind_pause i n (kind.SpanClose span target) e is c rest next h = absurd h
  kind_pause i n (kind.Pause number reason target) e is c rest next h =
      (target, h, (at_node c i, record (at_node c i) { node = target; carried = 0 }, rest, number, refl, own_turn i n (kind.Pause number reason target) e is c rest, refl))
  kind_pause i n (kind.Fail number reason) e is c rest next h = absurd h

  stops_at : (c d : Config) (rest : List ℕ) (code next : ℕ) (t : Turn) → program_turn (lowered g) c rest ≡ t → program_turn (lowered g) c rest ≡ Stops code d → d.node ≡ next → StopsAt t next
  stops_at c d rest code next t e stops at = subst (λ (u : Turn). StopsAt u next) (sym stops ∙ e) at

  root_pause : (i : ℕ) (o : Option Node) → slice_get g.nodes i ≡ o → (next : ℕ) → PauseMove made (roots i) next → (m : ℕ) × (roots m ≡ next) × PauseMove own i m
  root_pause i (Some n) e next (c, d, rest, code, at, stops, to) = kind_pause i n n.kind e refl c rest next (stops_at c d rest code next (root_turn i n.kind c rest) (first_turn i n n.kind e refl c rest at) stops to)
  root_pause i None e next (c, d, rest, code, at, stops, to) =
      absurd (stops_at c d rest code next (Fails 0) (ap (λ (o : Option State). state_turn o c rest) (ap (slice_get states) at ∙ state_none roots g.nodes i 0 0 e)) stops to)

  came_pause : (a b t next : ℕ) → b < 256 → Came a t → PauseMove made t next → Came b next
  came_pause a b t next low (inl (i, at, reached)) pause =
      let r : (m : ℕ) × (roots m ≡ next) × PauseMove own i m = root_pause i (slice_get g.nodes i) refl next (subst (λ (s : ℕ). PauseMove made s next) (sym at) pause) in
      inl (r.0, r.1, by_pause low reached r.2)
  came_pause a b t next low (inr x) (c, d, rest, code, at, stops, to) =
      let branch : Instr = branch_of roots (roots x.place) x.folding x.keys x.peeks x.other x.prefix in
      let turn : program_turn (lowered g) c rest ≡ instr_turn branch c rest = ap (λ (o : Option State). state_turn o c rest) (ap (slice_get states) at ∙ x.stands) in
      absurd (branch_goes c x.folding [] (merged (each_below (edge_at roots (roots x.place) x.keys x.peeks x.prefix) 256)) (rest_by roots x.other (key_of x.keys x.prefix)) rest next (stops_at c d rest code next (instr_turn branch c rest) turn stops to))

  -- each state that the program can come to
  came : {b t : ℕ} → Reaches made b t → Came b t
  came (at_entry h) = inl (g.entry, refl, at_entry h)
  came (by_free {b} {node} {next} r f) = inl (came_free b node next (reached-byte made r) (came r) f)
  came (by_taking {a} {b} {node} {next} h r taking) = came_taking a b node next (reached-byte made r) h (came r) taking
  came (by_pause {a} {b} {node} {next} h r pause) = came_pause a b node next h (came r) pause

  -- a way of free moves from the first state of a node
  root_way : {b t n end : ℕ} → b < 256 → (i : ℕ) → roots i ≡ t → FreeWay made b t n end → (m : ℕ) × (roots m ≡ end) × FreeWay own b i n m
  root_way low i at stay = (i, at, stay)
  root_way {b} low i at (onward {next = next} {end = end} {n = n} f w) =
      let r : (m : ℕ) × (roots m ≡ next) × FreeMove own b i m = root_free i b next low (subst (λ (s : ℕ). FreeMove made b s next) (sym at) f) in
      let rest : (m : ℕ) × (roots m ≡ end) × FreeWay own b r.0 n m = root_way low r.0 r.1 w in
      (rest.0, rest.1, onward r.2 rest.2)

  -- a free move is one of a state that is there
  moves_there : (b t next : ℕ) → FreeMove made b t next → (o : Option State) → slice_get states t ≡ o → (s : State) × (slice_get states t ≡ Some s)
  moves_there b t next f (Some s) e = (s, e)
  moves_there b t next (inl (c, bytes, are, at, leads)) None e = absurd (subst (λ (o : Option State). LeadsTo (state_turn o c (b ∷ bytes)) 0 next) (ap (slice_get states) at ∙ e) leads)
  moves_there b t next (inr edge) None e = absurd (subst (λ (o : Option State). StateAnswerEdge o next) e edge)

  -- it is the first state of one node alone
  origin_is : (m : ℕ) (o : Option Node) → slice_get g.nodes m ≡ o → (t : ℕ) (s : State) → slice_get states t ≡ Some s → roots m ≡ t → s.origin ≡ m
  origin_is m (Some n) e t s there at =
      let same : Some s ≡ Some (record { origin = m; instr = first_of roots (roots m) n.kind }) = sym there ∙ ap (slice_get states) (sym at) ∙ first_stands g.nodes m n e in
      let is : s ≡ record { origin = m; instr = first_of roots (roots m) n.kind } = cc in
      ap (λ (x : State). x.origin) is
  origin_is m None e t s there at =
      let same : Some s ≡ None = sym there ∙ ap (slice_get states) (sym at) ∙ state_none roots g.nodes m 0 0 e in
      absurd cc

  no_cycle : IsLoopFree g → (b t n : ℕ) → Reaches made b t → FreeWay made b t (suc n) t → ⊥
  no_cycle free b t n r (onward {next = next} f w) =
      let low : b < 256 = reached-byte made r in
      let first : Rooted b next = came_free b t next low (came r) f in
      let round : (m : ℕ) × (roots m ≡ t) × FreeWay own b first.0 n m = root_way low first.0 first.1 w in
      let again : (m : ℕ) × (roots m ≡ t) × FreeWay own b round.0 (suc n) m = root_way low round.0 round.1 (onward f w) in
      let there : (s : State) × (slice_get states t ≡ Some s) = moves_there b t next f (slice_get states t) refl in
      let same : again.0 ≡ round.0 =
      sym (origin_is again.0 (slice_get g.nodes again.0) refl t there.0 there.1 again.1) ∙ origin_is round.0 (slice_get g.nodes round.0) refl t there.0 there.1 round.1 in
      free b round.0 n (reach_way own first.2 round.2) (subst (λ (m : ℕ). FreeWay own b round.0 (suc n) m) same again.2)

-- no state is on a cycle
pub loops_right : (g : Plan) → CanBeLowered g.nodes → IsLoopFree g → (t : ℕ) → IsOnCycle (lowered g) t → ⊥
loops_right g good free t (byte, cycle) = no_cycle g good free byte t cycle.size cycle.reached cycle.way
