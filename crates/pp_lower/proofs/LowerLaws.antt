-- Lowering keeps the meaning.
use Rattle.std.proofs.Common.{subst, ◌≡◌, ℕ, suc, ◌+◌, List, [], ◌∷◌, Option, Some, None, refl, sym, ◌∙◌, ap, map, zero-add, add-zero, inl}
use Rattle.std.specs.Prelude.{slice_get, option_map}
use Rattle.std.proofs.lemmas.Option.{slice_get-map}
use Rattle.pp_bytes.specs.Fold.{folded}
use Rattle.pp_graph.specs.declared.node.Kind.{Kind}
use Rattle.pp_graph.specs.declared.node.Kind.TheVariants as kind
use Rattle.pp_graph.specs.declared.node.Node.{Node}
use Rattle.pp_graph.specs.Plan.{Plan}
use Rattle.pp_program.specs.declared.program.Instr.{Instr}
use Rattle.pp_program.specs.declared.program.Instr.TheVariants as instr
use Rattle.pp_program.specs.declared.program.State.{State}
use Rattle.pp_event.specs.Run.{Config, Turn, Stops, Fails, RunResult}
use Rattle.pp_event.specs.Turns.{effect_turn, consume_turn, open_turn, close_turn}
use Rattle.pp_event.specs.Codes.{answered, effect_of}
use Rattle.pp_event.specs.Simulates.{here, Bond, Matches, Mirrors, SimulatesTurns, SameEnd}
use Rattle.pp_event.proofs.SimulationLaws.{mirrors_matches, simulates_means, simulates_runs_back}
use Rattle.pp_event.proofs.MirrorLaws.{EdgesMeet, effect_mirrors, consume_mirrors, open_mirrors, close_mirrors}
use Rattle.pp_mean.specs.Nodes.{kind_turn, node_turn, graph_turn}
use Rattle.pp_mean.specs.Mean.{entry_with}
use Rattle.pp_program.specs.States.{instr_turn, state_turn, program_turn, ProgramMeans}
use Rattle.pp_lower.specs.Lowered.{inner_of, root_of, answers_of, branch_of, states_of, states_by, lowered}
use Rattle.pp_lower.specs.Kept.{kind_reason, instr_reason, node_reason, state_reason, origin_name, SameRun, KeepsMeaning}
use Rattle.pp_lower.proofs.Bond.{GoodKind, CanBeLowered, lifted, HasOrigin, lowering, lowering_of}
use Rattle.pp_lower.proofs.WalkLaws.{turn_in, walks_match}
use Rattle.pp_lower.proofs.NodeWalks.{Standing, walks, state_at}
use Rattle.pp_lower.proofs.StateLaws.{state_there, state_none, branch_there, answered_mapped}

-- configurations at a node and at its root meet
edges_meet : (nodes : List Node) (roots : ℕ → ℕ) (states : List State) (node other : ℕ) → other ≡ roots node → EdgesMeet (lowering nodes roots states) node other
edges_meet nodes roots states node other e = λ at values spans. ap (at_node at values spans) e
  where
    at_node : ℕ → List ℕ → List (Option ℕ) → ℕ → Config
    at_node at values spans n = record { node = n; at = at; carried = 0; values = values; spans = spans }

module _ (nodes : List Node) where
  abbrev roots : ℕ → ℕ
  roots = root_of nodes

  abbrev states : List State
  states = states_by nodes

  abbrev bond : Bond
  bond = lowering nodes (root_of nodes) (states_by nodes)

  -- the j-th state of a node
  there : (c : Config) (n : Node) (k : Kind) (j : ℕ) (s : State) → slice_get nodes c.node ≡ Some n → n.kind ≡ k → slice_get (states_of roots c.node (roots c.node) k) j ≡ Some s →
      slice_get states (roots c.node + j) ≡ Some s
  there c n k j s e is h =
      state_there roots nodes c.node j 0 0 c.node (roots c.node) (roots c.node + j) n s e (sym (zero-add c.node)) (sym (zero-add (roots c.node))) refl
      (subst (λ (x : Kind). slice_get (states_of roots c.node (roots c.node) x) j ≡ Some s) (sym is) h)

  root_there : (c : Config) (n : Node) (k : Kind) (s : State) → slice_get nodes c.node ≡ Some n → n.kind ≡ k → slice_get (states_of roots c.node (roots c.node) k) 0 ≡ Some s →
      slice_get states (roots c.node) ≡ Some s
  root_there c n k s e is h = ap (slice_get states) (sym (add-zero (roots c.node))) ∙ there c n k 0 s e is h

  same_origin : (c : Config) (n : Node) (s : State) → slice_get nodes c.node ≡ Some n → slice_get states (roots c.node) ≡ Some s → s.origin ≡ c.node → kind_reason n.kind ≡ instr_reason s.instr →
      HasOrigin nodes states c.node (roots c.node)
  same_origin c n s e t o r = record {
    origin = ap (option_map (λ (x : State). x.origin)) t ∙ ap (λ (x : ℕ). Some x) o ∙ sym (ap (option_map (λ (x : Node). c.node)) e);
    reason = ap node_reason e ∙ r ∙ sym (ap state_reason t);
  }

  -- a node with one state, whose turn mirrors the node's
  one_state : (c : Config) (rest : List ℕ) (i : Instr) (t : Turn) → slice_get states (roots c.node) ≡ Some (record { origin = c.node; instr = i }) →
      Mirrors bond c (lifted roots c) t (instr_turn i (lifted roots c) rest) → Matches bond (turn_in states) c (lifted roots c) rest t
  one_state c rest i t h m =
      let turn : turn_in states (lifted roots c) rest ≡ instr_turn i (lifted roots c) rest = ap (λ (s : Option State). state_turn s (lifted roots c) rest) h in
      mirrors_matches bond (turn_in states) c (lifted roots c) rest t (subst (Mirrors bond c (lifted roots c) t) (sym turn) m)

  kind_simulated : (c : Config) (rest : List ℕ) (n : Node) (k : Kind) → slice_get nodes c.node ≡ Some n → n.kind ≡ k → GoodKind k → Matches bond (turn_in states) c (lifted roots c) rest (kind_turn k c rest)
  kind_simulated c rest n (kind.Match fold keys peeks other) e is good =
      let state : List ℕ → State = state_at roots (roots c.node) c.node fold keys peeks other in
      let first : slice_get states (roots c.node) ≡ Some (state []) = root_there c n (kind.Match fold keys peeks other) (state []) e is refl in
      let inner : (i : ℕ) (p : List ℕ) → slice_get (inner_of keys) i ≡ Some p → slice_get states (roots c.node + suc i) ≡ Some (state p) =
      λ i p h. there c n (kind.Match fold keys peeks other) (suc i) (state p) e is
      (branch_there roots c.node (roots c.node) (kind.Match fold keys peeks other) (branch_of roots (roots c.node) fold keys peeks other) ([] ∷ inner_of keys) (suc i) p refl h) in
      let stands : Standing states state fold keys c rest [] [] rest (map (folded fold) rest) (lifted roots c) = record {
        there = first;
        live = inl refl;
        long = refl;
        whole_is = refl;
        text_is = refl;
        at = sym (add-zero c.at);
        values = refl;
        spans = refl;
      } in
      walks_match bond (turn_in states) c (lifted roots c) rest (kind_turn (kind.Match fold keys peeks other) c rest)
      (walks nodes roots states fold keys peeks other c (roots c.node) (ap (option_map (λ (x : Node). c.node)) e) (ap node_reason e ∙ ap kind_reason is) good.0 good.1 inner
      rest [] [] rest (map (folded fold) rest) (lifted roots c) stands)
  kind_simulated c rest n (kind.Invoke f answers other) e is good =
      one_state c rest (instr.Invoke f (answers_of roots answers) (roots other)) (effect_turn c (answered answers other) (effect_of c.values c.carried f)) (root_there c n (kind.Invoke f answers other) _ e is refl)
      (effect_mirrors bond c (roots c.node) (answered answers other) (answered (answers_of roots answers) (roots other))
      (λ m. edges_meet nodes roots states (answered answers other m) (answered (answers_of roots answers) (roots other) m) (answered_mapped roots answers other m)) (effect_of c.values c.carried f))
  kind_simulated c rest n (kind.Consume p next) e is good =
      let state : slice_get states (roots c.node) ≡ Some (record { origin = c.node; instr = instr.Consume p (roots next) }) = root_there c n (kind.Consume p next) _ e is refl in
      one_state c rest (instr.Consume p (roots next)) (consume_turn c rest p next) state
      (consume_mirrors bond c rest (roots c.node) p next (roots next) (edges_meet nodes roots states next (roots next) refl)
      (λ m. (record { at = refl; values = refl; spans = refl }, same_origin c n _ e state refl (ap kind_reason is))))
  kind_simulated c rest n (kind.SpanOpen s next) e is good =
      one_state c rest (instr.SpanOpen s (roots next)) (open_turn c s next) (root_there c n (kind.SpanOpen s next) _ e is refl)
      (open_mirrors bond c (roots c.node) s next (roots next) (edges_meet nodes roots states next (roots next) refl))
  kind_simulated c rest n (kind.SpanClose s next) e is good =
      one_state c rest (instr.SpanClose s (roots next)) (close_turn c s next) (root_there c n (kind.SpanClose s next) _ e is refl)
      (close_mirrors bond c (roots c.node) s next (roots next) (edges_meet nodes roots states next (roots next) refl))
  kind_simulated c rest n (kind.Pause number reason next) e is good =
      let state : slice_get states (roots c.node) ≡ Some (record { origin = c.node; instr = instr.Pause number reason (roots next) }) = root_there c n (kind.Pause number reason next) _ e is refl in
      one_state c rest (instr.Pause number reason (roots next)) (Stops number (record c { node = next; carried = 0 })) state
      (record c { node = roots next; carried = 0 }, refl, refl, (record { at = refl; values = refl; spans = refl }, same_origin c n _ e state refl (ap kind_reason is)), refl)
  kind_simulated c rest n (kind.Fail number reason) e is good =
      let state : slice_get states (roots c.node) ≡ Some (record { origin = c.node; instr = instr.Fail number reason }) = root_there c n (kind.Fail number reason) _ e is refl in
      one_state c rest (instr.Fail number reason) (Fails number) state (refl, (record { at = refl; values = refl; spans = refl }, same_origin c n _ e state refl (ap kind_reason is)))

  node_simulated : (c : Config) (rest : List ℕ) (o : Option Node) → slice_get nodes c.node ≡ o → ((n : Node) → slice_get nodes c.node ≡ Some n → GoodKind n.kind) →
      Matches bond (turn_in states) c (lifted roots c) rest (node_turn o c rest)
  node_simulated c rest (Some n) e good = kind_simulated c rest n n.kind e refl (good n e)
  node_simulated c rest None e good =
      let none : slice_get states (roots c.node) ≡ None = state_none roots nodes c.node 0 0 e in (
        lifted roots c,
        record { way = here; turn_is = ap (λ (s : Option State). state_turn s (lifted roots c) rest) none },
        (
          record { at = refl; values = refl; spans = refl },
          record { origin = ap (option_map (λ (x : State). x.origin)) none ∙ sym (ap (option_map (λ (x : Node). c.node)) e); reason = ap node_reason e ∙ sym (ap state_reason none) },
        ),
      )

-- the program of a graph simulates it
lowered_simulates : (g : Plan) → CanBeLowered g.nodes → SimulatesTurns (lowering_of g) (graph_turn g) (program_turn (lowered g))
lowered_simulates g good c d rest m =
    subst (λ (x : Config). Matches (lowering_of g) (program_turn (lowered g)) c x rest (graph_turn g c rest)) (sym m)
    (node_simulated g.nodes c rest (slice_get g.nodes c.node) refl (λ n e. good c.node n e))

-- the name of a state of a node is that of the node
name_kept : (nodes : List Node) (i : ℕ) (o : Option Node) (t : Option State) → slice_get nodes i ≡ o → option_map (λ (s : State). s.origin) t ≡ option_map (λ (n : Node). i) o →
    option_map (λ (n : Node). n.name) o ≡ origin_name (map (λ (n : Node). n.name) nodes) t
name_kept nodes i None None e h = refl
name_kept nodes i None (Some s) e h = cc
name_kept nodes i (Some n) None e h = cc
name_kept nodes i (Some n) (Some s) e h =
    let same : s.origin ≡ i = cc in
    sym (ap (slice_get (map (λ (x : Node). x.name) nodes)) same ∙ slice_get-map (λ (x : Node). x.name) nodes i ∙ ap (option_map (λ (x : Node). x.name)) e)

same_run : (g : Plan) (r q : RunResult) → SameEnd (lowering_of g) r q → SameRun g (lowered g) r q
same_run g r q h =
    let config = h.last.config in
    record {
      finish = h.finish;
      items = h.last.items;
      at = config.0.at;
      values = config.0.values;
      spans = config.0.spans;
      rest = h.last.rest;
      name = name_kept g.nodes r.last.config.node (slice_get g.nodes r.last.config.node) (slice_get (states_by g.nodes) q.last.config.node) refl config.1.origin;
      reason = config.1.reason;
    }

-- what a graph means on a string, its program means too, and nothing else
pub lowering_keeps : (g : Plan) → CanBeLowered g.nodes → KeepsMeaning g (lowered g)
lowering_keeps g good = record {
  props = refl;
  hosts = refl;
  spans = refl;
  finish = refl;
  kept = λ values bytes oracle resumes r h.
      let run : (q : RunResult) × ProgramMeans (lowered g) values bytes oracle resumes q × SameEnd (lowering_of g) r q =
      simulates_means (lowering_of g) (graph_turn g) (program_turn (lowered g)) (lowered_simulates g good) oracle
      (entry_with g values) (lifted (root_of g.nodes) (entry_with g values)) bytes resumes r refl h in
      (run.0, run.1, same_run g r run.0 run.2);
  back = λ values bytes oracle resumes r q h k.
      same_run g r q
      (simulates_runs_back (lowering_of g) (graph_turn g) (program_turn (lowered g)) (lowered_simulates g good) oracle
      (record { config = entry_with g values; rest = bytes; items = []; resumes = resumes })
      (record { config = lifted (root_of g.nodes) (entry_with g values); rest = bytes; items = []; resumes = resumes })
      r q (record { config = refl; rest = refl; items = refl; resumes = refl }) h k);
}
