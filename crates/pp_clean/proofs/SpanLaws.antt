-- Spans that fit still fit when the program is finished.
use Rattle.std.proofs.Common.{subst, ◌≡◌, ℕ, zero, suc, List, [], ◌∷◌, Option, Some, None, Bool, true, false, refl, sym, ◌∙◌, ap, arith, map, length, option_map, Contains, ◌⊎◌, inl, inr}
use Rattle.std.specs.Prelude.{slice_get, unwrap_or}
use Rattle.std.specs.List.{Any}
use Rattle.std.proofs.lemmas.Option.{slice_get-map}
use Rattle.pp_graph.specs.declared.node.Answer.{Answer}
use Rattle.pp_flow.specs.declared.moves.Act.{Act}
use Rattle.pp_flow.specs.declared.moves.Act.TheVariants.{Goes}
use Rattle.pp_flow.specs.Standing.{at_entry, along, behind}
use Rattle.pp_program.specs.declared.program.Edge.{Edge}
use Rattle.pp_program.specs.declared.program.Instr.{Instr}
use Rattle.pp_program.specs.declared.program.Instr.TheVariants.{Branch, Invoke, Consume, SpanOpen, SpanClose, Pause, Fail}
use Rattle.pp_program.specs.declared.program.State.{State}
use Rattle.pp_program.specs.declared.program.Program.{Program}
use Rattle.pp_program.specs.Edges.{HasEdge, EdgeFrom, IsEdge}
use Rattle.pp_program.specs.Spans.{act_of, act_by, MayStand, SpansFit}
use Rattle.pp_clean.specs.Map.{mapped, mapped_state, targets}
use Rattle.pp_clean.specs.Skip as skip
use Rattle.pp_clean.specs.Skip.{instr_past, state_past, past, on_past, full_within, landing, skipped}
use Rattle.pp_clean.specs.Reach.{rank, state_targets, leads_to, reached, trimmed_by, trimmed, IsReach}
use Rattle.pp_clean.specs.Merge.{merged_instr, merged_state, merged_program}
use Rattle.pp_clean.specs.Names.{used, moved_origin, renamed}
use Rattle.pp_clean.specs.Finished.{IsFinishable, finished}
use Rattle.pp_clean.proofs.ReachLaws.{Contains-cons, Contains-nil, trimmed_state, reached_right}
use Rattle.pp_clean.proofs.MappedLaws.{Contains-map, Contains-unmap, state_targets-mapped, leads_to-mapped, past_leads, skipped_range}
use Rattle.pp_clean.proofs.ResultLaws.{here, there, SameMoves, merged_moves, origin_moves}

-- ---- edges and targets

only : {X : Type 0} (x t : X) → Contains (x ∷ []) t → x ≡ t
only x t c = elim (Contains-cons x t [] c) [ inl e ↦ e | inr d ↦ absurd (Contains-nil t d) ]

-- the value of some element is one of the values
value_of : {X : Type 0} (f : X → ℕ) (xs : List X) (t : ℕ) → Any (λ (x : X). f x ≡ t) xs → Contains (map f xs) t
value_of f xs t a = subst (λ (u : ℕ). Contains (map f xs) u) a.4 (Contains-map f xs a.1 (a.0, a.2, a.3))

some_of : {X : Type 0} (f : X → ℕ) (xs : List X) (t : ℕ) → Contains (map f xs) t → Any (λ (x : X). f x ≡ t) xs
some_of f xs t c = let u = Contains-unmap f xs t c in (u.1.0, u.0, u.1.1, u.1.2, u.2)

-- an edge leads to a target, or stays at a state that does nothing to spans
instr_led : (n : ℕ) (i : Instr) (t : ℕ) → HasEdge n i t → Contains (targets i) t ⊎ ((n ≡ t) × (act_of i ≡ Goes))
instr_led n (Branch fold stay edges rest) t (inl stays) = inr (stays.0, refl)
instr_led n (Branch fold stay edges rest) t (inr (inl a)) =
    inl (there rest.target t (map (λ (e : Edge). e.target) edges) (value_of (λ (e : Edge). e.target) edges t a))
instr_led n (Branch fold stay edges rest) t (inr (inr e)) = inl (here rest.target t (map (λ (e : Edge). e.target) edges) e)
instr_led n (Invoke code answers other) t (inl e) = inl (here other t (map (λ (a : Answer). a.target) answers) e)
instr_led n (Invoke code answers other) t (inr a) =
    inl (there other t (map (λ (a : Answer). a.target) answers) (value_of (λ (a : Answer). a.target) answers t a))
instr_led n (Consume prop next) t e = inl (here next t [] e)
instr_led n (SpanOpen span next) t e = inl (here next t [] e)
instr_led n (SpanClose span next) t e = inl (here next t [] e)
instr_led n (Pause code reason next) t e = inl (here next t [] e)
instr_led n (Fail code reason) t e = absurd e

-- to each target an edge leads
instr_edge : (n : ℕ) (i : Instr) (t : ℕ) → Contains (targets i) t → HasEdge n i t
instr_edge n (Branch fold stay edges rest) t c = elim (Contains-cons rest.target t (map (λ (e : Edge). e.target) edges) c) [
  | inl e ↦ inr (inr e)
  | inr d ↦ inr (inl (some_of (λ (e : Edge). e.target) edges t d))
]
instr_edge n (Invoke code answers other) t c = elim (Contains-cons other t (map (λ (a : Answer). a.target) answers) c) [
  | inl e ↦ inl e
  | inr d ↦ inr (some_of (λ (a : Answer). a.target) answers t d)
]
instr_edge n (Consume prop next) t c = only next t c
instr_edge n (SpanOpen span next) t c = only next t c
instr_edge n (SpanClose span next) t c = only next t c
instr_edge n (Pause code reason next) t c = only next t c
instr_edge n (Fail code reason) t c = Contains-nil t c

edge_led : (n : ℕ) (o : Option State) (t : ℕ) → EdgeFrom n o t → Contains (state_targets o) t ⊎ ((n ≡ t) × (act_by o ≡ Goes))
edge_led n None t e = absurd e
edge_led n (Some s) t e = instr_led n s.instr t e

edge_in : (n : ℕ) (o : Option State) (t : ℕ) → Contains (state_targets o) t → EdgeFrom n o t
edge_in n None t c = Contains-nil t c
edge_in n (Some s) t c = instr_edge n s.instr t c

-- a way goes on to where the state leads
step : (p : Program) (s : ℕ) (o : Bool) (n t : ℕ) → MayStand p s o n → Contains (leads_to p.states n) t →
    MayStand p s (behind (act_by (slice_get p.states n)) s o) t
step p s o n t h c =
    let e : IsEdge p n t = edge_in n (slice_get p.states n) t c in
    along {is_open = o} {node = n} {next = t} h e

-- ---- programs whose ways follow those of another one

-- By this relation each place of the second program stands for one of the first: the entry for one to which a way comes
-- with each span shut, and where a state of the second leads, a way of the first goes on to a place that it stands for.
-- States act alike at both.
record Follows (R : ℕ → ℕ → Type 0) (p q : Program) : Type 0 where
  entry : (s : ℕ) → (n : ℕ) × R n q.entry × MayStand p s false n
  leads : (s : ℕ) (o : Bool) (n m t : ℕ) → R n m → MayStand p s o n → Contains (leads_to q.states m) t →
      (u : ℕ) × R u t × MayStand p s (behind (act_by (slice_get p.states n)) s o) u
  acts : (n m : ℕ) → R n m → act_by (slice_get q.states m) ≡ act_by (slice_get p.states n)
  one : (n k m : ℕ) → R n m → R k m → n ≡ k

module _ (R : ℕ → ℕ → Type 0) (p q : Program) (f : Follows R p q) where
  -- a way of the first program with the span so, to a place that this one stands for
  abbrev From : ℕ → Bool → ℕ → Type 0
  From s o m = (n : ℕ) × R n m × MayStand p s o n

  goes_on : (s : ℕ) (o : Bool) (m t : ℕ) → IsEdge q m t → From s o m → From s (behind (act_by (slice_get q.states m)) s o) t
  goes_on s o m t e x = elim (edge_led m (slice_get q.states m) t e) [
    | inl c ↦
        let y = f.leads s o x.0 m t x.1 x.2 c in
        (y.0, y.1, subst (λ (a : Act). MayStand p s (behind a s o) y.0) (sym (f.acts x.0 m x.1)) y.2)
    | inr stays ↦ (x.0, subst (λ (k : ℕ). R x.0 k) stays.0 x.1, subst (λ (a : Act). MayStand p s (behind a s o) x.0) (sym stays.1) x.2)
  ]

  from : {s m : ℕ} {o : Bool} → MayStand q s o m → From s o m
  from {s} at_entry = f.entry s
  from {s} (along {is_open} {node} {next} h e) = goes_on s is_open node next e (from h)

  -- spans that fit in the first program fit in the second
  follows_fit : SpansFit p → SpansFit q
  follows_fit fits m = record {
    reopens = λ s r. (let x : From s true m = from r.1 in (fits x.0).reopens s (sym (f.acts x.0 m x.1) ∙ r.0, x.2));
    closes = λ s r. (let x : From s false m = from r.1 in (fits x.0).closes s (sym (f.acts x.0 m x.1) ∙ r.0, x.2));
    mixes = λ s r.
        (let x : From s true m = from r.1 in
        let y : From s false m = from r.2 in
        let same : y.0 ≡ x.0 = f.one y.0 x.0 m y.1 x.1 in
        (fits x.0).mixes s ((λ e. r.0 (f.acts x.0 m x.1 ∙ e)), x.2, subst (λ (n : ℕ). MayStand p s false n) same y.2));
  }

-- ---- acts

act_mapped : (f : ℕ → ℕ) (i : Instr) → act_of (mapped f i) ≡ act_of i
act_mapped f (Branch fold stay edges rest) = refl
act_mapped f (Invoke code answers other) = refl
act_mapped f (Consume prop next) = refl
act_mapped f (SpanOpen span next) = refl
act_mapped f (SpanClose span next) = refl
act_mapped f (Pause code reason next) = refl
act_mapped f (Fail code reason) = refl

-- a state that leads elsewhere acts as before
state_mapped : (f : ℕ → ℕ) (o : Option State) → act_by (option_map (mapped_state f) o) ≡ act_by o
state_mapped f None = refl
state_mapped f (Some s) = act_mapped f s.instr

act_merged : (i : Instr) → act_of (merged_instr i) ≡ act_of i
act_merged (Branch fold stay edges rest) = refl
act_merged (Invoke code answers other) = refl
act_merged (Consume prop next) = refl
act_merged (SpanOpen span next) = refl
act_merged (SpanClose span next) = refl
act_merged (Pause code reason next) = refl
act_merged (Fail code reason) = refl

state_merged : (o : Option State) → act_by (option_map merged_state o) ≡ act_by o
state_merged None = refl
state_merged (Some s) = act_merged s.instr

state_moved : (f : ℕ → ℕ) (o : Option State) → act_by (option_map (moved_origin f) o) ≡ act_by o
state_moved f None = refl
state_moved f (Some s) = refl

act_past : (i : Instr) (t : ℕ) → instr_past i ≡ Some t → act_of i ≡ Goes
act_past (Branch fold stay edges rest) t e = refl
act_past (Invoke code answers other) t e = refl
act_past (Consume prop next) t e = refl
act_past (SpanOpen span next) t e = cc
act_past (SpanClose span next) t e = cc
act_past (Pause code reason next) t e = refl
act_past (Fail code reason) t e = cc

-- an empty state does nothing to spans
state_goes : (o : Option State) (t : ℕ) → state_past o ≡ Some t → act_by o ≡ Goes
state_goes None t e = refl
state_goes (Some s) t e = act_past s.instr t e

-- ---- without moves to empty states

module _ (p : Program) (s : ℕ) (o : Bool) where
  abbrev Comes : ℕ → Type 0
  Comes n = MayStand p s o n

  past_comes : (n t : ℕ) → past p.states n ≡ Some t → Comes n → Comes t
  past_comes n t e h =
      subst (λ (a : Act). MayStand p s (behind a s o) t) (state_goes (slice_get p.states n) t e) (step p s o n t h (past_leads p.states n t e))

  full_on : (k n m : ℕ) → ((t : ℕ) → full_within p.states k t ≡ Some m → Comes t → Comes m) → (x : Option ℕ) → past p.states n ≡ x →
      on_past (full_within p.states k) n x ≡ Some m → Comes n → Comes m
  full_on k n m go None e f h = let same : n ≡ m = cc in subst Comes same h
  full_on k n m go (Some t) e f h = go t f (past_comes n t e h)

  full_comes : (k n m : ℕ) → full_within p.states k n ≡ Some m → Comes n → Comes m
  full_comes zero n m e h = cc
  full_comes (suc k) n m e h = full_on k n m (λ t. full_comes k t m) (past p.states n) refl e h

  by_behind : (n : ℕ) (x : Option ℕ) → skip.behind p.states n ≡ x → Comes n → Comes (unwrap_or x n)
  by_behind n None e h = h
  by_behind n (Some m) e h = full_comes (suc (length p.states)) n m e h

  -- what comes to a place comes with the same spans to where a move to it goes
  lands : (n : ℕ) → Comes n → Comes (landing p.states n)
  lands n h = by_behind n (skip.behind p.states n) refl h

-- a place that stands for itself
abbrev Same : ℕ → ℕ → Type 0
Same n m = n ≡ m

skipped_follows : (p : Program) → Follows Same p (skipped p)
skipped_follows p = record {
  entry = λ s. (landing p.states p.entry, refl, lands p s false p.entry at_entry);
  leads = λ s o n m t same h c. leads s o n t h (subst (λ (k : ℕ). Contains (leads_to (skipped p).states k) t) (sym same) c);
  acts = λ n m same.
      subst (λ (k : ℕ). act_by (slice_get (skipped p).states k) ≡ act_by (slice_get p.states n)) same
      (ap act_by (slice_get-map (mapped_state (landing p.states)) p.states n) ∙ state_mapped (landing p.states) (slice_get p.states n));
  one = λ n k m e g. e ∙ sym g;
}
  where
    leads : (s : ℕ) (o : Bool) (n t : ℕ) → MayStand p s o n → Contains (leads_to (skipped p).states n) t →
        (u : ℕ) × Same u t × MayStand p s (behind (act_by (slice_get p.states n)) s o) u
    leads s o n t h c =
        let d : Contains (map (landing p.states) (leads_to p.states n)) t = subst (λ (l : List ℕ). Contains l t) (leads_to-mapped (landing p.states) p.states n) c in
        let u = Contains-unmap (landing p.states) (leads_to p.states n) t d in
        (landing p.states u.0, u.2, lands p s (behind (act_by (slice_get p.states n)) s o) u.0 (step p s o n u.0 h u.1))

-- ---- without states that nothing leads to

-- marked places of one rank are the same
rank_one : (marks : List Bool) (n k : ℕ) → slice_get marks n ≡ Some true → slice_get marks k ≡ Some true → rank marks n ≡ rank marks k → n ≡ k
rank_one [] n k a b e = cc
rank_one (true ∷ marks) zero zero a b e = refl
rank_one (true ∷ marks) zero (suc k) a b e = absurd (omega (arith, e))
rank_one (true ∷ marks) (suc n) zero a b e = absurd (omega (arith, e))
rank_one (true ∷ marks) (suc n) (suc k) a b e = ap suc (rank_one marks n k a b (omega (arith, e)))
rank_one (false ∷ marks) zero k a b e = cc
rank_one (false ∷ marks) (suc n) zero a b e = cc
rank_one (false ∷ marks) (suc n) (suc k) a b e = ap suc (rank_one marks n k a b e)

-- a marked place and its rank
abbrev Ranks : List Bool → ℕ → ℕ → Type 0
Ranks marks n m = (slice_get marks n ≡ Some true) × (rank marks n ≡ m)

module _ (p : Program) (marks : List Bool) (right : IsReach p marks) where
  at_rank : (n : ℕ) → slice_get marks n ≡ Some true → slice_get (trimmed_by p marks).states (rank marks n) ≡ option_map (mapped_state (rank marks)) (slice_get p.states n)
  at_rank n m = trimmed_state p marks right n (slice_get p.states n) m refl

  trimmed_follows : Follows (Ranks marks) p (trimmed_by p marks)
  trimmed_follows = record {
    entry = λ s. (p.entry, (right.entry, refl), at_entry);
    leads = λ s o n m t r h c. leads s o n t r.0 h (subst (λ (k : ℕ). Contains (leads_to (trimmed_by p marks).states k) t) (sym r.1) c);
    acts = λ n m r.
        subst (λ (k : ℕ). act_by (slice_get (trimmed_by p marks).states k) ≡ act_by (slice_get p.states n)) r.1
        (ap act_by (at_rank n r.0) ∙ state_mapped (rank marks) (slice_get p.states n));
    one = λ n k m r g. rank_one marks n k r.0 g.0 (r.1 ∙ sym g.1);
  }
    where
      leads : (s : ℕ) (o : Bool) (n t : ℕ) → slice_get marks n ≡ Some true → MayStand p s o n → Contains (leads_to (trimmed_by p marks).states (rank marks n)) t →
          (u : ℕ) × Ranks marks u t × MayStand p s (behind (act_by (slice_get p.states n)) s o) u
      leads s o n t marked h c =
          let same : leads_to (trimmed_by p marks).states (rank marks n) ≡ map (rank marks) (leads_to p.states n) =
          ap state_targets (at_rank n marked) ∙ state_targets-mapped (rank marks) (slice_get p.states n) in
          let u = Contains-unmap (rank marks) (leads_to p.states n) t (subst (λ (l : List ℕ). Contains l t) same c) in
          (u.0, (right.closed n u.0 marked u.1, u.2), step p s o n u.0 h u.1)

-- ---- with other edges or names

-- a program whose states lead where they led, and act as they did
same_follows : (p q : Program) → q.entry ≡ p.entry → SameMoves p.states q.states →
    ((n : ℕ) → act_by (slice_get q.states n) ≡ act_by (slice_get p.states n)) → Follows Same p q
same_follows p q entry moves acts = record {
  entry = λ s. (p.entry, sym entry, at_entry);
  leads = λ s o n m t same h c. (t, refl, step p s o n t h (moves.led n t (subst (λ (k : ℕ). Contains (leads_to q.states k) t) (sym same) c)));
  acts = λ n m same. subst (λ (k : ℕ). act_by (slice_get q.states k) ≡ act_by (slice_get p.states n)) same (acts n);
  one = λ n k m e g. e ∙ sym g;
}

merged_follows : (p : Program) → Follows Same p (merged_program p)
merged_follows p = same_follows p (merged_program p) refl (merged_moves p.states)
    (λ n. ap act_by (slice_get-map merged_state p.states n) ∙ state_merged (slice_get p.states n))

renamed_follows : (p : Program) → Follows Same p (renamed p)
renamed_follows p = same_follows p (renamed p) refl (origin_moves (rank (used p)) p.states)
    (λ n. ap act_by (slice_get-map (moved_origin (rank (used p))) p.states n) ∙ state_moved (rank (used p)) (slice_get p.states n))

-- where the spans of a program fit, they fit when it is finished
pub finished_spans_fit : (p : Program) → IsFinishable p → SpansFit p → SpansFit (finished p)
finished_spans_fit p h fits =
    let q : Program = skipped p in
    let r : Program = trimmed q in
    let m : Program = merged_program r in
    let q_fits : SpansFit q = follows_fit Same p q (skipped_follows p) fits in
    let right : IsReach q (reached q) = reached_right q (skipped_range p h.range) in
    let r_fits : SpansFit r = follows_fit (Ranks (reached q)) q r (trimmed_follows q (reached q) right) q_fits in
    let m_fits : SpansFit m = follows_fit Same r m (merged_follows r) r_fits in
    follows_fit Same m (finished p) (renamed_follows m) m_fits
