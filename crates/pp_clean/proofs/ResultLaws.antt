-- The properties of a finished program.
use Rattle.std.proofs.Common.{subst, ◌≡◌, ℕ, zero, suc, ◌+◌, ◌<◌, List, [], ◌∷◌, Option, Some, None, Bool, true, false, cond, refl, sym, ◌∙◌, ap, arith, map, length, option_map, Contains, ◌⊎◌, inl, inr}
use Rattle.std.specs.Prelude.{slice_get, unwrap_or, ◌==◌, ◌||◌}
use Rattle.std.specs.List.{list_any}
use Rattle.std.proofs.lemmas.Bool.{eqb-true}
use Rattle.std.proofs.lemmas.Option.{slice_get-map, slice_get_within}
use Rattle.std.proofs.lemmas.List.{length-map}
use Rattle.pp_program.specs.declared.program.Edge.{Edge}
use Rattle.pp_program.specs.declared.program.Rest.{Rest}
use Rattle.pp_program.specs.declared.program.Instr.{Instr}
use Rattle.pp_program.specs.declared.program.Instr.TheVariants.{Branch, Invoke, Consume, SpanOpen, SpanClose, Pause, Fail}
use Rattle.pp_program.specs.declared.program.State.{State}
use Rattle.pp_program.specs.declared.program.Program.{Program}
use Rattle.pp_clean.specs.Map.{mapped_state, targets}
use Rattle.pp_clean.specs.Skip.{branch_past, instr_past, state_past, past, on_past, full_within, behind, landing, skipped}
use Rattle.pp_clean.specs.Reach.{picked, rank, state_targets, leads_to, Reaches, at_entry, by_edge, reached, trimmed, IsInRange, IsReach}
use Rattle.pp_clean.specs.Merge.{merged_instr, merged_state, merged_program, Ascend, EdgesAre}
use Rattle.pp_program.specs.Merge.{joins, joined, merged_from, merged}
use Rattle.pp_program.specs.Targets.{may_follow, in_row}
use Rattle.pp_program.proofs.MergeLaws.{merged-some}
use Rattle.pp_clean.specs.Names.{used, moved_origin, renamed}
use Rattle.pp_clean.specs.Finished.{AllStates, IsFinishable, IsEndless, IsFinished, finished}
use Rattle.pp_clean.proofs.SkipLaws.{landing_endless}
use Rattle.pp_clean.proofs.ReachLaws.{unpicked, rank_below, Contains-cons, Contains-nil, all_marked, trimmed_state, reached_right}
use Rattle.pp_clean.proofs.MergeLaws.{joined_target, merged_ascend, merged_in_row}
use Rattle.pp_clean.proofs.NamesLaws.{used_at, origin_used}
use Rattle.pp_clean.proofs.MappedLaws.{states_map, map_inverse, Contains-map, Contains-unmap, state_targets-mapped, leads_to-mapped, state_past-mapped, past-mapped, past_leads, skipped_range}
use Rattle.pp_clean.proofs.EndlessLaws.{past_within, endless}
use Rattle.pp_clean.proofs.FinishedLaws.{trimmed_ascend, merged_origins}

-- ---- lists

pub here : {X : Type 0} (x t : X) (xs : List X) → x ≡ t → Contains (x ∷ xs) t
here x t xs e = (0, omega arith, e)

pub there : {X : Type 0} (x t : X) (xs : List X) → Contains xs t → Contains (x ∷ xs) t
there x t xs c = (suc c.0, (let below : c.0 < length xs = c.1 in omega arith), c.2)

pub get_some : {X : Type 0} (xs : List X) (i : ℕ) → i < length xs → (x : X) × (slice_get xs i ≡ Some x)
get_some [] i h = absurd (omega arith)
get_some (x ∷ xs) zero h = (x, refl)
get_some (x ∷ xs) (suc i) h = get_some xs i (omega arith)

-- ---- joined edges lead where the edges led

abbrev goals : List Edge → List ℕ
goals edges = map (λ (e : Edge). e.target) edges

kept_on : (e f : Edge) (edges : List Edge) (t : ℕ) → ((d : Edge) → Contains (goals (d ∷ edges)) t → Contains (goals (merged_from d edges)) t) →
    (v : Bool) → (v ≡ true → e.target ≡ f.target) → Contains (goals (e ∷ f ∷ edges)) t →
    Contains (goals (cond v (merged_from (joined e f) edges) (e ∷ merged_from f edges))) t
kept_on e f edges t go true same c = go (joined e f) (by_first (Contains-cons e.target t (goals (f ∷ edges)) c))
  where
    by_next : (f.target ≡ t) ⊎ Contains (goals edges) t → Contains (e.target ∷ goals edges) t
    by_next (inl g) = here e.target t (goals edges) (same refl ∙ g)
    by_next (inr d) = there e.target t (goals edges) d

    by_first : (e.target ≡ t) ⊎ Contains (goals (f ∷ edges)) t → Contains (e.target ∷ goals edges) t
    by_first (inl g) = here e.target t (goals edges) g
    by_first (inr d) = by_next (Contains-cons f.target t (goals edges) d)
kept_on e f edges t go false same c = by_first (Contains-cons e.target t (goals (f ∷ edges)) c)
  where
    by_first : (e.target ≡ t) ⊎ Contains (goals (f ∷ edges)) t → Contains (goals (e ∷ merged_from f edges)) t
    by_first (inl g) = here e.target t (goals (merged_from f edges)) g
    by_first (inr d) = there e.target t (goals (merged_from f edges)) (go f d)

kept_target : (e : Edge) (edges : List Edge) (t : ℕ) → Contains (goals (e ∷ edges)) t → Contains (goals (merged_from e edges)) t
kept_target e [] t c = c
kept_target e (f ∷ edges) t c = kept_on e f edges t (λ d. kept_target d edges t) (joins e f) (λ j. joined_target e f j) c

old_on : (e f : Edge) (edges : List Edge) (t : ℕ) → ((d : Edge) → Contains (goals (merged_from d edges)) t → Contains (goals (d ∷ edges)) t) →
    (v : Bool) → Contains (goals (cond v (merged_from (joined e f) edges) (e ∷ merged_from f edges))) t → Contains (goals (e ∷ f ∷ edges)) t
old_on e f edges t go true c = by_first (Contains-cons e.target t (goals edges) (go (joined e f) c))
  where
    by_first : (e.target ≡ t) ⊎ Contains (goals edges) t → Contains (goals (e ∷ f ∷ edges)) t
    by_first (inl g) = here e.target t (goals (f ∷ edges)) g
    by_first (inr d) = there e.target t (goals (f ∷ edges)) (there f.target t (goals edges) d)
old_on e f edges t go false c = by_first (Contains-cons e.target t (goals (merged_from f edges)) c)
  where
    by_first : (e.target ≡ t) ⊎ Contains (goals (merged_from f edges)) t → Contains (goals (e ∷ f ∷ edges)) t
    by_first (inl g) = here e.target t (goals (f ∷ edges)) g
    by_first (inr d) = there e.target t (goals (f ∷ edges)) (go f d)

old_target : (e : Edge) (edges : List Edge) (t : ℕ) → Contains (goals (merged_from e edges)) t → Contains (goals (e ∷ edges)) t
old_target e [] t c = c
old_target e (f ∷ edges) t c = old_on e f edges t (λ d. old_target d edges t) (joins e f) c

branch_kept : (r : ℕ) (edges : List Edge) (t : ℕ) → Contains (r ∷ goals edges) t → Contains (r ∷ goals (merged edges)) t
branch_kept r [] t c = c
branch_kept r (e ∷ edges) t c = by_first (Contains-cons r t (goals (e ∷ edges)) c)
  where
    by_first : (r ≡ t) ⊎ Contains (goals (e ∷ edges)) t → Contains (r ∷ goals (merged_from e edges)) t
    by_first (inl g) = here r t (goals (merged_from e edges)) g
    by_first (inr d) = there r t (goals (merged_from e edges)) (kept_target e edges t d)

branch_old : (r : ℕ) (edges : List Edge) (t : ℕ) → Contains (r ∷ goals (merged edges)) t → Contains (r ∷ goals edges) t
branch_old r [] t c = c
branch_old r (e ∷ edges) t c = by_first (Contains-cons r t (goals (merged_from e edges)) c)
  where
    by_first : (r ≡ t) ⊎ Contains (goals (merged_from e edges)) t → Contains (r ∷ goals (e ∷ edges)) t
    by_first (inl g) = here r t (goals (e ∷ edges)) g
    by_first (inr d) = there r t (goals (e ∷ edges)) (old_target e edges t d)

instr_kept : (i : Instr) (t : ℕ) → Contains (targets i) t → Contains (targets (merged_instr i)) t
instr_kept (Branch fold stay edges rest) t c = branch_kept rest.target edges t c
instr_kept (Invoke code answers other) t c = c
instr_kept (Consume prop next) t c = c
instr_kept (SpanOpen span next) t c = c
instr_kept (SpanClose span next) t c = c
instr_kept (Pause code reason next) t c = c
instr_kept (Fail code reason) t c = c

instr_old : (i : Instr) (t : ℕ) → Contains (targets (merged_instr i)) t → Contains (targets i) t
instr_old (Branch fold stay edges rest) t c = branch_old rest.target edges t c
instr_old (Invoke code answers other) t c = c
instr_old (Consume prop next) t c = c
instr_old (SpanOpen span next) t c = c
instr_old (SpanClose span next) t c = c
instr_old (Pause code reason next) t c = c
instr_old (Fail code reason) t c = c

bare_merged : (stay : List (ℕ × ℕ)) (edges : List Edge) (rest : Rest) → branch_past stay (merged edges) rest ≡ branch_past stay edges rest
bare_merged [] [] rest = refl
bare_merged [] (e ∷ edges) rest = (let some : (x : Edge) × (m : List Edge) × (merged (e ∷ edges) ≡ x ∷ m) = merged-some e edges in ap (λ (l : List Edge). branch_past [] l rest) some.2)
bare_merged (r ∷ stay) edges rest = refl

empty_merged : (i : Instr) → instr_past (merged_instr i) ≡ instr_past i
empty_merged (Branch fold stay edges rest) = bare_merged stay edges rest
empty_merged (Invoke code answers other) = refl
empty_merged (Consume prop next) = refl
empty_merged (SpanOpen span next) = refl
empty_merged (SpanClose span next) = refl
empty_merged (Pause code reason next) = refl
empty_merged (Fail code reason) = refl

-- ---- programs of which each state leads where the other one's does

-- Two lists of states that lead to the same places.
pub record SameMoves (old new : List State) : Type 0 where
  pub long : length new ≡ length old
  pub kept : (n t : ℕ) → Contains (leads_to old n) t → Contains (leads_to new n) t
  pub led : (n t : ℕ) → Contains (leads_to new n) t → Contains (leads_to old n) t
  pub empty : (n : ℕ) → past new n ≡ past old n

same_moves : (g : State → State) → ((s : State) (t : ℕ) → Contains (targets s.instr) t → Contains (targets (g s).instr) t) →
    ((s : State) (t : ℕ) → Contains (targets (g s).instr) t → Contains (targets s.instr) t) → ((s : State) → instr_past (g s).instr ≡ instr_past s.instr) →
    (states : List State) → SameMoves states (map g states)
same_moves g up down same states = record {
  long = length-map states g;
  kept = λ n t c. subst (λ (o : Option State). Contains (state_targets o) t) (sym (slice_get-map g states n)) (up_in (slice_get states n) t c);
  led = λ n t c. down_in (slice_get states n) t (subst (λ (o : Option State). Contains (state_targets o) t) (slice_get-map g states n) c);
  empty = λ n. ap state_past (slice_get-map g states n) ∙ same_in (slice_get states n);
}
  where
    up_in : (o : Option State) (t : ℕ) → Contains (state_targets o) t → Contains (state_targets (option_map g o)) t
    up_in None t c = c
    up_in (Some s) t c = up s t c

    down_in : (o : Option State) (t : ℕ) → Contains (state_targets (option_map g o)) t → Contains (state_targets o) t
    down_in None t c = c
    down_in (Some s) t c = down s t c

    same_in : (o : Option State) → state_past (option_map g o) ≡ state_past o
    same_in None = refl
    same_in (Some s) = same s

pub merged_moves : (states : List State) → SameMoves states (map merged_state states)
merged_moves states = same_moves merged_state (λ s t. instr_kept s.instr t) (λ s t. instr_old s.instr t) (λ s. empty_merged s.instr) states

pub origin_moves : (f : ℕ → ℕ) (states : List State) → SameMoves states (map (moved_origin f) states)
origin_moves f states = same_moves (moved_origin f) (λ s t c. c) (λ s t c. c) (λ s. refl) states

module _ (old new : List State) (same : SameMoves old new) where
  same_reach : (entry n : ℕ) → Reaches old entry n → Reaches new entry n
  same_reach entry n at_entry = at_entry
  same_reach entry n (by_edge {n = m} h c) = by_edge {n = m} (same_reach entry m h) (same.kept m n c)

  same_full_on : (f g : ℕ → Option ℕ) (n : ℕ) → ((t : ℕ) → f t ≡ g t) → (o : Option ℕ) → on_past f n o ≡ on_past g n o
  same_full_on f g n h None = refl
  same_full_on f g n h (Some t) = h t

  same_full : (k n : ℕ) → full_within new k n ≡ full_within old k n
  same_full zero n = refl
  same_full (suc k) n = ap (on_past (full_within new k) n) (same.empty n) ∙ same_full_on (full_within new k) (full_within old k) n (same_full k) (past old n)

-- Where a program leads, and which states it has.
pub record IsTrim (states : List State) (entry : ℕ) : Type 0 where
  pub first : entry < length states
  pub edges : (n t : ℕ) → Contains (leads_to states n) t → t < length states
  pub reachable : (n : ℕ) → n < length states → Reaches states entry n
  pub full : (n t : ℕ) → past states n ≡ Some t → IsEndless states n

same_trim : (old new : List State) (entry : ℕ) → SameMoves old new → IsTrim old entry → IsTrim new entry
same_trim old new entry same h = record {
  first = rw same.long h.first;
  edges = λ n t c. rw same.long (h.edges n t (same.led n t c));
  reachable = λ n below. same_reach old new same entry n (h.reachable n (subst (λ (l : ℕ). n < l) same.long below));
  full = λ n t e k. same_full old new same k n ∙ h.full n t (sym (same.empty n) ∙ e) k;
}

-- ---- the trimmed program

module _ (p : Program) (range : IsInRange p) where
  abbrev q : Program
  q = skipped p

  abbrev marks : List Bool
  marks = reached q

  abbrev r : Program
  r = trimmed q

  right : IsReach q marks
  right = reached_right q (skipped_range p range)

  -- a state of the trimmed program comes from a marked place
  place_of : (i : ℕ) (s : State) → slice_get r.states i ≡ Some s → (n : ℕ) × (slice_get marks n ≡ Some true) × (rank marks n ≡ i)
  place_of i s e =
      let x = map_inverse (mapped_state (rank marks)) (picked marks q.states) i s e in
      let h = unpicked marks q.states i x.0 x.1 in
      (h.0, h.1, h.2)

  leads_there : (n : ℕ) → slice_get marks n ≡ Some true → leads_to r.states (rank marks n) ≡ map (rank marks) (leads_to q.states n)
  leads_there n m = ap state_targets (trimmed_state q marks right n (slice_get q.states n) m refl) ∙ state_targets-mapped (rank marks) (slice_get q.states n)

  past_there : (n : ℕ) → slice_get marks n ≡ Some true → past r.states (rank marks n) ≡ option_map (rank marks) (past q.states n)
  past_there n m = ap state_past (trimmed_state q marks right n (slice_get q.states n) m refl) ∙ state_past-mapped (rank marks) (slice_get q.states n)

  reach_there : (n : ℕ) → Reaches q.states q.entry n → Reaches r.states r.entry (rank marks n)
  reach_there n at_entry = at_entry
  reach_there n (by_edge {n = m} h c) =
      by_edge {n = rank marks m} (reach_there m h)
      (subst (λ (l : List ℕ). Contains l (rank marks n)) (sym (leads_there m (all_marked q marks right m h))) (Contains-map (rank marks) (leads_to q.states m) n c))

  all_reachable : (i : ℕ) → i < length r.states → Reaches r.states r.entry i
  all_reachable i h =
      let s = get_some r.states i h in
      let x = place_of i s.0 s.1 in
      subst (Reaches r.states r.entry) x.2 (reach_there x.0 (right.only x.0 x.1))

  below_there : (n : ℕ) → slice_get marks n ≡ Some true → n < length q.states → rank marks n < length r.states
  below_there n m h = rw (length-map (picked marks q.states) (mapped_state (rank marks))) (rank_below marks q.states n m h)

  -- a place that leads somewhere is that of a state
  leads_state : (i t : ℕ) → Contains (leads_to r.states i) t → (n : ℕ) × (slice_get marks n ≡ Some true) × (rank marks n ≡ i)
  leads_state i t c = by_state (slice_get r.states i) refl
    where
      by_state : (o : Option State) → slice_get r.states i ≡ o → (n : ℕ) × (slice_get marks n ≡ Some true) × (rank marks n ≡ i)
      by_state None e = absurd (Contains-nil t (subst (λ (o : Option State). Contains (state_targets o) t) e c))
      by_state (Some s) e = place_of i s e

  edges_there : (i t : ℕ) → Contains (leads_to r.states i) t → t < length r.states
  edges_there i t c =
      let x = leads_state i t c in
      let d : Contains (map (rank marks) (leads_to q.states x.0)) t =
      subst (λ (l : List ℕ). Contains l t) (leads_there x.0 x.1) (subst (λ (j : ℕ). Contains (leads_to r.states j) t) (sym x.2) c) in
      let u = Contains-unmap (rank marks) (leads_to q.states x.0) t d in
      subst (λ (y : ℕ). y < length r.states) u.2
      (below_there u.0 (right.closed x.0 u.0 x.1 u.1) ((skipped_range p range).edges x.0 u.0 u.1))

  -- ---- empty states

  full_on : (k n m : ℕ) → ((t : ℕ) → full_within p.states k t ≡ Some m → past p.states m ≡ None) → (o : Option ℕ) → past p.states n ≡ o →
      on_past (full_within p.states k) n o ≡ Some m → past p.states m ≡ None
  full_on k n m go None e f = let same : n ≡ m = cc in sym (ap (past p.states) same) ∙ e
  full_on k n m go (Some t) e f = go t f

  -- what is found isn't empty
  full_is : (k n m : ℕ) → full_within p.states k n ≡ Some m → past p.states m ≡ None
  full_is zero n m e = cc
  full_is (suc k) n m e = full_on k n m (λ t. full_is k t m) (past p.states n) refl e

  -- a move goes to no empty state, or to one of an endless row
  abbrev pub Lands : ℕ → Type 0
  Lands n = (past p.states n ≡ None) ⊎ (behind p.states n ≡ None)

  pub landing_lands : (n : ℕ) (o : Option ℕ) → behind p.states n ≡ o → Lands (unwrap_or o n)
  landing_lands n None e = inr e
  landing_lands n (Some m) e = inl (full_is (suc (length p.states)) n m e)

  pub reach_lands : (n : ℕ) → Reaches q.states q.entry n → Lands n
  reach_lands n at_entry = landing_lands p.entry (behind p.states p.entry) refl
  reach_lands n (by_edge {n = m} h c) =
      let u = Contains-unmap (landing p.states) (leads_to p.states m) n (subst (λ (l : List ℕ). Contains l n) (leads_to-mapped (landing p.states) p.states m) c) in
      subst Lands u.2 (landing_lands u.0 (behind p.states u.0) refl)

  endless_there : (k n : ℕ) → slice_get marks n ≡ Some true → IsEndless p.states n → full_within r.states k (rank marks n) ≡ None
  endless_there zero n m e = refl
  endless_there (suc k) n m e = by_past (λ t. endless_there k t) (past p.states n) refl
    where
      by_past : ((t : ℕ) → slice_get marks t ≡ Some true → IsEndless p.states t → full_within r.states k (rank marks t) ≡ None) →
          (o : Option ℕ) → past p.states n ≡ o → full_within r.states (suc k) (rank marks n) ≡ None
      by_past go None f =
          let found : full_within p.states 1 n ≡ Some n = ap (on_past (full_within p.states 0) n) f in
          let none : full_within p.states 1 n ≡ None = e 1 in cc
      by_past go (Some t) f =
          let on : IsEndless p.states t = λ j. sym (ap (on_past (full_within p.states j) n) f) ∙ e (suc j) in
          let lands : landing p.states t ≡ t = landing_endless p.states t (on (suc (length p.states))) in
          let gone : past q.states n ≡ Some t = past-mapped (landing p.states) p.states n ∙ ap (option_map (landing p.states)) f ∙ ap Some lands in
          let marked : slice_get marks t ≡ Some true = right.closed n t m (past_leads q.states n t gone) in
          ap (on_past (full_within r.states k) (rank marks n)) (past_there n m ∙ ap (option_map (rank marks)) gone) ∙ go t marked on

  full_there : (i t : ℕ) → past r.states i ≡ Some t → IsEndless r.states i
  full_there i t e =
      let s = get_some r.states i (past_within r.states i t e) in
      let x = place_of i s.0 s.1 in
      subst (IsEndless r.states) x.2 (λ k. endless_there k x.0 x.1 (by_lands x.0 (past p.states x.0) refl x.1
      (sym (past_there x.0 x.1) ∙ ap (past r.states) x.2 ∙ e) (reach_lands x.0 (right.only x.0 x.1))))
    where
      by_lands : (n : ℕ) (o : Option ℕ) → past p.states n ≡ o → slice_get marks n ≡ Some true → option_map (rank marks) (past q.states n) ≡ Some t → Lands n → IsEndless p.states n
      by_lands n o f m g (inr none) = endless p.states n none
      by_lands n None f m g (inl none) =
          let gone : past q.states n ≡ None = past-mapped (landing p.states) p.states n ∙ ap (option_map (landing p.states)) f in
          let never : option_map (rank marks) (past q.states n) ≡ None = ap (option_map (rank marks)) gone in cc
      by_lands n (Some u) f m g (inl none) = cc

  pub trimmed_trim : IsTrim r.states r.entry
  trimmed_trim = record {
    first = below_there q.entry right.entry (skipped_range p range).entry;
    edges = edges_there;
    reachable = all_reachable;
    full = full_there;
  }

-- ---- names

pub any_where : {X : Type 0} (test : X → Bool) (xs : List X) → list_any test xs ≡ true → (n : ℕ) × (x : X) × (slice_get xs n ≡ Some x) × (test x ≡ true)
any_where test [] e = cc
any_where {X} test (y ∷ xs) e = by_test (test y) refl e (any_where test xs)
  where
    by_test : (v : Bool) → test y ≡ v → (v || list_any test xs) ≡ true → (list_any test xs ≡ true → (n : ℕ) × (x : X) × (slice_get xs n ≡ Some x) × (test x ≡ true)) →
        (n : ℕ) × (x : X) × (slice_get (y ∷ xs) n ≡ Some x) × (test x ≡ true)
    by_test true h g go = (0, y, refl, h)
    by_test false h g go = let w = go g in (suc w.0, w.1, w.2, w.3)

-- a name that stays is that of a state
name_state : (p : Program) (i : ℕ) → i < length (renamed p).names → (n : ℕ) × (s : State) × (slice_get (renamed p).states n ≡ Some s) × (s.origin ≡ i)
name_state p i h =
    let x = get_some (picked (used p) p.names) i h in
    let y = unpicked (used p) p.names i x.0 x.1 in
    let flag : Some (list_any (λ (s : State). s.origin == 0 + y.0) p.states) ≡ Some true = sym (used_at p.states 0 p.names y.0 (slice_get_within p.names y.0 x.0 y.3)) ∙ y.1 in
    let any : list_any (λ (s : State). s.origin == 0 + y.0) p.states ≡ true = cc in
    let w = any_where (λ (s : State). s.origin == 0 + y.0) p.states any in
    let same : w.1.origin ≡ 0 + y.0 = eqb-true w.1.origin (0 + y.0) w.3 in
    let is : w.1.origin ≡ y.0 = omega arith in
    let f : ℕ → ℕ = rank (used p) in
    (w.0, moved_origin f w.1, slice_get-map (moved_origin f) p.states w.0 ∙ ap (option_map (moved_origin f)) w.2, ap f is ∙ y.2)

origin_below : (p : Program) → AllStates (λ s. s.origin < length p.names) p.states → AllStates (λ s. s.origin < length (renamed p).names) (renamed p).states
origin_below p all n s e =
    let x = map_inverse (moved_origin (rank (used p))) p.states n s e in
    let below : rank (used p) x.0.origin < length (picked (used p) p.names) =
    rank_below (used p) p.names x.0.origin (origin_used p n x.0 x.1 (all n x.0 x.1)) (all n x.0 x.1) in
    subst (λ (y : State). y.origin < length (picked (used p) p.names)) x.2 below

-- ---- edges

row_instr : (i : Instr) → EdgesAre (Ascend 0) i → EdgesAre (Ascend 0) (merged_instr i) × EdgesAre (λ edges. in_row may_follow edges ≡ true) (merged_instr i)
row_instr (Branch fold stay edges rest) h = (merged_ascend edges h, merged_in_row edges h)
row_instr (Invoke code answers other) h = (tt, tt)
row_instr (Consume prop next) h = (tt, tt)
row_instr (SpanOpen span next) h = (tt, tt)
row_instr (SpanClose span next) h = (tt, tt)
row_instr (Pause code reason next) h = (tt, tt)
row_instr (Fail code reason) h = (tt, tt)

-- what holds of a finished program
pub finished_is : (p : Program) → IsFinishable p → IsFinished (finished p)
finished_is p h =
    let t : Program = trimmed (skipped p) in
    let m : Program = merged_program t in
    let f : ℕ → ℕ = rank (used m) in
    let trim : IsTrim (finished p).states t.entry =
    same_trim m.states (finished p).states t.entry (origin_moves f m.states) (same_trim t.states m.states t.entry (merged_moves t.states) (trimmed_trim p h.range)) in
    let A : State → Type 0 = λ s. EdgesAre (Ascend 0) s.instr in
    let M : State → Type 0 = λ s. EdgesAre (λ edges. in_row may_follow edges ≡ true) s.instr in record {
      range = record { entry = trim.first; edges = trim.edges };
      reachable = trim.reachable;
      full = trim.full;
      ascend = states_map A A (moved_origin f) (λ s a. a) m.states (states_map A A merged_state (λ s a. (row_instr s.instr a).0) t.states (trimmed_ascend p h));
      in_row = states_map M M (moved_origin f) (λ s a. a) m.states (states_map A M merged_state (λ s a. (row_instr s.instr a).1) t.states (trimmed_ascend p h));
      origins = origin_below m (merged_origins p h);
      names = name_state m;
    }
