-- Leaving out states that nothing leads to keeps the meaning.
use Rattle.std.proofs.Common.{subst, ◌≡◌, ℕ, zero, suc, ◌+◌, ◌<◌, ◌≤◌, List, [], ◌∷◌, ◌++◌, Option, Some, None, Bool, true, false, refl, sym, ◌∙◌, ap, arith, map, set, length, replicate, option_map, Contains, ◌⊎◌, inl, inr, length-set, length-append}
use Rattle.std.specs.Prelude.{slice_get}
use Rattle.std.specs.List.{AllByRecursion}
use Rattle.std.proofs.lemmas.List.{length-replicate}
use Rattle.std.proofs.lemmas.Option.{slice_get-map}
use Rattle.std.proofs.lemmas.List.Elements.{recursion_from_All, Contains-get_or, Contains-append_left, Contains-append_right}
use Rattle.pp_graph.specs.declared.node.Answer.{Answer}
use Rattle.pp_program.specs.declared.program.Edge.{Edge}
use Rattle.pp_program.specs.declared.program.Instr.{Instr}
use Rattle.pp_program.specs.declared.program.Instr.TheVariants.{Branch, Invoke, Consume, SpanOpen, SpanClose, Pause, Fail}
use Rattle.pp_program.specs.declared.program.State.{State}
use Rattle.pp_program.specs.declared.program.Program.{Program}
use Rattle.pp_clean.specs.Map.{mapped_state, targets, EachMove}
use Rattle.pp_clean.specs.Keeps.{Keeps}
use Rattle.pp_clean.specs.Reach.{IsReach, picked, rank, state_targets, leads_to, Reaches, at_entry, by_edge, sweep_on, sweep, edges_of, reached, trimmed_by, trimmed, IsInRange}
use Rattle.pp_clean.proofs.RenameLaws.{Renames, stays, lacks, renamed_keeps}

-- a marked one stands at its rank among those picked
pub picked_at : {X : Type 0} (marks : List Bool) (xs : List X) (n : ℕ) → slice_get marks n ≡ Some true → slice_get (picked marks xs) (rank marks n) ≡ slice_get xs n
picked_at [] xs n e = cc
picked_at (m ∷ marks) [] n e = refl
picked_at (true ∷ marks) (x ∷ xs) zero e = refl
picked_at (false ∷ marks) (x ∷ xs) zero e = cc
picked_at (true ∷ marks) (x ∷ xs) (suc n) e = picked_at marks xs n e
picked_at (false ∷ marks) (x ∷ xs) (suc n) e = picked_at marks xs n e

-- a place of the list is a place of the picked ones
pub unpicked : {X : Type 0} (marks : List Bool) (xs : List X) (i : ℕ) (x : X) → slice_get (picked marks xs) i ≡ Some x →
    (n : ℕ) × (slice_get marks n ≡ Some true) × (rank marks n ≡ i) × (slice_get xs n ≡ Some x)
unpicked [] xs i x e = cc
unpicked (m ∷ marks) [] i x e = cc
unpicked (true ∷ marks) (y ∷ xs) zero x e = (0, refl, refl, e)
unpicked (true ∷ marks) (y ∷ xs) (suc i) x e = let h = unpicked marks xs i x e in (suc h.0, h.1, ap suc h.2, h.3)
unpicked (false ∷ marks) (y ∷ xs) i x e = let h = unpicked marks xs i x e in (suc h.0, h.1, h.2, h.3)

-- the rank of a marked place is below the number of those picked
pub rank_below : {X : Type 0} (marks : List Bool) (xs : List X) (n : ℕ) → slice_get marks n ≡ Some true → n < length xs → rank marks n < length (picked marks xs)
rank_below [] xs n e h = cc
rank_below (m ∷ marks) [] n e h = absurd (omega arith)
rank_below (true ∷ marks) (x ∷ xs) zero e h = omega arith
rank_below (false ∷ marks) (x ∷ xs) zero e h = cc
rank_below (true ∷ marks) (x ∷ xs) (suc n) e h = let below : rank marks n < length (picked marks xs) = rank_below marks xs n e (omega arith) in omega arith
rank_below (false ∷ marks) (x ∷ xs) (suc n) e h = rank_below marks xs n e (omega arith)

pub Contains-cons : {X : Type 0} (x t : X) (xs : List X) → Contains (x ∷ xs) t → (x ≡ t) ⊎ Contains xs t
Contains-cons x t xs (zero, h, e) = inl e
Contains-cons x t xs (suc k, h, e) = inr (k, omega arith, e)

pub Contains-nil : {X : Type 0} (t : X) → Contains [] t → ⊥
Contains-nil t h = let below : h.0 < 0 = h.1 in omega arith

-- a mark that is unset after one was set was unset, and is another one
set_unset : (marks : List Bool) (x n : ℕ) → slice_get marks x ≡ Some false → slice_get (set marks x true) n ≡ Some false → (slice_get marks n ≡ Some false) × (x ≡ n → ⊥)
set_unset [] x n e h = cc
set_unset (m ∷ marks) zero zero e h = cc
set_unset (m ∷ marks) zero (suc n) e h = (h, λ g. omega arith)
set_unset (m ∷ marks) (suc x) zero e h = (h, λ g. omega arith)
set_unset (m ∷ marks) (suc x) (suc n) e h = let r = set_unset marks x n e h in (r.0, λ g. r.1 (omega arith))

pub set_isset : (marks : List Bool) (x n : ℕ) → slice_get (set marks x true) n ≡ Some true → (x ≡ n) ⊎ (slice_get marks n ≡ Some true)
set_isset [] x n h = inr h
set_isset (m ∷ marks) zero zero h = inl refl
set_isset (m ∷ marks) zero (suc n) h = inr h
set_isset (m ∷ marks) (suc x) zero h = inr h
set_isset (m ∷ marks) (suc x) (suc n) h = more (set_isset marks x n h)
  where
    more : (x ≡ n) ⊎ (slice_get marks n ≡ Some true) → (suc x ≡ suc n) ⊎ (slice_get marks n ≡ Some true)
    more (inl e) = inl (ap suc e)
    more (inr e) = inr e

-- the edges of the states that aren't marked
abbrev weight : List State → List Bool → ℕ
weight [] marks = 0
weight (s ∷ states) [] = 0
weight (s ∷ states) (true ∷ marks) = weight states marks
weight (s ∷ states) (false ∷ marks) = length (targets s.instr) + weight states marks

weight_set : (states : List State) (marks : List Bool) (n : ℕ) → slice_get marks n ≡ Some false →
    length (leads_to states n) + weight states (set marks n true) ≡ weight states marks
weight_set [] marks n e = refl
weight_set (s ∷ states) [] n e = cc
weight_set (s ∷ states) (true ∷ marks) zero e = cc
weight_set (s ∷ states) (false ∷ marks) zero e = refl
weight_set (s ∷ states) (true ∷ marks) (suc n) e = weight_set states marks n e
weight_set (s ∷ states) (false ∷ marks) (suc n) e = let rest = weight_set states marks n e in omega arith

weight_none : (states : List State) → weight states (replicate (length states) false) ≡ edges_of states
weight_none [] = refl
weight_none (s ∷ states) = ap (λ (n : ℕ). length (targets s.instr) + n) (weight_none states)

module _ (states : List State) where
  -- what a marked place leads to is marked, or waits in the worklist
  abbrev pub Open : List ℕ → List Bool → Type 0
  Open work marks = (n t : ℕ) → slice_get marks n ≡ Some true → Contains (leads_to states n) t → slice_get marks t ≡ Some false → Contains work t

  pub record Swept (work : List ℕ) (marks result : List Bool) : Type 0 where
    pub closed : (n t : ℕ) → slice_get result n ≡ Some true → Contains (leads_to states n) t → slice_get result t ≡ Some false → ⊥
    pub worked : (t : ℕ) → Contains work t → slice_get result t ≡ Some false → ⊥
    pub kept : (n : ℕ) → slice_get result n ≡ Some false → slice_get marks n ≡ Some false

  done : (marks : List Bool) → Open [] marks → Swept [] marks marks
  done marks still = record {
    closed = λ n t e h u. Contains-nil t (still n t e h u);
    worked = λ t h u. Contains-nil t h;
    kept = λ n e. e;
  }

  -- the first of the worklist is marked already
  past_marked : (x : ℕ) (work : List ℕ) (marks result : List Bool) → (slice_get marks x ≡ Some false → ⊥) → Swept work marks result → Swept (x ∷ work) marks result
  past_marked x work marks result m s = record {
    closed = s.closed;
    worked = λ t h u. by_place t u (Contains-cons x t work h);
    kept = s.kept;
  }
    where
      by_place : (t : ℕ) → slice_get result t ≡ Some false → (x ≡ t) ⊎ Contains work t → ⊥
      by_place t u (inl e) = m (ap (slice_get marks) e ∙ s.kept t u)
      by_place t u (inr h) = s.worked t h u

  open_marked : (x : ℕ) (work : List ℕ) (marks : List Bool) → (slice_get marks x ≡ Some false → ⊥) → Open (x ∷ work) marks → Open work marks
  open_marked x work marks m still n t e h u = by_place (Contains-cons x t work (still n t e h u))
    where
      by_place : (x ≡ t) ⊎ Contains work t → Contains work t
      by_place (inl g) = absurd (m (ap (slice_get marks) g ∙ u))
      by_place (inr g) = g

  open_fresh : (x : ℕ) (work : List ℕ) (marks : List Bool) → slice_get marks x ≡ Some false → Open (x ∷ work) marks → Open (leads_to states x ++ work) (set marks x true)
  open_fresh x work marks m still n t e h u = by_place (set_isset marks x n e)
    where
      by_work : (x ≡ t) ⊎ Contains work t → Contains (leads_to states x ++ work) t
      by_work (inl g) = absurd ((set_unset marks x t m u).1 g)
      by_work (inr g) = Contains-append_right (leads_to states x) work t g

      by_place : (x ≡ n) ⊎ (slice_get marks n ≡ Some true) → Contains (leads_to states x ++ work) t
      by_place (inl g) = Contains-append_left (leads_to states x) work t (subst (λ (k : ℕ). Contains (leads_to states k) t) (sym g) h)
      by_place (inr g) = by_work (Contains-cons x t work (still n t g h (set_unset marks x t m u).0))

  past_fresh : (x : ℕ) (work : List ℕ) (marks result : List Bool) → slice_get marks x ≡ Some false → Swept (leads_to states x ++ work) (set marks x true) result → Swept (x ∷ work) marks result
  past_fresh x work marks result m s = record {
    closed = s.closed;
    worked = λ t h u. by_place t u (Contains-cons x t work h);
    kept = λ n e. (set_unset marks x n m (s.kept n e)).0;
  }
    where
      by_place : (t : ℕ) → slice_get result t ≡ Some false → (x ≡ t) ⊎ Contains work t → ⊥
      by_place t u (inl e) = (set_unset marks x t m (s.kept t u)).1 e
      by_place t u (inr h) = s.worked t (Contains-append_right (leads_to states x) work t h) u

  swept_on : (k x : ℕ) (work : List ℕ) (marks : List Bool) →
      ((w : List ℕ) (m : List Bool) → length w + weight states m ≤ k → Open w m → Swept w m (sweep states k w m)) →
      (o : Option Bool) → slice_get marks x ≡ o → length (x ∷ work) + weight states marks ≤ suc k → Open (x ∷ work) marks →
      Swept (x ∷ work) marks (sweep_on (sweep states k) (leads_to states x) x work marks o)
  swept_on k x work marks go None e h still =
      let m : slice_get marks x ≡ Some false → ⊥ = λ g. cc in
      past_marked x work marks (sweep states k work marks) m (go work marks (omega arith) (open_marked x work marks m still))
  swept_on k x work marks go (Some true) e h still =
      let m : slice_get marks x ≡ Some false → ⊥ = λ g. cc in
      past_marked x work marks (sweep states k work marks) m (go work marks (omega arith) (open_marked x work marks m still))
  swept_on k x work marks go (Some false) e h still =
      let less : length (leads_to states x) + weight states (set marks x true) ≡ weight states marks = weight_set states marks x e in
      let joined : length (leads_to states x ++ work) ≡ length (leads_to states x) + length work = length-append (leads_to states x) work in
      past_fresh x work marks (sweep states k (leads_to states x ++ work) (set marks x true)) e
      (go (leads_to states x ++ work) (set marks x true) (omega arith) (open_fresh x work marks e still))

  -- all that the worklist leads to is marked, and closed
  pub swept : (k : ℕ) (work : List ℕ) (marks : List Bool) → length work + weight states marks ≤ k → Open work marks → Swept work marks (sweep states k work marks)
  swept zero [] marks h still = done marks still
  swept zero (x ∷ work) marks h still = absurd (omega arith)
  swept (suc k) [] marks h still = done marks still
  swept (suc k) (x ∷ work) marks h still = swept_on k x work marks (swept k) (slice_get marks x) refl h still

  on_length : (k x : ℕ) (work : List ℕ) (marks : List Bool) → ((w : List ℕ) (m : List Bool) → length (sweep states k w m) ≡ length m) →
      (o : Option Bool) → length (sweep_on (sweep states k) (leads_to states x) x work marks o) ≡ length marks
  on_length k x work marks go None = go work marks
  on_length k x work marks go (Some true) = go work marks
  on_length k x work marks go (Some false) = go (leads_to states x ++ work) (set marks x true) ∙ length-set marks x true

  pub length-sweep : (k : ℕ) (work : List ℕ) (marks : List Bool) → length (sweep states k work marks) ≡ length marks
  length-sweep zero work marks = refl
  length-sweep (suc k) [] marks = refl
  length-sweep (suc k) (x ∷ work) marks = on_length k x work marks (length-sweep k) (slice_get marks x)

  module _ (entry : ℕ) where
    abbrev Only : List ℕ → List Bool → Type 0
    Only work marks = ((t : ℕ) → Contains work t → Reaches states entry t) × ((n : ℕ) → slice_get marks n ≡ Some true → Reaches states entry n)

    Contains-split : {X : Type 0} (xs ys : List X) (t : X) → Contains (xs ++ ys) t → Contains xs t ⊎ Contains ys t
    Contains-split [] ys t h = inr h
    Contains-split {X} (x ∷ xs) ys t h = by_place (Contains-cons x t (xs ++ ys) h) (Contains-split xs ys t)
      where
        by_place : (x ≡ t) ⊎ Contains (xs ++ ys) t → (Contains (xs ++ ys) t → Contains xs t ⊎ Contains ys t) → Contains (x ∷ xs) t ⊎ Contains ys t
        by_place (inl e) go = inl (0, omega arith, e)
        by_place (inr g) go = by_rest (go g)
          where
            by_rest : Contains xs t ⊎ Contains ys t → Contains (x ∷ xs) t ⊎ Contains ys t
            by_rest (inl c) = inl (suc c.0, (let below : c.0 < length xs = c.1 in omega arith), c.2)
            by_rest (inr c) = inr c

    rest_only : (x : ℕ) (work : List ℕ) (marks : List Bool) → Only (x ∷ work) marks → Only work marks
    rest_only x work marks h = ((λ t c. h.0 t (suc c.0, (let below : c.0 < length work = c.1 in omega arith), c.2)), h.1)

    fresh_only : (x : ℕ) (work : List ℕ) (marks : List Bool) → Only (x ∷ work) marks → Only (leads_to states x ++ work) (set marks x true)
    fresh_only x work marks h = ((λ t c. by_work t (Contains-split (leads_to states x) work t c)), λ n e. by_mark n (set_isset marks x n e))
      where
        here : Reaches states entry x
        here = h.0 x (0, omega arith, refl)

        by_work : (t : ℕ) → Contains (leads_to states x) t ⊎ Contains work t → Reaches states entry t
        by_work t (inl c) = by_edge here c
        by_work t (inr c) = h.0 t (suc c.0, (let below : c.0 < length work = c.1 in omega arith), c.2)

        by_mark : (n : ℕ) → (x ≡ n) ⊎ (slice_get marks n ≡ Some true) → Reaches states entry n
        by_mark n (inl e) = subst (Reaches states entry) e here
        by_mark n (inr e) = h.1 n e

    only_on : (k x : ℕ) (work : List ℕ) (marks : List Bool) →
        ((w : List ℕ) (m : List Bool) → Only w m → (n : ℕ) → slice_get (sweep states k w m) n ≡ Some true → Reaches states entry n) →
        (o : Option Bool) → Only (x ∷ work) marks → (n : ℕ) → slice_get (sweep_on (sweep states k) (leads_to states x) x work marks o) n ≡ Some true → Reaches states entry n
    only_on k x work marks go None h = go work marks (rest_only x work marks h)
    only_on k x work marks go (Some true) h = go work marks (rest_only x work marks h)
    only_on k x work marks go (Some false) h = go (leads_to states x ++ work) (set marks x true) (fresh_only x work marks h)

    -- only what can be reached is marked
    pub swept_only : (k : ℕ) (work : List ℕ) (marks : List Bool) → Only work marks → (n : ℕ) → slice_get (sweep states k work marks) n ≡ Some true → Reaches states entry n
    swept_only zero work marks h = h.1
    swept_only (suc k) [] marks h = h.1
    swept_only (suc k) (x ∷ work) marks h = only_on k x work marks (swept_only k) (slice_get marks x) h

replicate_get : {X : Type 0} (n i : ℕ) (x y : X) → slice_get (replicate n x) i ≡ Some y → x ≡ y
replicate_get zero i x y e = cc
replicate_get (suc n) zero x y e = cc
replicate_get (suc n) (suc i) x y e = replicate_get n i x y e

-- each place is marked or not
is_marked : (marks : List Bool) (n : ℕ) → n < length marks → (slice_get marks n ≡ Some false → ⊥) → slice_get marks n ≡ Some true
is_marked [] n h u = absurd (omega arith)
is_marked (true ∷ marks) zero h u = refl
is_marked (false ∷ marks) zero h u = absurd (u refl)
is_marked (m ∷ marks) (suc n) h u = is_marked marks n (omega arith) u

true_or_false : (b : Bool) → false ≡ b → b ≡ true → ⊥
true_or_false b e h = cc

module _ (p : Program) (range : IsInRange p) where
  abbrev none : List Bool
  none = replicate (length p.states) false

  none_marked : (n : ℕ) → slice_get none n ≡ Some true → ⊥
  none_marked n e = true_or_false true (replicate_get (length p.states) n false true e) refl

  all_swept : Swept p.states (p.entry ∷ []) none (reached p)
  all_swept =
      let weighs : weight p.states none ≡ edges_of p.states = weight_none p.states in
      swept p.states (suc (edges_of p.states)) (p.entry ∷ []) none (omega arith) (λ n t e h u. absurd (none_marked n e))

  reached_long : length (reached p) ≡ length p.states
  reached_long = length-sweep p.states (suc (edges_of p.states)) (p.entry ∷ []) none ∙ length-replicate (length p.states) false

  entry_only : (t : ℕ) → (p.entry ≡ t) ⊎ Contains [] t → Reaches p.states p.entry t
  entry_only t (inl e) = subst (Reaches p.states p.entry) e at_entry
  entry_only t (inr h) = absurd (Contains-nil t h)

  -- the marks are right
  pub reached_right : IsReach p (reached p)
  reached_right = record {
    long = reached_long;
    entry = is_marked (reached p) p.entry (rw reached_long range.entry) (all_swept.worked p.entry (0, omega arith, refl));
    closed = λ n t e h. is_marked (reached p) t (rw reached_long (range.edges n t h)) (all_swept.closed n t e h);
    only = swept_only p.states p.entry (suc (edges_of p.states)) (p.entry ∷ []) none
        ((λ t h. entry_only t (Contains-cons p.entry t [] h)), λ n e. absurd (none_marked n e));
  }

module _ (p : Program) (marks : List Bool) (right : IsReach p marks) where
  -- what can be reached is marked
  pub all_marked : (n : ℕ) → Reaches p.states p.entry n → slice_get marks n ≡ Some true
  all_marked n at_entry = right.entry
  all_marked n (by_edge {n = m} h c) = right.closed m n (all_marked m h) c

all_map : {A B : Type 0} (P : B → Type 0) (g : A → B) (l : List A) → AllByRecursion P (map g l) → AllByRecursion (λ a. P (g a)) l
all_map P g [] h = tt
all_map P g (a ∷ l) h = (h.0, all_map P g l h.1)

-- what holds of the targets holds of each move
pub each_move : (P : ℕ → Type 0) (i : Instr) → AllByRecursion P (targets i) → EachMove (λ n k. P n) i
each_move P (Branch fold stay edges rest) h = (all_map P (λ (e : Edge). e.target) edges h.1, h.0)
each_move P (Invoke code answers other) h = (all_map P (λ (a : Answer). a.target) answers h.1, h.0)
each_move P (Consume prop next) h = h.0
each_move P (SpanOpen span next) h = h.0
each_move P (SpanClose span next) h = h.0
each_move P (Pause code reason next) h = h.0
each_move P (Fail code reason) h = tt

module _ (p : Program) (marks : List Bool) (right : IsReach p marks) where
  abbrev pub IsMarked : ℕ → ℕ → Type 0
  IsMarked n k = slice_get marks n ≡ Some true

  pub moves_marked : (n : ℕ) (s : State) → slice_get p.states n ≡ Some s → slice_get marks n ≡ Some true → EachMove IsMarked s.instr
  moves_marked n s e m =
      let there : (t : ℕ) → Contains (targets s.instr) t → slice_get marks t ≡ Some true =
      λ t h. right.closed n t m (subst (λ (o : Option State). Contains (state_targets o) t) (sym e) h) in
      each_move (λ t. slice_get marks t ≡ Some true) s.instr
      (recursion_from_All (λ t. slice_get marks t ≡ Some true) (targets s.instr) (λ k d h. there _ (Contains-get_or (targets s.instr) k d h)))

  -- the state at a marked place
  pub trimmed_state : (n : ℕ) (o : Option State) → slice_get marks n ≡ Some true → slice_get p.states n ≡ o →
      slice_get (trimmed_by p marks).states (rank marks n) ≡ option_map (mapped_state (rank marks)) o
  trimmed_state n o m e =
      slice_get-map (mapped_state (rank marks)) (picked marks p.states) (rank marks n) ∙ ap (option_map (mapped_state (rank marks))) (picked_at marks p.states n m ∙ e)

  trimmed_place : (n : ℕ) (o : Option State) → slice_get p.states n ≡ o → slice_get marks n ≡ Some true → Renames p (trimmed_by p marks) (rank marks) IsMarked n
  trimmed_place n None e m = lacks e (trimmed_state n None m e)
  trimmed_place n (Some s) e m = stays s (mapped_state (rank marks) s) e (trimmed_state n (Some s) m e) refl (moves_marked n s e m) m refl

  pub trimmed_by_keeps : Keeps p (trimmed_by p marks)
  trimmed_by_keeps = record {
    props = refl;
    hosts = refl;
    spans = refl;
    finish = refl;
    runs = renamed_keeps p (trimmed_by p marks) (rank marks) IsMarked (λ n k m. trimmed_place n (slice_get p.states n) refl m) right.entry refl refl;
  }

-- leaving out what can't be reached keeps the meaning
pub trimmed_keeps : (p : Program) → IsInRange p → Keeps p (trimmed p)
trimmed_keeps p range = trimmed_by_keeps p (reached p) (reached_right p range)
