-- The tables of a program tell where its states go.
use Rattle.std.proofs.Common.{subst, ◌≡◌, ℕ, suc, ◌<◌, List, [], ◌∷◌, Option, Some, Bool, true, false, refl, sym, ◌∙◌, ap, arith, map, get_or, length, All, Contains}
use Rattle.std.specs.Prelude.{slice_get}
use Rattle.std.proofs.lemmas.List.{get_or-map, length-map, get_or_default}
use Rattle.std.proofs.lemmas.List.Elements.{Contains-get_or}
use Rattle.std.proofs.lemmas.Option.{slice_get-get_or}
use Rattle.pp_graph.specs.declared.node.Answer.{Answer}
use Rattle.pp_program.specs.declared.program.Edge.{Edge}
use Rattle.pp_program.specs.declared.program.Instr.{Instr}
use Rattle.pp_program.specs.declared.program.Instr.TheVariants.{Branch, Invoke, Consume, SpanOpen, SpanClose, Pause, Fail}
use Rattle.pp_program.specs.declared.program.State.{State}
use Rattle.pp_program.specs.declared.program.Program.{Program}
use Rattle.pp_clean.specs.Map.{mapped_state, targets}
use Rattle.pp_clean.specs.Skip.{landing, skipped}
use Rattle.pp_clean.specs.Reach.{rank, state_targets, leads_to, Reaches, at_entry, by_edge, reached, IsInRange, IsReach}
use Rattle.pp_clean.specs.Finished.{AllStates}
use Rattle.pp_clean.specs.Search.{TargetsBelow, lands, Found, at_first, by_go, IsFound}
use Rattle.pp_clean.specs.Tables.{Tells}
use Rattle.pp_clean.specs.Layout.{IsLayout}
use Rattle.pp_clean.proofs.ReachLaws.{all_marked, reached_right}
use Rattle.pp_clean.proofs.MappedLaws.{leads_to-mapped, landing_range, skipped_range}

goals_below : (m k : ℕ) (edges : List Edge) → ((t : ℕ) → Contains (k ∷ map (λ (e : Edge). e.target) edges) t → t < m) → All (λ (e : Edge). e.target < m) edges
goals_below m k edges h i d b =
    let long : length (map (λ (e : Edge). e.target) edges) ≡ length edges = length-map edges (λ (e : Edge). e.target) in
    let at : get_or (map (λ (e : Edge). e.target) edges) i 0 ≡ (get_or edges i d).target = get_or-map (λ (e : Edge). e.target) edges i d 0 b in
    let in_list : Contains (map (λ (e : Edge). e.target) edges) (get_or (map (λ (e : Edge). e.target) edges) i 0) = Contains-get_or (map (λ (e : Edge). e.target) edges) i 0 (rw long b) in
    subst (λ (x : ℕ). x < m) at (h (get_or (map (λ (e : Edge). e.target) edges) i 0) (suc in_list.0, (let below : in_list.0 < length (map (λ (e : Edge). e.target) edges) = in_list.1 in omega arith), in_list.2))

answers_below : (m k : ℕ) (answers : List Answer) → ((t : ℕ) → Contains (k ∷ map (λ (a : Answer). a.target) answers) t → t < m) → All (λ (a : Answer). a.target < m) answers
answers_below m k answers h i d b =
    let long : length (map (λ (a : Answer). a.target) answers) ≡ length answers = length-map answers (λ (a : Answer). a.target) in
    let at : get_or (map (λ (a : Answer). a.target) answers) i 0 ≡ (get_or answers i d).target = get_or-map (λ (a : Answer). a.target) answers i d 0 b in
    let in_list : Contains (map (λ (a : Answer). a.target) answers) (get_or (map (λ (a : Answer). a.target) answers) i 0) = Contains-get_or (map (λ (a : Answer). a.target) answers) i 0 (rw long b) in
    subst (λ (x : ℕ). x < m) at (h (get_or (map (λ (a : Answer). a.target) answers) i 0) (suc in_list.0, (let below : in_list.0 < length (map (λ (a : Answer). a.target) answers) = in_list.1 in omega arith), in_list.2))

targets_below : (m : ℕ) (i : Instr) → ((t : ℕ) → Contains (targets i) t → t < m) → TargetsBelow m i
targets_below m (Branch fold stay edges rest) h = (h rest.target (0, omega arith, refl), goals_below m rest.target edges h)
targets_below m (Invoke code answers other) h = (h other (0, omega arith, refl), answers_below m other answers h)
targets_below m (Consume prop next) h = h next (0, omega arith, refl)
targets_below m (SpanOpen span next) h = h next (0, omega arith, refl)
targets_below m (SpanClose span next) h = h next (0, omega arith, refl)
targets_below m (Pause code reason next) h = h next (0, omega arith, refl)
targets_below m (Fail code reason) h = tt

lands_same : (m : ℕ) (g h : ℕ → ℕ) → ((t : ℕ) → t < m → g t ≡ h t) → (l : List ℕ) → ((t : ℕ) → Contains l t → t < m) → map g l ≡ map h l
lands_same m g h same [] below = refl
lands_same m g h same (x ∷ l) below =
    ap (λ (y : ℕ). y ∷ map g l) (same x (below x (0, omega arith, refl)))
    ∙ ap (λ (k : List ℕ). h x ∷ k) (lands_same m g h same l (λ t c. below t (suc c.0, (let b : c.0 < length l = c.1 in omega arith), c.2)))

module _ (p : Program) (range : IsInRange p) where
  abbrev size : ℕ
  size = length p.states

  -- all targets are places of states
  pub all_below : All (λ s. TargetsBelow (length p.states) s.instr) p.states
  all_below k d b =
      let at : slice_get p.states k ≡ Some (get_or p.states k d) = slice_get-get_or p.states k d b in
      targets_below size (get_or p.states k d).instr (λ t c. range.edges k t (subst (λ (o : Option State). Contains (state_targets o) t) (sym at) c))

  module _ (table : List ℕ) (told : Tells (landing p.states) size table) where
    pub table_in : All (λ n. n < size) table
    table_in k d b =
        let below : k < size = rw (← told.long) b in
        let at : get_or table k d ≡ landing p.states k = get_or_default table k d 0 b ∙ told.at k below in
        subst (λ (x : ℕ). x < size) (sym at) (landing_range p.states range.edges k below)

    leads_same : (n : ℕ) → lands p.states table n ≡ leads_to (skipped p).states n
    leads_same n = lands_same size (λ t. get_or table t 0) (landing p.states) told.at (leads_to p.states n) (range.edges n) ∙ sym (leads_to-mapped (landing p.states) p.states n)

    module _ (marks : List Bool) (found : IsFound (lands p.states table) size (landing p.states p.entry) marks) where
      reach_found : (n : ℕ) → Found (lands p.states table) (landing p.states p.entry) n → Reaches (skipped p).states (skipped p).entry n
      reach_found n at_first = at_entry
      reach_found n (by_go {n = m} h c) = by_edge {n = m} (reach_found m h) (subst (λ (l : List ℕ). Contains l n) (leads_same m) c)

      pub found_right : IsReach (skipped p) marks
      found_right = record {
        long = found.long ∙ sym (length-map p.states (mapped_state (landing p.states)));
        entry = found.first_marked;
        closed = λ n t m c. found.closed n t m (subst (λ (l : List ℕ). Contains l t) (sym (leads_same n)) c);
        only = λ n m. reach_found n (found.only n m);
      }

true_mark : (marks other : List Bool) → length marks ≡ length other → ((n : ℕ) → slice_get marks n ≡ Some true → slice_get other n ≡ Some true) →
    ((n : ℕ) → slice_get other n ≡ Some true → slice_get marks n ≡ Some true) → marks ≡ other
true_mark [] [] long up down = refl
true_mark [] (m ∷ other) long up down = absurd (omega arith)
true_mark (m ∷ marks) [] long up down = absurd (omega arith)
true_mark (m ∷ marks) (o ∷ other) long up down =
    ap (λ (v : Bool). v ∷ marks) (head m o (up 0) (down 0)) ∙ ap (λ (l : List Bool). o ∷ l) (true_mark marks other (omega arith) (λ n. up (suc n)) (λ n. down (suc n)))
  where
    head : (a b : Bool) → (Some a ≡ Some true → Some b ≡ Some true) → (Some b ≡ Some true → Some a ≡ Some true) → a ≡ b
    head true true f g = refl
    head true false f g = let e : Some false ≡ Some true = f refl in cc
    head false true f g = let e : Some false ≡ Some true = g refl in cc
    head false false f g = refl

-- there is one list of right marks
pub one_reach : (p : Program) (a b : List Bool) → IsReach p a → IsReach p b → a ≡ b
one_reach p a b h k =
    true_mark a b (h.long ∙ sym k.long) (λ n m. all_marked p b k n (h.only n m)) (λ n m. all_marked p a h n (k.only n m))

all_from : (P : State → Type 0) (states : List State) → AllStates P states → All P states
all_from P states all k d b = all k (get_or states k d) (slice_get-get_or states k d b)

module _ (p : Program) (range : IsInRange p) (table : List ℕ) (told : Tells (landing p.states) (length p.states) table) where
  -- where the entry lands
  pub entry_lands : (e : ℕ) → e ≡ get_or table p.entry e → e ≡ landing p.states p.entry
  entry_lands e is = is ∙ get_or_default table p.entry e 0 (rw told.long range.entry) ∙ told.at p.entry range.entry

  pub within_table : All (λ s. TargetsBelow (length table) s.instr) p.states
  within_table = subst (λ (m : ℕ). All (λ s. TargetsBelow m s.instr) p.states) (sym told.long) (all_below p range)

  pub landing_below : (e : ℕ) → e ≡ landing p.states p.entry → e < length p.states
  landing_below e is = subst (λ (x : ℕ). x < length p.states) (sym is) (landing_range p.states range.edges p.entry range.entry)

  module _ (marks : List Bool) (e : ℕ) (at : e ≡ landing p.states p.entry) (found : IsFound (lands p.states table) (length p.states) e marks)
      (ranked : List ℕ) (rank_told : Tells (rank marks) (length marks) ranked) where
    found_first : IsFound (lands p.states table) (length p.states) (landing p.states p.entry) marks
    found_first = subst (λ (x : ℕ). IsFound (lands p.states table) (length p.states) x marks) at found

    ranked_long : length ranked ≡ length p.states
    ranked_long = rank_told.long ∙ found.long

    pub through_in : All (λ n. n < length ranked) table
    through_in = subst (λ (m : ℕ). All (λ n. n < m) table) (sym ranked_long) (table_in p range table told)

    pub entry_ranked : e < length ranked
    entry_ranked = rw ranked_long (landing_below e at)

    marks_same : marks ≡ reached (skipped p)
    marks_same = one_reach (skipped p) marks (reached (skipped p)) (found_right p range table told marks found_first) (reached_right (skipped p) (skipped_range p range))

    ranked_at : (n : ℕ) → n < length p.states → get_or ranked n 0 ≡ rank (reached (skipped p)) n
    ranked_at n b = rank_told.at n (rw found.long b) ∙ ap (λ (l : List Bool). rank l n) marks_same

    -- the tables are a layout
    pub layout_is : (places : List ℕ) (entry : ℕ) → places ≡ map (λ n. get_or ranked n 0) table → entry ≡ get_or ranked e entry → IsLayout p marks places entry
    layout_is places entry placed entered = record {
      marks_are = marks_same;
      placed = record {
        long = ap length placed ∙ length-map table (λ (n : ℕ). get_or ranked n 0) ∙ told.long;
        at = λ t b. (let inside : t < length table = rw told.long b in
            ap (λ (l : List ℕ). get_or l t 0) placed ∙ get_or-map (λ (n : ℕ). get_or ranked n 0) table t 0 0 inside ∙ ap (λ (n : ℕ). get_or ranked n 0) (told.at t b)
            ∙ ranked_at (landing p.states t) (landing_range p.states range.edges t b));
      };
      entry_is = entered ∙ get_or_default ranked e entry 0 entry_ranked ∙ ranked_at e (landing_below e at) ∙ ap (rank (reached (skipped p))) at;
    }

-- what is asked of the parts, where the slices that are lent stand for the states and the tables
module _ (p : Program) (range : IsInRange p) (lent : List State) (same : lent ≡ p.states) where
  pub lent_below : All (λ s. TargetsBelow (length lent) s.instr) lent
  lent_below = subst (λ (l : List State). All (λ s. TargetsBelow (length l) s.instr) l) (sym same) (all_below p range)

  module _ (table : List ℕ) (tells : Tells (landing lent) (length lent) table) where
    pub lent_told : Tells (landing p.states) (length p.states) table
    lent_told = subst (λ (l : List State). Tells (landing l) (length l) table) same tells

    pub lent_within : (t : List ℕ) → t ≡ table → All (λ s. TargetsBelow (length t) s.instr) lent
    lent_within t e =
        subst (λ (m : List ℕ). All (λ s. TargetsBelow (length m) s.instr) lent) (sym e)
        (subst (λ (l : List State). All (λ s. TargetsBelow (length table) s.instr) l) (sym same) (within_table p range table lent_told))

    pub lent_places : (t : List ℕ) → t ≡ table → All (λ n. n < length lent) t
    lent_places t e =
        subst (λ (m : List ℕ). All (λ n. n < length lent) m) (sym e)
        (subst (λ (l : List State). All (λ n. n < length l) table) (sym same) (table_in p range table lent_told))

    pub lent_entry : (e : ℕ) → e ≡ get_or table p.entry e → e < length lent
    lent_entry e is = subst (λ (l : List State). e < length l) (sym same) (landing_below p range table lent_told e (entry_lands p range table lent_told e is))

    pub lent_found : (t : List ℕ) (e : ℕ) (marks : List Bool) → t ≡ table → IsFound (lands lent t) (length lent) e marks → IsFound (lands p.states table) (length p.states) e marks
    lent_found t e marks at found =
        subst (λ (l : List State). IsFound (lands l table) (length l) e marks) same (subst (λ (m : List ℕ). IsFound (lands lent m) (length lent) e marks) at found)

pub lent_ranks : (lent marks : List Bool) (ranked : List ℕ) → lent ≡ marks → Tells (rank lent) (length lent) ranked → Tells (rank marks) (length marks) ranked
lent_ranks lent marks ranked e t = subst (λ (l : List Bool). Tells (rank l) (length l) ranked) e t
