-- A search by marks and a worklist finds what can be reached.
use Rattle.std.proofs.Common.{subst, ◌≡◌, ℕ, zero, suc, ◌+◌, ◌<◌, ◌≤◌, List, [], ◌∷◌, ◌++◌, Option, Some, Bool, true, false, cond, refl, sym, ◌∙◌, ap, arith, map, set, get_or, length, replicate, All, Contains, ◌⊎◌, inl, inr, length-set}
use Rattle.std.specs.Prelude.{slice_get}
use Rattle.std.proofs.lemmas.List.{length_push, length-replicate, get_or_past}
use Rattle.std.proofs.lemmas.Bool.{cases_lt}
use Rattle.std.proofs.lemmas.Option.{slice_get_within}
use Rattle.std.proofs.lemmas.List.Elements.{Contains-append_left, Contains-push, All-map}
use Rattle.pp_program.specs.declared.program.State.{State}
use Rattle.pp_clean.specs.Map.{targets}
use Rattle.pp_clean.specs.Reach.{state_targets, leads_to}
use Rattle.pp_clean.specs.Search.{Search, visited, visited_all, Found, at_first, by_go, IsFound, lands}
use Rattle.pp_clean.proofs.ReachLaws.{Contains-cons, Contains-nil, set_isset}

-- how many places aren't marked
abbrev pub unset : List Bool → ℕ
unset [] = 0
unset (true ∷ marks) = unset marks
unset (false ∷ marks) = suc (unset marks)

-- What a search has become.
pub record Spread (s : Search) (places : List ℕ) (e : Search) : Type 0 where
  pub long : length e.marks ≡ length s.marks
  pub grows : (n : ℕ) → slice_get s.marks n ≡ Some true → slice_get e.marks n ≡ Some true
  pub work_grows : (n : ℕ) → Contains s.work n → Contains e.work n
  pub new : (n : ℕ) → slice_get e.marks n ≡ Some true → (slice_get s.marks n ≡ Some true) ⊎ (Contains places n × Contains e.work n)
  pub work_new : (n : ℕ) → Contains e.work n → Contains s.work n ⊎ (slice_get e.marks n ≡ Some true)
  pub all : (t : ℕ) → Contains places t → t < length s.marks → slice_get e.marks t ≡ Some true
  pub measure : length e.work + unset e.marks ≡ length s.work + unset s.marks

marked_is : (marks : List Bool) (t : ℕ) → get_or marks t true ≡ true → t < length marks → slice_get marks t ≡ Some true
marked_is [] t e h = absurd (omega arith)
marked_is (m ∷ marks) zero e h = ap Some e
marked_is (m ∷ marks) (suc t) e h = marked_is marks t e (omega arith)

set_marks : (marks : List Bool) (t n : ℕ) → slice_get marks n ≡ Some true → slice_get (set marks t true) n ≡ Some true
set_marks [] t n e = e
set_marks (m ∷ marks) zero zero e = refl
set_marks (m ∷ marks) zero (suc n) e = e
set_marks (m ∷ marks) (suc t) zero e = e
set_marks (m ∷ marks) (suc t) (suc n) e = set_marks marks t n e

set_at : (marks : List Bool) (t : ℕ) → get_or marks t true ≡ false → slice_get (set marks t true) t ≡ Some true
set_at [] t e = cc
set_at (m ∷ marks) zero e = refl
set_at (m ∷ marks) (suc t) e = set_at marks t e

unset_less : (marks : List Bool) (t : ℕ) → get_or marks t true ≡ false → suc (unset (set marks t true)) ≡ unset marks
unset_less [] t e = cc
unset_less (true ∷ marks) zero e = cc
unset_less (false ∷ marks) zero e = refl
unset_less (true ∷ marks) (suc t) e = unset_less marks t e
unset_less (false ∷ marks) (suc t) e = ap suc (unset_less marks t e)

Contains-one : (t n : ℕ) → Contains (t ∷ []) n → t ≡ n
Contains-one t n h = by_place (Contains-cons t n [] h)
  where
    by_place : (t ≡ n) ⊎ Contains [] n → t ≡ n
    by_place (inl e) = e
    by_place (inr c) = absurd (Contains-nil n c)

pub Contains-last : (xs : List ℕ) (x n : ℕ) → Contains (xs ++ x ∷ []) n → Contains xs n ⊎ (x ≡ n)
Contains-last [] x n h = inr (Contains-one x n h)
Contains-last (y ∷ xs) x n h = by_place (Contains-cons y n (xs ++ x ∷ []) h) (Contains-last xs x n)
  where
    by_rest : Contains xs n ⊎ (x ≡ n) → Contains (y ∷ xs) n ⊎ (x ≡ n)
    by_rest (inl c) = inl (suc c.0, (let below : c.0 < length xs = c.1 in omega arith), c.2)
    by_rest (inr e) = inr e

    by_place : (y ≡ n) ⊎ Contains (xs ++ x ∷ []) n → (Contains (xs ++ x ∷ []) n → Contains xs n ⊎ (x ≡ n)) → Contains (y ∷ xs) n ⊎ (x ≡ n)
    by_place (inl e) go = inl (0, omega arith, e)
    by_place (inr c) go = by_rest (go c)

-- one place
visit_by : (s : Search) (t : ℕ) (v : Bool) → get_or s.marks t true ≡ v →
    Spread s (t ∷ []) (cond v s (record { marks = set s.marks t true; work = s.work ++ t ∷ [] }))
visit_by s t true e = record {
  long = refl;
  grows = λ n m. m;
  work_grows = λ n c. c;
  new = λ n m. inl m;
  work_new = λ n c. inl c;
  all = λ n c below. (let same : t ≡ n = Contains-one t n c in subst (λ (x : ℕ). slice_get s.marks x ≡ Some true) same (marked_is s.marks t e (omega arith)));
  measure = refl;
}
visit_by s t false e = record {
  long = length-set s.marks t true;
  grows = λ n m. set_marks s.marks t n m;
  work_grows = λ n c. Contains-append_left s.work (t ∷ []) n c;
  new = λ n m. by_mark n (set_isset s.marks t n m);
  work_new = λ n c. by_work n (Contains-last s.work t n c);
  all = λ n c below. (let same : t ≡ n = Contains-one t n c in subst (λ (x : ℕ). slice_get (set s.marks t true) x ≡ Some true) same (set_at s.marks t e));
  measure = (let less : suc (unset (set s.marks t true)) ≡ unset s.marks = unset_less s.marks t e in
      let more : length (s.work ++ t ∷ []) ≡ length s.work + 1 = length_push s.work t in omega arith);
}
  where
    by_mark : (n : ℕ) → (t ≡ n) ⊎ (slice_get s.marks n ≡ Some true) → (slice_get s.marks n ≡ Some true) ⊎ (Contains (t ∷ []) n × Contains (s.work ++ t ∷ []) n)
    by_mark n (inl g) = inr ((0, omega arith, g), subst (λ (x : ℕ). Contains (s.work ++ t ∷ []) x) g (Contains-push s.work t))
    by_mark n (inr m) = inl m

    by_work : (n : ℕ) → Contains s.work n ⊎ (t ≡ n) → Contains s.work n ⊎ (slice_get (set s.marks t true) n ≡ Some true)
    by_work n (inl c) = inl c
    by_work n (inr g) = inr (subst (λ (x : ℕ). slice_get (set s.marks t true) x ≡ Some true) g (set_at s.marks t e))

spread_nil : (s : Search) → Spread s [] s
spread_nil s = record {
  long = refl;
  grows = λ n m. m;
  work_grows = λ n c. c;
  new = λ n m. inl m;
  work_new = λ n c. inl c;
  all = λ t c below. absurd (Contains-nil t c);
  measure = refl;
}

spread_cons : (s m e : Search) (t : ℕ) (places : List ℕ) → Spread s (t ∷ []) m → Spread m places e → Spread s (t ∷ places) e
spread_cons s m e t places h k = record {
  long = k.long ∙ h.long;
  grows = λ n x. k.grows n (h.grows n x);
  work_grows = λ n x. k.work_grows n (h.work_grows n x);
  new = λ n x. by_mark n (k.new n x);
  work_new = λ n x. by_work n (k.work_new n x);
  all = λ n c below. by_place n below (Contains-cons t n places c);
  measure = k.measure ∙ h.measure;
}
  where
    by_first : (n : ℕ) → (slice_get s.marks n ≡ Some true) ⊎ (Contains (t ∷ []) n × Contains m.work n) → (slice_get s.marks n ≡ Some true) ⊎ (Contains (t ∷ places) n × Contains e.work n)
    by_first n (inl x) = inl x
    by_first n (inr x) = inr ((0, omega arith, Contains-one t n x.0), k.work_grows n x.1)

    by_mark : (n : ℕ) → (slice_get m.marks n ≡ Some true) ⊎ (Contains places n × Contains e.work n) → (slice_get s.marks n ≡ Some true) ⊎ (Contains (t ∷ places) n × Contains e.work n)
    by_mark n (inl x) = by_first n (h.new n x)
    by_mark n (inr x) = inr ((suc x.0.0, (let below : x.0.0 < length places = x.0.1 in omega arith), x.0.2), x.1)

    by_old : (n : ℕ) → Contains s.work n ⊎ (slice_get m.marks n ≡ Some true) → Contains s.work n ⊎ (slice_get e.marks n ≡ Some true)
    by_old n (inl x) = inl x
    by_old n (inr x) = inr (k.grows n x)

    by_work : (n : ℕ) → Contains m.work n ⊎ (slice_get e.marks n ≡ Some true) → Contains s.work n ⊎ (slice_get e.marks n ≡ Some true)
    by_work n (inl x) = by_old n (h.work_new n x)
    by_work n (inr x) = inr x

    by_place : (n : ℕ) → n < length s.marks → (t ≡ n) ⊎ Contains places n → slice_get e.marks n ≡ Some true
    by_place n below (inl g) = k.grows n (h.all n (0, omega arith, g) below)
    by_place n below (inr c) = k.all n c (rw h.long below)

pub spread : (s : Search) (places : List ℕ) → Spread s places (visited_all s places)
spread s [] = spread_nil s
spread s (t ∷ places) = spread_cons s (visited s t) (visited_all (visited s t) places) t places (visit_by s t (get_or s.marks t true) refl) (spread (visited s t) places)

module _ (go : ℕ → List ℕ) (size first : ℕ) where
  -- A search that is under way.
  pub record Searching (s : Search) : Type 0 where
    pub long : length s.marks ≡ size
    pub first_marked : slice_get s.marks first ≡ Some true
    pub marked : (n : ℕ) → Contains s.work n → slice_get s.marks n ≡ Some true
    pub still : (n t : ℕ) → slice_get s.marks n ≡ Some true → Contains (go n) t → (slice_get s.marks t ≡ Some true) ⊎ Contains s.work n
    pub only : (n : ℕ) → slice_get s.marks n ≡ Some true → Found go first n

  -- it goes on from the last place of the worklist
  pub search_step : (marks : List Bool) (work : List ℕ) (x : ℕ) (e : Search) → Searching (record { marks = marks; work = work ++ x ∷ [] }) →
      All (λ t. t < size) (go x) → Spread (record { marks = marks; work = work }) (go x) e → Searching e
  search_step marks work x e h within k = record {
    long = k.long ∙ h.long;
    first_marked = k.grows first h.first_marked;
    marked = λ n c. by_work n (k.work_new n c);
    still = λ n t m c. by_mark n t c (k.new n m);
    only = λ n m. by_new n (k.new n m);
  }
    where
      here : slice_get marks x ≡ Some true
      here = h.marked x (Contains-push work x)

      by_work : (n : ℕ) → Contains work n ⊎ (slice_get e.marks n ≡ Some true) → slice_get e.marks n ≡ Some true
      by_work n (inl c) = k.grows n (h.marked n (Contains-append_left work (x ∷ []) n c))
      by_work n (inr m) = m

      by_place : (n t : ℕ) → Contains (go n) t → Contains work n ⊎ (x ≡ n) → (slice_get e.marks t ≡ Some true) ⊎ Contains e.work n
      by_place n t c (inl w) = inr (k.work_grows n w)
      by_place n t c (inr g) =
          let d : Contains (go x) t = subst (λ (y : ℕ). Contains (go y) t) (sym g) c in
          let below : t < size = subst (λ (y : ℕ). y < size) d.2 (within d.0 t d.1) in
          inl (k.all t d (rw h.long below))

      by_old : (n t : ℕ) → Contains (go n) t → (slice_get marks t ≡ Some true) ⊎ Contains (work ++ x ∷ []) n → (slice_get e.marks t ≡ Some true) ⊎ Contains e.work n
      by_old n t c (inl m) = inl (k.grows t m)
      by_old n t c (inr w) = by_place n t c (Contains-last work x n w)

      by_mark : (n t : ℕ) → Contains (go n) t → (slice_get marks n ≡ Some true) ⊎ (Contains (go x) n × Contains e.work n) → (slice_get e.marks t ≡ Some true) ⊎ Contains e.work n
      by_mark n t c (inl m) = by_old n t c (h.still n t m c)
      by_mark n t c (inr w) = inr w.1

      by_new : (n : ℕ) → (slice_get marks n ≡ Some true) ⊎ (Contains (go x) n × Contains e.work n) → Found go first n
      by_new n (inl m) = h.only n m
      by_new n (inr w) = by_go {n = x} (h.only x here) w.0

  -- it ends with an empty worklist
  pub search_end : (marks : List Bool) → Searching (record { marks = marks; work = [] }) → IsFound go size first marks
  search_end marks h = record {
    long = h.long;
    first_marked = h.first_marked;
    closed = λ n t m c. by_mark n t (h.still n t m c);
    only = h.only;
  }
    where
      by_mark : (n t : ℕ) → (slice_get marks t ≡ Some true) ⊎ Contains [] n → slice_get marks t ≡ Some true
      by_mark n t (inl m) = m
      by_mark n t (inr c) = absurd (Contains-nil n c)

no_mark : (size n : ℕ) → slice_get (replicate size false) n ≡ Some true → ⊥
no_mark zero n e = cc
no_mark (suc size) zero e = cc
no_mark (suc size) (suc n) e = no_mark size n e

module _ (go : ℕ → List ℕ) (size first : ℕ) where
  -- it begins with the first place
  pub search_start : (e : Search) → first < size → Spread (record { marks = replicate size false; work = [] }) (first ∷ []) e → Searching go size first e
  search_start e below k = record {
    long = k.long ∙ length-replicate size false;
    first_marked = k.all first (0, omega arith, refl) (rw (length-replicate size false) below);
    marked = λ n c. by_work n (k.work_new n c);
    still = λ n t m c. by_mark n t (k.new n m);
    only = λ n m. by_new n (k.new n m);
  }
    where
      by_work : (n : ℕ) → Contains [] n ⊎ (slice_get e.marks n ≡ Some true) → slice_get e.marks n ≡ Some true
      by_work n (inl c) = absurd (Contains-nil n c)
      by_work n (inr m) = m

      by_mark : (n t : ℕ) → (slice_get (replicate size false) n ≡ Some true) ⊎ (Contains (first ∷ []) n × Contains e.work n) → (slice_get e.marks t ≡ Some true) ⊎ Contains e.work n
      by_mark n t (inl m) = absurd (no_mark size n m)
      by_mark n t (inr w) = inr w.1

      by_new : (n : ℕ) → (slice_get (replicate size false) n ≡ Some true) ⊎ (Contains (first ∷ []) n × Contains e.work n) → Found go first n
      by_new n (inl m) = absurd (no_mark size n m)
      by_new n (inr w) = subst (Found go first) (Contains-one first n w.0) at_first

module _ (states : List State) (landing : List ℕ) (entry : ℕ) where
  abbrev to_lands : ℕ → List ℕ
  to_lands = lands states landing

  -- a reach that is under way
  abbrev pub Reaching : List Bool → List ℕ → Type 0
  Reaching marks work = Searching to_lands (length states) entry (record { marks = marks; work = work })

  -- the places of the worklist are those of states
  pub work_below : (marks : List Bool) (work old : List ℕ) (x : ℕ) → Reaching marks old → old ≡ work ++ x ∷ [] → x < length states
  work_below marks work old x h e =
      let m : slice_get marks x ≡ Some true = h.marked x (subst (λ (l : List ℕ). Contains l x) (sym e) (Contains-push work x)) in
      let below : x < length marks = slice_get_within marks x true m in
      rw (← h.long) below

  lands_at : (x : ℕ) (s : State) → slice_get states x ≡ Some s → to_lands x ≡ map (λ t. get_or landing t 0) (targets s.instr)
  lands_at x s e = ap (λ (o : Option State). map (λ t. get_or landing t 0) (state_targets o)) e

  get_below : (n : ℕ) (l : List ℕ) → All (λ x. x < n) l → 0 < n → (t : ℕ) → get_or l t 0 < n
  get_below n l all h t = by_place (cases_lt t (length l))
    where
      by_place : (t < length l) ⊎ (length l ≤ t) → get_or l t 0 < n
      by_place (inl below) = all t 0 below
      by_place (inr past) = rw (get_or_past l t 0 past) h

  pub reach_step : (marks marks' : List Bool) (work old work' : List ℕ) (x : ℕ) (s : State) → Reaching marks old → old ≡ work ++ x ∷ [] →
      slice_get states x ≡ Some s → All (λ n. n < length states) landing →
      record { marks = marks'; work = work' } ≡ visited_all (record { marks = marks; work = work }) (map (λ t. get_or landing t 0) (targets s.instr)) →
      Reaching marks' work' × (length work' + unset marks' < length old + unset marks)
  reach_step marks marks' work old work' x s h e there within made =
      let before : Search = record { marks = marks; work = work } in
      let done : Spread before (to_lands x) (record { marks = marks'; work = work' }) =
      subst (Spread before (to_lands x)) (sym made)
      (subst (λ (l : List ℕ). Spread before l (visited_all before (map (λ t. get_or landing t 0) (targets s.instr)))) (sym (lands_at x s there)) (spread before (map (λ t. get_or landing t 0) (targets s.instr)))) in
      let from : Reaching marks (work ++ x ∷ []) = subst (Reaching marks) e h in
      let below : x < length states = work_below marks work old x h e in
      let all : All (λ t. t < length states) (to_lands x) = All-map (λ t. t < length states) (λ t. get_or landing t 0) (leads_to states x)
      (λ k d p. get_below (length states) landing within (omega arith) (get_or (leads_to states x) k d)) in
      let longer : length old ≡ length work + 1 = ap length e ∙ length_push work x in
      let sum : length work' + unset marks' ≡ length work + unset marks = done.measure in
      (search_step to_lands (length states) entry marks work x (record { marks = marks'; work = work' }) from all done, omega arith)

  pub reach_start : (marks : List Bool) (work : List ℕ) → entry < length states →
      record { marks = marks; work = work } ≡ visited (record { marks = replicate (length states) false; work = [] }) entry → Reaching marks work
  reach_start marks work below e =
      let none : Search = record { marks = replicate (length states) false; work = [] } in
      search_start to_lands (length states) entry (record { marks = marks; work = work }) below (subst (Spread none (entry ∷ [])) (sym e) (spread none (entry ∷ [])))

  pub reach_end : (marks : List Bool) (work : List ℕ) → Reaching marks work → work ≡ [] → IsFound to_lands (length states) entry marks
  reach_end marks work h e = search_end to_lands (length states) entry marks (subst (Reaching marks) e h)
