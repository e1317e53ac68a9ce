-- A rank table shows that there is no loop, and which gap there is. Without a loop a run comes to no node twice at one place.
use Rattle.std.proofs.Common.{subst, ◌≡◌, ℕ, zero, suc, ◌+◌, ◌≤◌, ◌<◌, List, [], ◌∷◌, ◌++◌, refl, sym, ◌∙◌, ap, arith, length, drop, inl, inr, ◌⊎◌}
use Rattle.std.proofs.Common.{get_or}
use Rattle.std.proofs.lemmas.List.{get_or-drop, length-drop}
use Rattle.std.specs.Prelude.{◌^◌, ◌-◌, map}
use Rattle.std.specs.List.{Contains}
use Rattle.pp_event.specs.declared.item.Item.{Item}
use Rattle.pp_event.specs.declared.item.Item.TheVariants.{Call, Pause}
use Rattle.pp_event.specs.Chain.{Move, On, Over, Ends, stages, then_list}
use Rattle.pp_event.specs.Run.{Config, Turn, Goes, Asks, Rests, Stops, Fails, Oracle, Stage, RunResult, move, move_by, pass}
use Rattle.pp_event.specs.Steady.{Keeps, IsSteady, Placed, IsPlaced}
use Rattle.pp_event.proofs.ChainLaws.{Gives, ends_by}
use Rattle.pp_event.proofs.OnceLemmas.{Contains_head, Contains_nothing}
use Rattle.pp_event.specs.Loops.{Moves, FreeMove, Reaches, at_entry, by_free, by_taking, FreeWay, stay, onward, LoopFree, IsGap, IsRankTable, LeadsTo, AreBytes, Reached, stand, NoneTwice}

module _ (m : Moves) (rank : ℕ → ℕ → ℕ) (table : IsRankTable m rank) where
  -- a way falls by its length at least
  way_falls : {b node n end : ℕ} → Reaches m b node → FreeWay m b node n end → rank b end + n ≤ rank b node
  way_falls r stay = omega arith
  way_falls {b} {node} r (onward {next = next} {end = end} {n = n} f w) =
      let rest : rank b end + n ≤ rank b next = way_falls (by_free r f) w in
      let first : rank b next < rank b node = table.falls b node next r f in
      omega arith

  pub loop_free : LoopFree m
  loop_free b node n r w = let fell : rank b node + suc n ≤ rank b node = way_falls r w in omega arith

  -- from each node there is a way as long as its rank
  way_of : (k b node : ℕ) → Reaches m b node → rank b node ≡ k → (end : ℕ) × FreeWay m b node k end
  way_of zero b node r e = (node, stay)
  way_of (suc k) b node r e =
      let next : (next : ℕ) × FreeMove m b node next × (rank b node ≡ suc (rank b next)) = table.tight b node r (omega arith) in
      let rest : (end : ℕ) × FreeWay m b next.0 k end = way_of k b next.0 (by_free r next.1) (omega (arith, next.2, e)) in
      (rest.0, onward {end = rest.0} next.1 rest.1)

  pub gap_of : (gap b node : ℕ) → ((b node : ℕ) → Reaches m b node → rank b node ≤ gap) → Reaches m b node → rank b node ≡ gap → IsGap m gap
  gap_of gap b node most r e = record {
    most = λ b' node' n end r' w. (let fell : rank b' end + n ≤ rank b' node' = way_falls r' w in let up : rank b' node' ≤ gap = most b' node' r' in omega arith);
    met = (let way : (end : ℕ) × FreeWay m b node gap end = way_of gap b node r e in (b, node, way.0, r, way.1));
  }

-- what is kept leads where it led
keeps_leads : (n k next : ℕ) (t u : Turn) → Keeps n t u → LeadsTo t k next → LeadsTo u k next
keeps_leads n k next (Goes d j items) u h l = subst (λ (v : Turn). LeadsTo v k next) (sym h.1) l
keeps_leads n k next (Asks code value go) u h l = subst (λ (v : Turn). LeadsTo v k next) (sym h) l
keeps_leads n k next (Rests d) u h l = absurd l
keeps_leads n k next (Stops code d) u h l = subst (λ (v : Turn). LeadsTo v k next) (sym h) l
keeps_leads n k next (Fails code) u h l = absurd l

pub AreBytes-drop : (k : ℕ) (bytes : List ℕ) → AreBytes bytes → AreBytes (drop k bytes)
AreBytes-drop k bytes h i = rw get_or-drop (h (k + i))

-- with whatever byte next
pub reached_any : (m : Moves) (node : ℕ) (rest : List ℕ) → AreBytes rest → ((b : ℕ) → b < 256 → Reaches m b node) → Reached m node rest
reached_any m node [] h r = r
reached_any m node (b ∷ bytes) h r = r b (h 0)

-- with the byte that comes first, or at the end with any
pub reached_first : (m : Moves) (node : ℕ) (rest : List ℕ) → Reached m node rest → Reaches m (get_or rest 0 0) node
reached_first m node [] r = r 0 (omega arith)
reached_first m node (b ∷ bytes) r = r

module _ (m : Moves) (steady : IsSteady m.turn) where
  -- a turn that takes no byte is a free move, and what it leads to can be come to
  pub free_on : (c : Config) (rest : List ℕ) (next : ℕ) → AreBytes rest → Reached m c.node rest → LeadsTo (m.turn c rest) 0 next →
      Reached m next rest × FreeMove m (get_or rest 0 0) c.node next
  free_on c [] next h r l =
      let leads : (b : ℕ) → LeadsTo (m.turn c (b ∷ [])) 0 next =
      λ b. keeps_leads 0 0 next (m.turn c []) (m.turn c (b ∷ [])) (steady c [] (b ∷ [])) l in
      ((λ b p. by_free (r b p) (inl (c, [], h, refl, leads b))), inl (c, [], h, refl, leads 0))
  free_on c (b ∷ bytes) next h r l =
      let f : FreeMove m b c.node next = inl (c, bytes, AreBytes-drop 1 (b ∷ bytes) h, refl, l) in
      (by_free r f, f)

  -- so can what a turn that takes bytes leads to
  pub taking_on : (c : Config) (rest : List ℕ) (next k : ℕ) → AreBytes rest → Reached m c.node rest → LeadsTo (m.turn c rest) (suc k) next → suc k ≤ length rest →
      (length (drop (suc k) rest) < length rest) × Reached m next (drop (suc k) rest)
  taking_on c [] next k h r l n = absurd (omega arith)
  taking_on c (b ∷ bytes) next k h r l n =
      let shorter : length (drop k bytes) ≡ length bytes - k = length-drop k bytes in (
        omega arith,
        reached_any m next (drop k bytes) (AreBytes-drop (suc k) (b ∷ bytes) h) (λ a p. by_taking p r (k, (c, bytes, AreBytes-drop 1 (b ∷ bytes) h, refl, l))),
      )

module _ (m : Moves) (rank : ℕ → ℕ → ℕ) (table : IsRankTable m rank) (steady : IsSteady m.turn) (oracle : Oracle) (bounded : (items : List Item) (code : ℕ) → oracle items code < 2 ^ 32) where
  -- a turn that takes no byte leads to a lower rank
  falls_on : (c : Config) (rest : List ℕ) (next : ℕ) → AreBytes rest → Reached m c.node rest → LeadsTo (m.turn c rest) 0 next →
      Reached m next rest × (rank (get_or rest 0 0) next < rank (get_or rest 0 0) c.node)
  falls_on c rest next h r l =
      let f = free_on m steady c rest next h r l in
      (f.0, table.falls (get_or rest 0 0) c.node next (reached_first m c.node rest r) f.1)

  -- a stage from which the run ends, in fewer bytes or at a lower rank
  abbrev pub Falls : Stage → Stage → Type 0
  Falls s d = AreBytes d.rest × Reached m d.config.node d.rest
      × ((length d.rest < length s.rest) ⊎ ((length d.rest ≡ length s.rest) × (rank (get_or d.rest 0 0) d.config.node < rank (get_or s.rest 0 0) s.config.node)))

  abbrev pub Progress : Stage → Move Stage RunResult → Type 0
  Progress s (Over r) = Unit {0}
  Progress s (On d) = Falls s d

  pass_on : (s : Stage) (code : ℕ) (d : Config) (n : ℕ) → AreBytes s.rest → Reached m d.node s.rest × (rank (get_or s.rest 0 0) d.node < rank (get_or s.rest 0 0) s.config.node) →
      Progress s (pass s code d n)
  pass_on s code d zero h f = tt
  pass_on s code d (suc n) h f = (h, f.0, inr (refl, f.1))

  goes_on : (s : Stage) (d : Config) (k : ℕ) (items : List Item) → AreBytes s.rest → Reached m s.config.node s.rest → m.turn s.config s.rest ≡ Goes d k items → k ≤ length s.rest →
      Progress s (move_by oracle s (Goes d k items))
  goes_on s d zero items h r e n =
      let f = falls_on s.config s.rest d.node h r (subst (λ (t : Turn). LeadsTo t 0 d.node) (sym e) (refl, refl)) in
      (h, f.0, inr (refl, f.1))
  goes_on s d (suc k) items h r e n =
      let f = taking_on m steady s.config s.rest d.node k h r (subst (λ (t : Turn). LeadsTo t (suc k) d.node) (sym e) (refl, refl)) n in
      (AreBytes-drop (suc k) s.rest h, f.1, inl f.0)

  progress_by : (s : Stage) (t : Turn) → AreBytes s.rest → Reached m s.config.node s.rest → m.turn s.config s.rest ≡ t → Keeps (length s.rest) t (m.turn s.config (s.rest ++ [])) →
      Progress s (move_by oracle s t)
  progress_by s (Goes d k items) h r e p = goes_on s d k items h r e p.0
  progress_by s (Asks code value next) h r e p =
      let f = falls_on s.config s.rest (next (oracle s.items code)).node h r (subst (λ (t : Turn). LeadsTo t 0 (next (oracle s.items code)).node) (sym e) (refl, oracle s.items code, bounded s.items code, refl)) in
      (h, f.0, inr (refl, f.1))
  progress_by s (Rests d) h r e p = tt
  progress_by s (Stops code d) h r e p =
      pass_on s code d s.resumes h (falls_on s.config s.rest d.node h r (subst (λ (t : Turn). LeadsTo t 0 d.node) (sym e) (refl, refl)))
  progress_by s (Fails code) h r e p = tt

  pub progress : (s : Stage) → AreBytes s.rest → Reached m s.config.node s.rest → Progress s (move m.turn oracle s)
  progress s h r = progress_by s (m.turn s.config s.rest) h r refl (steady s.config s.rest [])

  abbrev pub Ended : Stage → Type 0
  Ended s = (q : RunResult) × Ends (move m.turn oracle) s q

  pub ended_by : (s : Stage) (v : Move Stage RunResult) → move m.turn oracle s ≡ v → Progress s v → ((d : Stage) → Falls s d → Ended d) → Ended s
  ended_by s (Over q) e p go = (q, ends_by (move m.turn oracle) s q (subst (λ (v : Move Stage RunResult). Gives (move m.turn oracle) v q) (sym e) refl))
  ended_by s (On d) e p go =
      let q = go d p in
      (q.0, ends_by (move m.turn oracle) s q.0 (subst (λ (v : Move Stage RunResult). Gives (move m.turn oracle) v q.0) (sym e) q.1))

  -- a run ends within these bytes and this rank, if runs in fewer bytes end
  ends_within_rank : (l : ℕ) → ((s : Stage) → length s.rest < l → AreBytes s.rest → Reached m s.config.node s.rest → Ended s) →
      (k : ℕ) (s : Stage) → length s.rest ≤ l → rank (get_or s.rest 0 0) s.config.node < k → AreBytes s.rest → Reached m s.config.node s.rest → Ended s
  ends_within_rank l fewer zero s n f h r = absurd (omega arith)
  ends_within_rank l fewer (suc k) s n f h r =
      ended_by s (move m.turn oracle s) refl (progress s h r)
      (λ d fall. elim fall.2 [
        | inl short ↦ fewer d (omega arith) fall.0 fall.1
        | inr same ↦ ends_within_rank l fewer k d (omega (arith, same.0)) (omega (arith, same.1)) fall.0 fall.1
      ])

  pub ends_within : (l : ℕ) (s : Stage) → length s.rest < l → AreBytes s.rest → Reached m s.config.node s.rest → Ended s
  ends_within zero s n h r = absurd (omega arith)
  ends_within (suc l) s n h r = ends_within_rank l (ends_within l) (suc (rank (get_or s.rest 0 0) s.config.node)) s (omega arith) (omega arith) h r

  -- each run from where it can be come to ends
  pub ends_from : (s : Stage) → AreBytes s.rest → Reached m s.config.node s.rest → Ended s
  ends_from s h r = ends_within (suc (length s.rest)) s (omega arith) h r

  -- each run from the entry ends
  pub run_ends : (c : Config) (bytes : List ℕ) (resumes : ℕ) → c.node ≡ m.entry → AreBytes bytes →
      (q : RunResult) × Ends (move m.turn oracle) (record { config = c; rest = bytes; items = []; resumes = resumes }) q
  run_ends c bytes resumes e h =
      ends_within (suc (length bytes)) (record { config = c; rest = bytes; items = []; resumes = resumes }) (omega arith) h
      (subst (λ (n : ℕ). Reached m n bytes) (sym e) (reached_any m m.entry bytes h (λ b p. at_entry p)))

-- ways in a row
pub way_more : {m : Moves} {b node mid end i j : ℕ} → FreeWay m b node i mid → FreeWay m b mid j end → FreeWay m b node (i + j) end
way_more {m} {b} {node} {mid} {end} {j = j} stay w = (let e : j ≡ zero + j = omega arith in subst (λ (n : ℕ). FreeWay m b node n end) e w)
way_more {m} {b} {node} {mid} {end} {j = j} (onward {n = n} f v) w =
    let e : suc (n + j) ≡ suc n + j = omega arith in
    subst (λ (k : ℕ). FreeWay m b node k end) e (onward f (way_more v w))

-- a run of a machine without a loop
module _ (m : Moves) (free : LoopFree m) (steady : IsSteady m.turn) (placed : IsPlaced m.turn) (oracle : Oracle) (bounded : (items : List Item) (code : ℕ) → oracle items code < 2 ^ 32) where
  -- a later stage: at a later place, or at the same behind free moves
  abbrev Later : Stage → Stage → Type 0
  Later s d = AreBytes d.rest × Reached m d.config.node d.rest
      × ((s.config.at < d.config.at) ⊎ ((d.config.at ≡ s.config.at) × (d.rest ≡ s.rest) × (n : ℕ) × FreeWay m (get_or s.rest 0 0) s.config.node (suc n) d.config.node))

  abbrev LaterMove : Stage → Move Stage RunResult → Type 0
  LaterMove s (Over r) = Unit {0}
  LaterMove s (On d) = Later s d

  later_free : (s : Stage) (d : Config) (items : List Item) (n : ℕ) → d.at ≡ s.config.at → AreBytes s.rest → Reached m s.config.node s.rest → LeadsTo (m.turn s.config s.rest) 0 d.node →
      Later s (record { config = d; rest = s.rest; items = items; resumes = n })
  later_free s d items n p h r l =
      let f = free_on m steady s.config s.rest d.node h r l in
      (h, f.0, inr (p, refl, zero, onward f.1 stay))

  later_pass : (s : Stage) (code : ℕ) (d : Config) (n : ℕ) → d.at ≡ s.config.at → AreBytes s.rest → Reached m s.config.node s.rest → LeadsTo (m.turn s.config s.rest) 0 d.node → LaterMove s (pass s code d n)
  later_pass s code d zero p h r l = tt
  later_pass s code d (suc n) p h r l = later_free s d (s.items ++ Pause code s.config.at ∷ []) n p h r l

  later_goes : (s : Stage) (d : Config) (k : ℕ) (items : List Item) → d.at ≡ s.config.at + k → AreBytes s.rest → Reached m s.config.node s.rest → m.turn s.config s.rest ≡ Goes d k items → k ≤ length s.rest →
      LaterMove s (move_by oracle s (Goes d k items))
  later_goes s d zero items p h r e n =
      later_free s d (s.items ++ items) s.resumes (omega (arith, p)) h r (subst (λ (t : Turn). LeadsTo t 0 d.node) (sym e) (refl, refl))
  later_goes s d (suc k) items p h r e n =
      let f = taking_on m steady s.config s.rest d.node k h r (subst (λ (t : Turn). LeadsTo t (suc k) d.node) (sym e) (refl, refl)) n in
      (AreBytes-drop (suc k) s.rest h, f.1, inl (omega (arith, p)))

  later_by : (s : Stage) (t : Turn) → AreBytes s.rest → Reached m s.config.node s.rest → m.turn s.config s.rest ≡ t → Keeps (length s.rest) t (m.turn s.config (s.rest ++ [])) → Placed s.config (length s.rest) t →
      LaterMove s (move_by oracle s t)
  later_by s (Goes d k items) h r e kept p = later_goes s d k items p h r e kept.0
  later_by s (Asks code value next) h r e kept p =
      later_free s (next (oracle s.items code)) (s.items ++ Call code value s.config.at s.config.values (oracle s.items code) ∷ []) s.resumes (p (oracle s.items code)) h r
      (subst (λ (t : Turn). LeadsTo t 0 (next (oracle s.items code)).node) (sym e) (refl, oracle s.items code, bounded s.items code, refl))
  later_by s (Rests d) h r e kept p = tt
  later_by s (Stops code d) h r e kept p = later_pass s code d s.resumes p h r (subst (λ (t : Turn). LeadsTo t 0 d.node) (sym e) (refl, refl))
  later_by s (Fails code) h r e kept p = tt

  later_move : (s : Stage) → AreBytes s.rest → Reached m s.config.node s.rest → LaterMove s (move m.turn oracle s)
  later_move s h r = later_by s (m.turn s.config s.rest) h r refl (steady s.config s.rest []) (placed s.config s.rest)

  -- the free moves to one stage, and from there
  ways : (s d e : Stage) (i j : ℕ) → d.rest ≡ s.rest → FreeWay m (get_or s.rest 0 0) s.config.node (suc i) d.config.node →
      FreeWay m (get_or d.rest 0 0) d.config.node (suc j) e.config.node → FreeWay m (get_or s.rest 0 0) s.config.node (suc (i + suc j)) e.config.node
  ways s d e i j same v w =
      let longer : suc i + suc j ≡ suc (i + suc j) = omega arith in
      subst (λ (n : ℕ). FreeWay m (get_or s.rest 0 0) s.config.node n e.config.node) longer
      (way_more v (subst (λ (l : List ℕ). FreeWay m (get_or l 0 0) d.config.node (suc j) e.config.node) same w))

  later_trans : (s d e : Stage) → Later s d → Later d e → Later s e
  later_trans s d e p q = (
    q.0,
    q.1,
    elim p.2 [
      | inl a ↦ inl (elim q.2 [ inl b ↦ omega arith | inr b ↦ omega (arith, b.0) ])
      | inr a ↦ elim q.2 [
        | inl b ↦ inl (omega (arith, a.0))
        | inr b ↦ inr (b.0 ∙ a.0, b.1 ∙ a.1, a.2 + suc b.2, ways s d e a.2 b.2 a.1 a.3 b.3)
      ]
    ],
  )

  later_differs : (s d : Stage) → Reached m s.config.node s.rest → Later s d → stand d ≡ stand s → ⊥
  later_differs s d r p e =
      let at : d.config.at ≡ s.config.at = ap (λ (x : ℕ × ℕ). x.1) e in
      let node : d.config.node ≡ s.config.node = ap (λ (x : ℕ × ℕ). x.0) e in
      elim p.2 [
        | inl a ↦ omega (arith, at)
        | inr a ↦ free (get_or s.rest 0 0) s.config.node a.2 (reached_first m s.config.node s.rest r)
            (subst (λ (x : ℕ). FreeWay m (get_or s.rest 0 0) s.config.node (suc a.2) x) node a.3)
      ]

  not_later : (n : ℕ) (s d : Stage) → Reached m s.config.node s.rest → Later s d → Contains (map stand (stages (move m.turn oracle) n d)) (stand s) → ⊥
  not_later zero s d r p c = Contains_nothing (stand s) c
  not_later (suc n) s d r p c =
      elim (Contains_head (stand d) (map stand (then_list (stages (move m.turn oracle) n) (move m.turn oracle d))) (stand s) c) [
        | inl e ↦ later_differs s d r p e
        | inr b ↦ not_later_then (stages (move m.turn oracle) n) s d p (λ e q. not_later n s e r q) (move m.turn oracle d) (later_move d p.0 p.1) b
      ]
    where
      not_later_then : (f : Stage → List Stage) (s d : Stage) → Later s d → ((e : Stage) → Later s e → Contains (map stand (f e)) (stand s) → ⊥) →
          (v : Move Stage RunResult) → LaterMove d v → Contains (map stand (then_list f v)) (stand s) → ⊥
      not_later_then f s d p go (On e) q c = go e (later_trans s d e p q) c
      not_later_then f s d p go (Over r) q c = Contains_nothing (stand s) c

  none_twice_from : (n : ℕ) (s : Stage) → AreBytes s.rest → Reached m s.config.node s.rest → NoneTwice (map stand (stages (move m.turn oracle) n s))
  none_twice_from zero s h r = tt
  none_twice_from (suc n) s h r =
      none_then (move m.turn oracle s) (later_move s h r) (λ d q. (not_later n s d r q, none_twice_from n d q.0 q.1))
    where
      none_then : (v : Move Stage RunResult) → LaterMove s v → ((d : Stage) → Later s d → (Contains (map stand (stages (move m.turn oracle) n d)) (stand s) → ⊥) × NoneTwice (map stand (stages (move m.turn oracle) n d))) →
          NoneTwice (stand s ∷ map stand (then_list (stages (move m.turn oracle) n) v))
      none_then (On d) q go = go d q
      none_then (Over x) q go = (Contains_nothing (stand s), tt)

  -- a run comes to no node twice at one place
  pub none_twice : (n : ℕ) (c : Config) (bytes : List ℕ) (resumes : ℕ) → c.node ≡ m.entry → AreBytes bytes →
      NoneTwice (map stand (stages (move m.turn oracle) n (record { config = c; rest = bytes; items = []; resumes = resumes })))
  none_twice n c bytes resumes e h =
      none_twice_from n (record { config = c; rest = bytes; items = []; resumes = resumes }) h
      (subst (λ (x : ℕ). Reached m x bytes) (sym e) (reached_any m m.entry bytes h (λ b p. at_entry p)))
