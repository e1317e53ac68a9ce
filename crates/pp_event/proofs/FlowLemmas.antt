-- What is judged of a flow is so of a machine whose moves the flow has.
use Rattle.std.proofs.Common.{subst, ◌≡◌, ◌↔◌, ℕ, suc, ◌-◌, ◌≤◌, ◌<◌, ◌⊎◌, List, Bool, true, false, refl, sym, arith, length, inl, inr, leb, slice_index}
use Rattle.std.proofs.lemmas.Bool.{leb-true, leb-false}
use Rattle.pp_flow.specs.Chart.{Chart}
use Rattle.pp_flow.specs.Flow as flow
use Rattle.pp_flow.specs.Loops as judged
use Rattle.pp_event.specs.Loops.{Moves, FreeMove, TakingMove, PauseMove, Reaches, at_entry, by_free, by_taking, by_pause, FreeWay, stay, onward, LoopFree, IsOnCycle, IsLeastLoop, IsGap, IsRankTable}

-- the next byte is one
pub reached-byte : (m : Moves) {b node : ℕ} → Reaches m b node → b < 256
reached-byte m (at_entry h) = h
reached-byte m (by_free r f) = reached-byte m r
reached-byte m (by_taking h r t) = h
reached-byte m (by_pause h r p) = h

reachable-byte : (c : Chart) {b node : ℕ} → flow.IsReachable c.moves c.entry b node → b < 256
reachable-byte c (flow.at_entry h) = h
reachable-byte c (flow.by_free r f) = reachable-byte c r
reachable-byte c (flow.by_onward h r t) = h

-- A flow has the entry of a machine, and at each byte its moves: those that take no byte, and those behind which any byte
-- may come.
pub record HasMoves (m : Moves) (c : Chart) : Type 0 where
  pub entry : c.entry ≡ m.entry
  pub free : (b node next : ℕ) → b < 256 → flow.IsFree c.moves b node next ↔ FreeMove m b node next
  pub onward : (b node next : ℕ) → b < 256 → flow.IsOnward c.moves b node next ↔ (TakingMove m b node next ⊎ PauseMove m node next)

-- numbers for the pairs of nodes and bytes, nowhere above the gap
abbrev pub HasTable : Moves → ℕ → Type 0
HasTable m gap = (rank : ℕ → ℕ → ℕ) × IsRankTable m rank × ((b node : ℕ) → Reaches m b node → rank b node ≤ gap)

module _ (m : Moves) (c : Chart) (has : HasMoves m c) where
  abbrev Comes : ℕ → ℕ → Type 0
  Comes b node = flow.IsReachable c.moves c.entry b node

  pub reach-there : {b node : ℕ} → Reaches m b node → Comes b node
  reach-there {b} (at_entry h) = subst (λ n. Comes b n) has.entry (flow.at_entry h)
  reach-there (by_free {b} {node} {next} r f) = flow.by_free (reach-there r) ((has.free b node next (reached-byte m r)).1 f)
  reach-there (by_taking {a} {b} {node} {next} h r t) = flow.by_onward h (reach-there r) ((has.onward a node next (reached-byte m r)).1 (inl t))
  reach-there (by_pause {a} {b} {node} {next} h r p) = flow.by_onward h (reach-there r) ((has.onward a node next (reached-byte m r)).1 (inr p))

  pub reach-here : {b node : ℕ} → Comes b node → Reaches m b node
  reach-here {b} (flow.at_entry h) = subst (λ n. Reaches m b n) (sym has.entry) (at_entry h)
  reach-here (flow.by_free {b} {node} {next} r f) = by_free (reach-here r) ((has.free b node next (reachable-byte c r)).0 f)
  reach-here (flow.by_onward {a} {b} {node} {next} h r t) = either (reach-here r) ((has.onward a node next (reachable-byte c r)).0 t)
    where
      either : Reaches m a node → TakingMove m a node next ⊎ PauseMove m node next → Reaches m b next
      either r (inl t) = by_taking h r t
      either r (inr p) = by_pause h r p

  pub way-there : {b node n end : ℕ} → b < 256 → FreeWay m b node n end → flow.FreeWay c.moves b node n end
  way-there h stay = flow.stay
  way-there {b} {node} h (onward {next = next} {end = end} {n = n} f w) = flow.onward ((has.free b node next h).1 f) (way-there h w)

  pub way-here : {b node n end : ℕ} → b < 256 → flow.FreeWay c.moves b node n end → FreeWay m b node n end
  way-here h flow.stay = stay
  way-here {b} {node} h (flow.onward {next = next} {end = end} {n = n} f w) = onward ((has.free b node next h).0 f) (way-here h w)

  -- the same cycles
  pub cycle-there : (b node : ℕ) → IsOnCycle m b node → flow.IsOnCycle c.moves c.entry b node
  cycle-there b node cycle = record { reachable = reach-there cycle.reached; size = cycle.size; way = way-there (reached-byte m cycle.reached) cycle.way }

  pub cycle-here : (b node : ℕ) → flow.IsOnCycle c.moves c.entry b node → IsOnCycle m b node
  cycle-here b node cycle = record { reached = reach-here cycle.reachable; size = cycle.size; way = way-here (reachable-byte c cycle.reachable) cycle.way }

  -- no loop
  pub loop-free : flow.IsLoopFree c.moves c.entry → LoopFree m
  loop-free h b node n r w = h b node (record { reachable = reach-there r; size = n; way = way-there (reached-byte m r) w })

  -- the same gap
  pub same-gap : (gap : ℕ) → flow.IsGap c.moves c.entry gap → IsGap m gap
  same-gap gap h = record {
    most = λ b node n end r w. h.most b node n end (reach-there r) (way-there (reached-byte m r) w);
    met = (let e = h.met in (e.0, e.1, e.2, reach-here e.3, way-here (reachable-byte c e.3) e.4));
  }

  -- the same least loop
  pub same-loop : (byte : ℕ) (cycle : List ℕ) → judged.IsLeastLoop c.moves c.entry byte cycle → IsLeastLoop m byte cycle
  same-loop byte cycle h = record {
    in_bytes = h.in_bytes;
    round = record {
      some = h.round.some;
      links = λ i low. (has.free byte (slice_index cycle i) (slice_index cycle (suc i)) h.in_bytes).0 (h.round.links i low);
      closes = (has.free byte (slice_index cycle (length cycle - 1)) (slice_index cycle 0) h.in_bytes).0 h.round.closes;
    };
    reached = reach-here h.reachable;
    least_byte = λ a node low on. h.least_byte a node low (cycle-there a node on);
    least_node = λ node low on. h.least_point node low (cycle-there byte node on);
  }

  abbrev Ranked : ℕ → ℕ → Type 0
  Ranked gap b = (rank : ℕ → ℕ) × (b < 256 → flow.IsRanking c.moves c.entry b rank × ((node : ℕ) → Comes b node → rank node ≤ gap))

  pick : (gap : ℕ) → judged.HasRanks c.moves c.entry gap → (b : ℕ) → Ranked gap b
  pick gap h b = by (leb 256 b) refl
    where
      by : (t : Bool) → leb 256 b ≡ t → Ranked gap b
      by true e = ((λ node. 0), (λ low. (let up : 256 ≤ b = leb-true 256 b e in absurd (omega (arith, low, up)))))
      by false e = (let q = h b (leb-false 256 b e) in (q.0, (λ low. (q.1, q.2))))

  -- a ranking at each byte, as one table
  pub ranks : (gap : ℕ) → judged.HasRanks c.moves c.entry gap → HasTable m gap
  ranks gap h = (
    (λ b. (pick gap h b).0),
    record {
      falls = λ b node next r f. ((pick gap h b).1 (reached-byte m r)).0.falls node next (reach-there r) ((has.free b node next (reached-byte m r)).1 f);
      tight = λ b node r more.
          (let q = ((pick gap h b).1 (reached-byte m r)).0.tight node (reach-there r) more in
          (q.0, (has.free b node q.0 (reached-byte m r)).0 q.1, q.2));
    },
    (λ b node r. ((pick gap h b).1 (reached-byte m r)).1 node (reach-there r)),
  )
