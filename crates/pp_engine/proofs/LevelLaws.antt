-- How many moves without bytes may follow.
use Rattle.std.proofs.Common.{subst, ◌≡◌, ℕ, zero, suc, ◌-◌, ◌≤◌, ◌<◌, ◌⊎◌, inl, inr, List, [], ◌∷◌, ◌++◌, Bool, true, false, cond, refl, sym, ◌∙◌, ap, arith, length, get_or, drop, leb}
use Rattle.std.specs.Prelude.{slice_index, ◌^◌, replicate}
use Rattle.std.proofs.lemmas.List.{get_or-set_same, length-replicate}
use Rattle.std.proofs.lemmas.Bool.{leb-false, le-leb}
use Rattle.pp_event.specs.declared.item.Item.{Item}
use Rattle.pp_event.specs.Chain.{Ends}
use Rattle.pp_event.specs.Run.{Config, Turn, Goes, Asks, Rests, Stops, Oracle, Stage, RunResult, move, move_by}
use Rattle.pp_event.specs.Turns.{consumed, drained}
use Rattle.pp_event.specs.Loops.{by_taking, by_pause, LeadsTo, TakingMove, AreBytes, Reached}
use Rattle.pp_event.proofs.ChainLaws.{ends_on, ends_over}
use Rattle.pp_event.proofs.CameLaws.{moment}
use Rattle.pp_event.proofs.LoopLaws.{AreBytes-drop, reached_any, reached_first, free_on, taking_on, ends_from}
use Rattle.pp_program.specs.declared.program.Instr.{Instr}
use Rattle.pp_program.specs.declared.program.Instr.TheVariants.{Branch, Invoke, Consume, SpanOpen, SpanClose, Pause, Fail}
use Rattle.pp_program.specs.declared.program.Program.{Program}
use Rattle.pp_program.specs.States.{instr_turn, program_turn}
use Rattle.pp_program.specs.Moves.{program_moves}
use Rattle.pp_program.specs.Valid.{IsInstrAt, HasRanks}
use Rattle.pp_program.proofs.StateTurns.{program-steady, branch-rests}
use Rattle.pp_event.proofs.TurnLaws.{effect-rests}
use Rattle.pp_event.specs.Codes.{answered, effect_of}
use Rattle.pp_engine.specs.Feeds.{ReachedAll, Drains, Lies}
use Rattle.pp_engine.proofs.FitLaws.{turn_at}

bytes_of_zeros : (k i : ℕ) → get_or (replicate k 0) i 0 < 256
bytes_of_zeros zero i = omega arith
bytes_of_zeros (suc k) zero = omega arith
bytes_of_zeros (suc k) (suc i) = bytes_of_zeros k i

module _ (p : Program) (gap : ℕ) (good : HasRanks p gap) where
  -- the next moves without bytes are at most so many
  abbrev pub Leveled : Config → List ℕ → ℕ → Type 0
  Leveled d rest level = (Reached (program_moves p) d.node rest × (good.rank (get_or rest 0 0) d.node ≤ level)) ⊎ Drains p d

  low : (d : Config) (rest : List ℕ) → Reached (program_moves p) d.node rest → Leveled d rest gap
  low d rest r = inl (r, good.low (get_or rest 0 0) d.node (reached_first (program_moves p) d.node rest r))

  -- a feed begins
  pub level_first : (d : Config) (rest : List ℕ) → AreBytes rest → Lies p d → Leveled d rest gap
  level_first d rest h (inl r) = low d rest (reached_any (program_moves p) d.node rest h r)
  level_first d rest h (inr r) = inr r

  -- a consume that waits for bytes
  module _ (d : Config) (rest : List ℕ) (r : Drains p d) where
    drains_turn : program_turn p d rest ≡ cond (leb (slice_index d.values r.prop) (length rest)) (Goes (consumed d r.prop r.next (slice_index d.values r.prop)) (slice_index d.values r.prop) [])
        (Rests (drained d r.prop (slice_index d.values r.prop) (length rest)))
    drains_turn = turn_at p d rest (Consume r.prop r.next) r.instr

  drains_goes : (d e : Config) (rest : List ℕ) (r : Drains p d) (k : ℕ) (told : List Item) (b : Bool) →
      cond b (Goes (consumed d r.prop r.next (slice_index d.values r.prop)) (slice_index d.values r.prop) []) (Rests (drained d r.prop (slice_index d.values r.prop) (length rest))) ≡ Goes e k told →
      (k ≡ slice_index d.values r.prop) × (e.node ≡ r.next)
  drains_goes d e rest r k told true h =
      (let a : slice_index d.values r.prop ≡ k = cc in let same : consumed d r.prop r.next (slice_index d.values r.prop) ≡ e = cc in (sym a, sym (ap (λ (x : Config). x.node) same)))
  drains_goes d e rest r k told false h = cc

  not_asks : (b : Bool) (d e : Config) (k n code value : ℕ) (next : ℕ → Config) → cond b (Goes d k []) (Rests e) ≡ Asks code value next → ⊥
  not_asks true d e k n code value next h = cc
  not_asks false d e k n code value next h = cc

  not_stops : (b : Bool) (d e f : Config) (k code : ℕ) → cond b (Goes d k []) (Rests e) ≡ Stops code f → ⊥
  not_stops true d e f k code h = cc
  not_stops false d e f k code h = cc

  -- a free move from where a run can come to leads to a lower rank
  falls : (d : Config) (rest : List ℕ) (node level : ℕ) → AreBytes rest → Reached (program_moves p) d.node rest → good.rank (get_or rest 0 0) d.node ≤ level →
      LeadsTo (program_turn p d rest) 0 node →
      (later : ℕ) × (later < level) × (Reached (program_moves p) node rest × (good.rank (get_or rest 0 0) node ≤ later))
  falls d rest node level h r n l =
      let f = free_on (program_moves p) (program-steady p) d rest node h r l in
      let fell : good.rank (get_or rest 0 0) node < good.rank (get_or rest 0 0) d.node =
      good.table.falls (get_or rest 0 0) d.node node (reached_first (program_moves p) d.node rest r) f.1 in
      (good.rank (get_or rest 0 0) node, omega arith, (f.0, omega arith))

  -- a turn that takes no byte
  pub level_free : (d e : Config) (rest : List ℕ) (level : ℕ) (told : List Item) → Leveled d rest level → program_turn p d rest ≡ Goes e 0 told → AreBytes rest →
      (later : ℕ) × (later < level) × Leveled e rest later
  level_free d e rest level told (inl r) t h =
      let f = falls d rest e.node level h r.0 r.1 (subst (λ (x : Turn). LeadsTo x 0 e.node) (sym t) (refl, refl)) in
      (f.0, f.1, inl f.2)
  level_free d e rest level told (inr r) t h =
      let g : (0 ≡ slice_index d.values r.prop) × (e.node ≡ r.next) = drains_goes d e rest r 0 told (leb (slice_index d.values r.prop) (length rest)) (sym (drains_turn d rest r) ∙ t) in
      absurd (let m : 0 < slice_index d.values r.prop = r.more in omega (arith, g.0))

  pub level_asks : (d : Config) (rest : List ℕ) (level code value : ℕ) (next : ℕ → Config) (answer : ℕ) → Leveled d rest level → program_turn p d rest ≡ Asks code value next → answer < 2 ^ 32 → AreBytes rest →
      (later : ℕ) × (later < level) × Leveled (next answer) rest later
  level_asks d rest level code value next answer (inl r) t n h =
      let f = falls d rest (next answer).node level h r.0 r.1 (subst (λ (x : Turn). LeadsTo x 0 (next answer).node) (sym t) (refl, answer, n, refl)) in
      (f.0, f.1, inl f.2)
  level_asks d rest level code value next answer (inr r) t n h =
      absurd (not_asks (leb (slice_index d.values r.prop) (length rest)) _ _ _ 0 code value next (sym (drains_turn d rest r) ∙ t))

  -- a turn that takes bytes
  pub level_taking : (d e : Config) (rest : List ℕ) (level k : ℕ) (told : List Item) → Leveled d rest level → program_turn p d rest ≡ Goes e (suc k) told → AreBytes rest → suc k ≤ length rest →
      Leveled e (drop (suc k) rest) gap
  level_taking d e rest level k told (inl r) t h n =
      let f = taking_on (program_moves p) (program-steady p) d rest e.node k h r.0
      (subst (λ (x : Turn). LeadsTo x (suc k) e.node) (sym t) (refl, refl)) n in
      low e (drop (suc k) rest) f.1
  level_taking d e rest level k told (inr r) t h n =
      let g : (suc k ≡ slice_index d.values r.prop) × (e.node ≡ r.next) = drains_goes d e rest r (suc k) told (leb (slice_index d.values r.prop) (length rest)) (sym (drains_turn d rest r) ∙ t) in
      low e (drop (suc k) rest) (reached_any (program_moves p) e.node (drop (suc k) rest) (AreBytes-drop (suc k) rest h) (subst (ReachedAll p) (sym g.1) r.onward))

  -- a pause's next
  pub lies_paused : (d e : Config) (rest : List ℕ) (level code : ℕ) → Leveled d rest level → program_turn p d rest ≡ Stops code e → AreBytes rest → Lies p e
  lies_paused d e rest level code (inl r) t h =
      inl (λ b n. by_pause {a = get_or rest 0 0} n (reached_first (program_moves p) d.node rest r.0) (d, e, rest, code, refl, t, refl))
  lies_paused d e rest level code (inr r) t h =
      absurd (not_stops (leb (slice_index d.values r.prop) (length rest)) _ _ e _ code (sym (drains_turn d rest r) ∙ t))

  -- some consume of a byte or more
  consume_takes : (node q next k : ℕ) (d : Config) → d.node ≡ node → IsInstrAt p.states node (Consume q next) → slice_index d.values q ≡ suc k → (b : ℕ) →
      TakingMove (program_moves p) b node next
  consume_takes node q next k d n i e b =
      let bytes : List ℕ = replicate k 0 in
      let long : length (b ∷ bytes) ≡ suc k = ap suc (length-replicate k 0) in
      let at : IsInstrAt p.states d.node (Consume q next) = subst (λ (x : ℕ). IsInstrAt p.states x (Consume q next)) (sym n) i in
      let t : program_turn p d (b ∷ bytes) ≡ Goes (consumed d q next (slice_index d.values q)) (slice_index d.values q) [] =
      turn_at p d (b ∷ bytes) (Consume q next) at
      ∙ ap (λ (x : Bool). cond x (Goes (consumed d q next (slice_index d.values q)) (slice_index d.values q) []) (Rests (drained d q (slice_index d.values q) (length (b ∷ bytes)))))
      (le-leb (slice_index d.values q) (length (b ∷ bytes)) (omega arith)) in
      (k, (d, bytes, bytes_of_zeros k, n, subst (λ (x : Turn). LeadsTo x (suc k) next) (sym t) (e, refl)))

  consume_lies : (d e : Config) (rest : List ℕ) (level q next : ℕ) (b : Bool) → IsInstrAt p.states d.node (Consume q next) → AreBytes rest → Leveled d rest level →
      leb (slice_index d.values q) (length rest) ≡ b → q < length d.values →
      cond b (Goes (consumed d q next (slice_index d.values q)) (slice_index d.values q) []) (Rests (drained d q (slice_index d.values q) (length rest))) ≡ Rests e → Lies p e
  consume_lies d e rest level q next true i h l f s t = cc
  consume_lies d e rest level q next false i h l f s t =
      let v : ℕ = slice_index d.values q in
      let less : length rest < v = leb-false v (length rest) f in
      let same : drained d q v (length rest) ≡ e = cc in
      subst (Lies p) same (inr (record {
        prop = q;
        next = next;
        instr = i;
        more = subst (λ (x : ℕ). 0 < x) (sym (get_or-set_same d.values q (v - length rest) 0 s)) (omega arith);
        onward = onward l;
      }))
    where
      some : (n : ℕ) → length rest < n → (k : ℕ) × (n ≡ suc k)
      some zero h = absurd (omega arith)
      some (suc k) h = (k, refl)

      onward : Leveled d rest level → ReachedAll p next
      onward (inl r) c n =
          let k = some (slice_index d.values q) (leb-false (slice_index d.values q) (length rest) f) in
          by_taking {a = get_or rest 0 0} n (reached_first (program_moves p) d.node rest r.0) (consume_takes d.node q next k.0 d refl i k.1 (get_or rest 0 0))
      onward (inr r) c n =
          let same : Consume r.prop r.next ≡ Consume q next = cc (i.1, i.2, r.instr.1, r.instr.2) in
          let n' : r.next ≡ next = cc in
          subst (ReachedAll p) n' r.onward c n

  -- what waits can be gone on with
  pub lies_waiting : (i : Instr) (d e : Config) (rest : List ℕ) (level : ℕ) → IsInstrAt p.states d.node i → AreBytes rest → Leveled d rest level → length d.values ≡ length p.props →
      ((q next : ℕ) → i ≡ Consume q next → q < length p.props) → instr_turn i d rest ≡ Rests e → Lies p e
  lies_waiting (Branch fold stay edges other) d e rest level i h l v q t =
      let r = branch-rests d e fold stay edges other rest t in
      elim l [
        | inl a ↦ (let all : ReachedAll p d.node = subst (Reached (program_moves p) d.node) r.0 a.0 in subst (Lies p) r.1 (inl all))
        | inr a ↦ cc (i.1, i.2, a.instr.1, a.instr.2)
      ]
  lies_waiting (Invoke c answers other) d e rest level i h l v q t = absurd (effect-rests d e (answered answers other) (effect_of d.values d.carried c) t)
  lies_waiting (Consume q next) d e rest level i h l v s t =
      consume_lies d e rest level q next (leb (slice_index d.values q) (length rest)) i h l refl (omega (arith, s q next refl)) t
  lies_waiting (SpanOpen s next) d e rest level i h l v q t = cc
  lies_waiting (SpanClose s next) d e rest level i h l v q t = cc
  lies_waiting (Pause code reason next) d e rest level i h l v q t = cc
  lies_waiting (Fail code reason) d e rest level i h l v q t = cc

  module _ (oracle : Oracle) (bounded : (items : List Item) (code : ℕ) → oracle items code < 2 ^ 32) where
    drains_end : (d : Config) (rest : List ℕ) (items : List Item) (r : Drains p d) → AreBytes rest → (b : Bool) → leb (slice_index d.values r.prop) (length rest) ≡ b →
        (q : RunResult) × Ends (move (program_turn p) oracle) (moment d rest items) q
    drains_end d rest items r h true e =
        let v : ℕ = slice_index d.values r.prop in
        let next : Stage = moment (consumed d r.prop r.next v) (drop v rest) (items ++ []) in
        let t : program_turn p d rest ≡ Goes (consumed d r.prop r.next v) v [] = drains_turn d rest r ∙ ap (λ (x : Bool). cond x (Goes (consumed d r.prop r.next v) v []) (Rests (drained d r.prop v (length rest)))) e in
        let q = ends_from (program_moves p) good.rank good.table (program-steady p) oracle bounded next (AreBytes-drop v rest h)
        (reached_any (program_moves p) r.next (drop v rest) (AreBytes-drop v rest h) r.onward) in
        (q.0, ends_on (move (program_turn p) oracle) (moment d rest items) next q.0 (ap (move_by oracle (moment d rest items)) t) q.1)
    drains_end d rest items r h false e =
        let v : ℕ = slice_index d.values r.prop in
        let t : program_turn p d rest ≡ Rests (drained d r.prop v (length rest)) = drains_turn d rest r ∙ ap (λ (x : Bool). cond x (Goes (consumed d r.prop r.next v) v []) (Rests (drained d r.prop v (length rest)))) e in
        (_, ends_over (move (program_turn p) oracle) (moment d rest items) _ (ap (move_by oracle (moment d rest items)) t))

    -- from where it lies a run ends
    pub run_exists : (d : Config) (rest : List ℕ) (level : ℕ) (items : List Item) → AreBytes rest → Leveled d rest level →
        (q : RunResult) × Ends (move (program_turn p) oracle) (moment d rest items) q
    run_exists d rest level items h (inl r) = ends_from (program_moves p) good.rank good.table (program-steady p) oracle bounded (moment d rest items) h r.0
    run_exists d rest level items h (inr r) = drains_end d rest items r h (leb (slice_index d.values r.prop) (length rest)) refl
