-- A program that goes where another one goes, by fewer free moves, has no loop where that one has none.
use Rattle.std.proofs.Common.{subst, ◌≡◌, ℕ, zero, suc, ◌+◌, ◌≤◌, ◌<◌, ◌^◌, List, ◌∷◌, refl, sym, ◌∙◌, ap, arith, inl, inr, zero-le}
use Rattle.std.specs.Prelude.{slice_get}
use Rattle.pp_program.specs.declared.program.Program.{Program}
use Rattle.pp_program.specs.States.{program_turn}
use Rattle.pp_program.specs.Moves.{AnswerEdge, program_moves, IsLoopFree}
use Rattle.pp_event.specs.Run.{Config, Turn, Goes, Asks, Rests, Stops, Fails}
use Rattle.pp_event.specs.Simulates.{Bond, Mirrors}
use Rattle.pp_event.specs.Loops.{LeadsTo, Leads, Moves, FreeMove, Reaches, at_entry, by_free, by_taking, by_pause, FreeWay, stay, onward}
use Rattle.pp_event.proofs.LoopLaws.{way_more}
use Rattle.pp_event.proofs.MirrorLaws.{stand_at}
use Rattle.pp_clean.proofs.RenameLaws.{beside}

-- The place x of the first program has the number f x in the second, and P holds of each place that a move leads to.
module _ (f : ℕ → ℕ) (P : ℕ → Type 0) where
  abbrev pub numbered : Bond
  numbered = beside f (λ n k. P n) (λ c d. Unit {0})

  -- where the second turn leads, the first one leads, to the place that has this number
  leads_back : (c d : Config) (k y : ℕ) (t u : Turn) → Mirrors numbered c d t u → LeadsTo u k y → (z : ℕ) × LeadsTo t k z × (f z ≡ y) × P z
  leads_back c d k y (Goes e i items) u a l =
      let m : (i ≡ k) × (a.0.node ≡ y) = subst (λ (x : Turn). LeadsTo x k y) a.1 l in
      (e.node, (m.0, refl), ap (λ (x : Config). x.node) a.2.0 ∙ m.1, a.2.1)
  leads_back c d k y (Asks code value next) u a l =
      let m : (k ≡ 0) × (answer : ℕ) × (answer < 2 ^ 32) × ((a.0 answer).node ≡ y) = subst (λ (x : Turn). LeadsTo x k y) a.1 l in
      ((next m.1).node, (m.0, m.1, m.2, refl), ap (λ (x : Config). x.node) (a.4 m.1).0 ∙ m.3, (a.4 m.1).1)
  leads_back c d k y (Rests e) u a l = absurd (subst (λ (x : Turn). LeadsTo x k y) a.1 l)
  leads_back c d k y (Stops code e) u a l =
      let m : (k ≡ 0) × (a.0.node ≡ y) = subst (λ (x : Turn). LeadsTo x k y) a.1 l in
      (e.node, (m.0, refl), ap (λ (x : Config). x.node) a.4.0 ∙ m.1, a.4.1)
  leads_back c d k y (Fails code) u a l = absurd (subst (λ (x : Turn). LeadsTo x k y) a.0 l)

  -- where the second turn is a pause, the first one is
  stops_back : (c d e : Config) (code : ℕ) (t u : Turn) → Mirrors numbered c d t u → u ≡ Stops code e → (x : Config) × (t ≡ Stops code x) × (f x.node ≡ e.node) × P x.node
  stops_back c d e code (Goes x i items) u a l = let s = a.1 in cc
  stops_back c d e code (Asks host value next) u a l = let s = a.1 in cc
  stops_back c d e code (Rests x) u a l = let s = a.1 in cc
  stops_back c d e code (Stops host x) u a l =
      let same : Stops host a.0 ≡ Stops code e = sym a.1 ∙ l in
      let code_is : host ≡ code = cc in
      let next_is : a.0 ≡ e = cc in
      (x, ap (λ (n : ℕ). Stops n x) code_is, ap (λ (y : Config). y.node) (a.4.0 ∙ next_is), a.4.1)
  stops_back c d e code (Fails host) u a l = let s = a.0 in cc

-- The second program goes where the first one goes, by fewer free moves. It has those places of the first that Q holds of.
pub record Shortens (p q : Program) (f : ℕ → ℕ) (P Q : ℕ → Type 0) : Type 0 where
  pub entry : q.entry ≡ f p.entry
  pub first : P p.entry
  -- from a place that it has, it goes where the first one goes
  pub turns : (c : Config) (bytes : List ℕ) → Q c.node →
      Mirrors (numbered f P) c (stand_at c (f c.node)) (program_turn p c bytes) (program_turn q (stand_at c (f c.node)) bytes)
  pub answers : (x y : ℕ) → Q x → AnswerEdge (slice_get q.states (f x)) y → (z : ℕ) × AnswerEdge (slice_get p.states x) z × (f z ≡ y) × P z
  -- from where a move leads, free moves lead to a place that it has, under the same number
  pub lands : (b z : ℕ) → P z → (w n : ℕ) × FreeWay (program_moves p) b z n w × (f w ≡ f z) × Q w
  -- no two places that it has share a number
  pub one : (x z : ℕ) → Q x → Q z → f x ≡ f z → x ≡ z

-- a free way leads on from what can be come to
reach_way : {m : Moves} {b x n y : ℕ} → Reaches m b x → FreeWay m b x n y → Reaches m b y
reach_way r stay = r
reach_way r (onward {next = next} m w) = reach_way (by_free r m) w

module _ (p q : Program) (f : ℕ → ℕ) (P Q : ℕ → Type 0) (s : Shortens p q f P Q) where
  abbrev old : Moves
  old = program_moves p

  abbrev new : Moves
  new = program_moves q

  -- the place x of the first program has the number i in the second, which goes on there
  abbrev On : ℕ → ℕ → Type 0
  On x i = (f x ≡ i) × Q x

  led_back : (b x i k y : ℕ) → On x i → Leads (program_turn q) i b k y → (z : ℕ) × Leads (program_turn p) x b k z × (f z ≡ y) × P z
  led_back b x i k y on (c, bytes, are, at, l) =
      let d : Config = stand_at c x in
      let same : c ≡ stand_at d (f x) = ap (stand_at c) (at ∙ sym on.0) in
      let r = leads_back f P d (stand_at d (f x)) k y (program_turn p d (b ∷ bytes)) (program_turn q (stand_at d (f x)) (b ∷ bytes)) (s.turns d (b ∷ bytes) on.1)
      (subst (λ (e : Config). LeadsTo (program_turn q e (b ∷ bytes)) k y) same l) in
      (r.0, (d, bytes, are, refl, r.1), r.2, r.3)

  free_back : (b x i y : ℕ) → On x i → FreeMove new b i y → (z : ℕ) × FreeMove old b x z × (f z ≡ y) × P z
  free_back b x i y on (inl l) = let r = led_back b x i 0 y on l in (r.0, inl r.1, r.2, r.3)
  free_back b x i y on (inr e) =
      let r = s.answers x y on.1 (subst (λ (n : ℕ). AnswerEdge (slice_get q.states n) y) (sym on.0) e) in (r.0, inr r.1, r.2, r.3)

  landed : (b z y : ℕ) → f z ≡ y → P z → (w n : ℕ) × FreeWay old b z n w × On w y
  landed b z y e m = let l = s.lands b z m in (l.0, l.1, l.2, (l.3 ∙ e, l.4))

  -- a free way of the second program is one of the first, which is no shorter
  way_back : {b i n y : ℕ} (x : ℕ) → On x i → FreeWay new b i n y → (z k : ℕ) × (n ≤ k) × FreeWay old b x k z × On z y
  way_back x on stay = (x, 0, zero-le, stay, on)
  way_back {b} {i} x on (onward {next = next} {end = y} {n = n} m w) =
      let u = free_back b x i next on m in
      let l : (w j : ℕ) × FreeWay old b u.0 j w × On w next = landed b u.0 next u.2 u.3 in
      let r : (z k : ℕ) × (n ≤ k) × FreeWay old b l.0 k z × On z y = way_back l.0 l.3 w in
      (r.0, suc (l.1 + r.1), omega (arith, r.2), onward {next = u.0} u.1 (way_more l.2 r.3), r.4)

  came : (b z y : ℕ) → f z ≡ y → P z → Reaches old b z → (x : ℕ) × Reaches old b x × On x y
  came b z y e m r = let l = landed b z y e m in (l.0, reach_way r l.2, l.3)

  -- what the second program comes to, the first one comes to
  reach_back : {b i : ℕ} → Reaches new b i → (x : ℕ) × Reaches old b x × On x i
  reach_back {b} (at_entry h) = came b p.entry q.entry (sym s.entry) s.first (at_entry h)
  reach_back {b} {i} (by_free {node = n} r m) =
      let back : (x : ℕ) × Reaches old b x × On x n = reach_back r in
      let u = free_back b back.0 n i back.2 m in
      came b u.0 i u.2 u.3 (by_free {node = back.0} back.1 u.1)
  reach_back {b} {i} (by_taking {a = a} {node = n} h r (k, l)) =
      let back : (x : ℕ) × Reaches old a x × On x n = reach_back r in
      let u = led_back a back.0 n (suc k) i back.2 l in
      came b u.0 i u.2 u.3 (by_taking {a = a} {node = back.0} h back.1 (k, u.1))
  reach_back {b} {i} (by_pause {a = a} {node = n} h r (c, d, rest, code, at, stops, next)) =
      let back : (x : ℕ) × Reaches old a x × On x n = reach_back r in
      let e : Config = stand_at c back.0 in
      let same : c ≡ stand_at e (f back.0) = ap (stand_at c) (at ∙ sym back.2.0) in
      let u = stops_back f P e (stand_at e (f back.0)) d code (program_turn p e rest) (program_turn q (stand_at e (f back.0)) rest) (s.turns e rest back.2.1)
      (subst (λ (x : Config). program_turn q x rest ≡ Stops code d) same stops) in
      came b u.0.node i (u.2 ∙ next) u.3 (by_pause {a = a} {node = back.0} h back.1 (e, u.0, rest, code, refl, u.1, refl))

  -- going by fewer free moves makes no loop
  pub shorter_loop_free : IsLoopFree p → IsLoopFree q
  shorter_loop_free free b node n r w =
      let back : (x : ℕ) × Reaches old b x × On x node = reach_back r in
      let way : (z k : ℕ) × (suc n ≤ k) × FreeWay old b back.0 k z × On z node = way_back back.0 back.2 w in
      let same : way.0 ≡ back.0 = s.one way.0 back.0 way.4.1 back.2.1 (way.4.0 ∙ sym back.2.0) in
      longer back.0 way.1 way.2 back.1 (subst (FreeWay old b back.0 way.1) same way.3)
    where
      longer : (x k : ℕ) → suc n ≤ k → Reaches old b x → FreeWay old b x k x → ⊥
      longer x zero h come v = absurd (omega arith)
      longer x (suc k) h come v = free b x k come v
