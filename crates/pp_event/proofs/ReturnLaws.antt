-- A run ends, having come to no node twice at one place, or it comes to a node twice at one place. Without a loop it never does.
use Rattle.std.proofs.Common.{◌⊎◌, inl, inr, subst, ◌≡◌, ℕ, zero, suc, ◌+◌, ◌-◌, ◌≤◌, ◌<◌, List, [], ◌∷◌, ◌++◌, Some, Bool, true, false, refl, sym, ◌∙◌, ap, arith, length, length-append, drop, map, leb}
use Rattle.std.specs.List.{Contains}
use Rattle.std.proofs.lemmas.Bool.{leb-true, leb-false}
use Rattle.std.proofs.lemmas.List.{map-append, length-drop}
use Rattle.std.proofs.lemmas.List.Elements.{Contains-append_left, Contains-append_right, Contains-append_cases}
use Rattle.pp_event.specs.Chain.{Move, On, Over, run_for, stages, after}
use Rattle.pp_event.specs.Run.{Config, Turn, Goes, Asks, Rests, Stops, Fails, Machine, Oracle, Stage, RunResult, Failed, move, move_by, pass, start}
use Rattle.pp_event.specs.Steady.{Keeps, IsSteady, Placed, IsPlaced}
use Rattle.pp_event.specs.Loops.{Moves, LoopFree, AreBytes, stand, NoneTwice}
use Rattle.pp_event.specs.Runs.{IsBounded}
use Rattle.pp_event.proofs.ChainLaws.{after_on, stages_on, over_after, ended_stages}
use Rattle.pp_event.proofs.LoopLaws.{none_twice}
use Rattle.pp_event.proofs.OnceLemmas.{Contains_nothing, Contains_one, Contains_here, Contains_behind, NoneTwice_more, NoneTwice_split, has_pair, has_pair-contains, contains-has_pair, no_more_pairs}

-- where a run stands before each of its first n moves from a stage
abbrev pub stood : Machine → Oracle → ℕ → Stage → List (ℕ × ℕ)
stood turn oracle n s = map stand (stages (move turn oracle) n s)

-- with one move more
pub stood_on : (turn : Machine) (oracle : Oracle) (n : ℕ) (s d : Stage) → after (move turn oracle) n s ≡ Some d →
    stood turn oracle (suc n) s ≡ stood turn oracle n s ++ stand d ∷ []
stood_on turn oracle n s d e = ap (map stand) (stages_on (move turn oracle) n s d e) ∙ map-append stand (stages (move turn oracle) n s) (d ∷ [])

-- the run from a stage ends, and comes to no node twice at one place
pub record EndsOnce (turn : Machine) (oracle : Oracle) (s : Stage) (r : RunResult) : Type 0 where
  pub moves_made : ℕ
  pub ended : run_for (move turn oracle) moves_made s ≡ Some r
  pub once : NoneTwice (stood turn oracle moves_made s)

-- the run comes to this stage, whose node it stood at before at this place, and to none such before
pub record Returns (turn : Machine) (oracle : Oracle) (s d : Stage) : Type 0 where
  pub moves_made : ℕ
  pub there : after (move turn oracle) moves_made s ≡ Some d
  pub once : NoneTwice (stood turn oracle moves_made s)
  pub again : Contains (stood turn oracle moves_made s) (stand d)

-- one or the other
abbrev pub EndsOrReturns : Machine → Oracle → Stage → Type 0
EndsOrReturns turn oracle s = ((r : RunResult) × EndsOnce turn oracle s r) ⊎ ((d : Stage) × Returns turn oracle s d)

-- and not both
pub ends_or_returns : (turn : Machine) (oracle : Oracle) (s d : Stage) (r : RunResult) → EndsOnce turn oracle s r → Returns turn oracle s d → ⊥
ends_or_returns turn oracle s d r ends back =
    let split = ended_stages (move turn oracle) ends.moves_made back.moves_made s d r ends.ended back.there in
    let all : stood turn oracle ends.moves_made s ≡ stood turn oracle back.moves_made s ++ stand d ∷ map stand split.0 =
    ap (map stand) split.1 ∙ map-append stand (stages (move turn oracle) back.moves_made s) (d ∷ split.0) in
    NoneTwice_split (stood turn oracle back.moves_made s) (stand d) (map stand split.0) (subst NoneTwice all ends.once) back.again

-- the nodes below n, all at one place
abbrev row : ℕ → ℕ → List (ℕ × ℕ)
row zero at = []
row (suc n) at = (n, at) ∷ row n at

-- the nodes below n at each place up to the last
abbrev grid : ℕ → ℕ → List (ℕ × ℕ)
grid n zero = row n zero
grid n (suc last) = row n (suc last) ++ grid n last

-- each of them is there
in_row : (n node at : ℕ) → node < n → Contains (row n at) (node, at)
in_row zero node at h = absurd (omega arith)
in_row (suc n) node at h = go (λ below. in_row n node at below) (leb n node) refl
  where
    go : (node < n → Contains (row n at) (node, at)) → (b : Bool) → leb n node ≡ b → Contains ((n, at) ∷ row n at) (node, at)
    go less true e =
        let up : n ≤ node = leb-true n node e in
        let same : n ≡ node = omega arith in
        subst (λ (k : ℕ). Contains ((n, at) ∷ row n at) (k, at)) same (Contains_here (n, at) (row n at))
    go less false e = Contains_behind (n, at) (row n at) (node, at) (less (leb-false n node e))

-- so is each of these
in_grid : (n last node at : ℕ) → node < n → at ≤ last → Contains (grid n last) (node, at)
in_grid n zero node at h k =
    let first : 0 ≡ at = omega arith in
    subst (λ (p : ℕ). Contains (row n zero) (node, p)) first (in_row n node zero h)
in_grid n (suc last) node at h k = go (λ below. in_grid n last node at h below) (leb (suc last) at) refl
  where
    go : (at ≤ last → Contains (grid n last) (node, at)) → (b : Bool) → leb (suc last) at ≡ b → Contains (row n (suc last) ++ grid n last) (node, at)
    go less true e =
        let up : suc last ≤ at = leb-true (suc last) at e in
        let same : suc last ≡ at = omega arith in
        Contains-append_left (row n (suc last)) (grid n last) (node, at)
        (subst (λ (p : ℕ). Contains (row n (suc last)) (node, p)) same (in_row n node (suc last) h))
    go less false e =
        let below : at < suc last = leb-false (suc last) at e in
        Contains-append_right (row n (suc last)) (grid n last) (node, at) (less (omega arith))

-- the bytes left end at this place
abbrev EndsAt : ℕ → Stage → Type 0
EndsAt last d = d.config.at + length d.rest ≡ last

-- so they do behind a move
abbrev EndsAtThen : ℕ → Move Stage RunResult → Type 0
EndsAtThen last (On d) = EndsAt last d
EndsAtThen last (Over r) = Unit {0}

-- a pause keeps them
ends_pass : (last : ℕ) (s : Stage) (code : ℕ) (d : Config) (n : ℕ) → EndsAt last s → d.at ≡ s.config.at → EndsAtThen last (pass s code d n)
ends_pass last s code d zero h e = tt
ends_pass last s code d (suc n) h e = ap (λ (k : ℕ). k + length s.rest) e ∙ h

-- each turn does
ends_by_turn : (oracle : Oracle) (last : ℕ) (s : Stage) (t u : Turn) → EndsAt last s → Keeps (length s.rest) t u → Placed s.config (length s.rest) t →
    EndsAtThen last (move_by oracle s t)
ends_by_turn oracle last s (Goes d k items) u h kept p =
    (let l : length (drop k s.rest) ≡ length s.rest - k = length-drop k s.rest in omega (arith, l, kept.0, h, p))
ends_by_turn oracle last s (Asks code value next) u h kept p = ap (λ (k : ℕ). k + length s.rest) (p (oracle s.items code)) ∙ h
ends_by_turn oracle last s (Rests d) u h kept p = tt
ends_by_turn oracle last s (Stops code d) u h kept p = ends_pass last s code d s.resumes h p
ends_by_turn oracle last s (Fails code) u h kept p = tt

-- a run of a steady, placed machine that has these nodes and fails elsewhere
module _ (turn : Machine) (steady : IsSteady turn) (placed : IsPlaced turn) (nodes : ℕ) (elsewhere : (c : Config) (rest : List ℕ) → nodes ≤ c.node → (code : ℕ) × (turn c rest ≡ Fails code))
    (oracle : Oracle) (s : Stage) where
  -- the end of its string
  abbrev last : ℕ
  last = s.config.at + length s.rest

  -- where it may stand
  abbrev places : List (ℕ × ℕ)
  places = grid nodes last

  -- it has come to a stage in so many moves, and stood at other nodes or places all the time
  abbrev Came : ℕ → Stage → Type 0
  Came n d =
      (after (move turn oracle) n s ≡ Some d) × NoneTwice (stood turn oracle n s) × ((q : ℕ × ℕ) → Contains (stood turn oracle n s) q → Contains places q)
      × (length (stood turn oracle n s) ≡ n) × EndsAt last d

  -- it ends there
  came_over : (n : ℕ) (d : Stage) (r : RunResult) → Came n d → (Contains (stood turn oracle n s) (stand d) → ⊥) → move turn oracle d ≡ Over r → EndsOnce turn oracle s r
  came_over n d r c fresh e = record {
    moves_made = suc n;
    ended = over_after (move turn oracle) n s d r c.0 e;
    once = subst NoneTwice (sym (stood_on turn oracle n s d c.0)) (NoneTwice_more (stood turn oracle n s) (stand d) c.1 fresh);
  }

  -- it goes on from there
  came_on : (n : ℕ) (d e : Stage) → Came n d → (Contains (stood turn oracle n s) (stand d) → ⊥) → d.config.node < nodes → move turn oracle d ≡ On e → EndsAt last e → Came (suc n) e
  came_on n d e c fresh h m place =
      let longer : stood turn oracle (suc n) s ≡ stood turn oracle n s ++ stand d ∷ [] = stood_on turn oracle n s d c.0 in
      let here : d.config.at + length d.rest ≡ last = c.4 in (
        after_on (move turn oracle) n s d e c.0 m,
        subst NoneTwice (sym longer) (NoneTwice_more (stood turn oracle n s) (stand d) c.1 fresh),
        (λ q b. elim (Contains-append_cases (stood turn oracle n s) (stand d ∷ []) q (subst (λ (l : List (ℕ × ℕ)). Contains l q) longer b)) [
          | inl a ↦ c.2 q a
          | inr a ↦ subst (Contains places) (Contains_one (stand d) q a) (in_grid nodes last d.config.node d.config.at h (omega (arith, here)))
        ]),
        (let l : length (stood turn oracle n s ++ stand d ∷ []) ≡ length (stood turn oracle n s) + 1 = length-append (stood turn oracle n s) (stand d ∷ []) in
            let k : length (stood turn oracle n s) ≡ n = c.3 in
            ap length longer ∙ l ∙ omega (arith, k)),
        place,
      )

  -- one or the other
  came_by : (n : ℕ) (d : Stage) → Came n d → (Contains (stood turn oracle n s) (stand d) → ⊥) → d.config.node < nodes → (v : Move Stage RunResult) → move turn oracle d ≡ v → EndsAtThen last v →
      ((e : Stage) → Came (suc n) e → EndsOrReturns turn oracle s) → EndsOrReturns turn oracle s
  came_by n d c fresh h (On e) m place go = go e (came_on n d e c fresh h m place)
  came_by n d c fresh h (Over r) m place go = inl (r, came_over n d r c fresh m)

  -- and before that it may be at a node where it stood
  came_to : (n : ℕ) (d : Stage) → Came n d → ((e : Stage) → Came (suc n) e → EndsOrReturns turn oracle s) →
      (b : Bool) → has_pair (stood turn oracle n s) (stand d) ≡ b → (o : Bool) → leb nodes d.config.node ≡ o → EndsOrReturns turn oracle s
  came_to n d c go true t o e =
      inr (d, record { moves_made = n; there = c.0; once = c.1; again = has_pair-contains (stood turn oracle n s) (stand d) t })
  came_to n d c go false t true e =
      let fails = elsewhere d.config d.rest (leb-true nodes d.config.node e) in
      inl (record { finish = Failed fails.0; last = d }, came_over n d _ c (λ h. absurd (let y : has_pair (stood turn oracle n s) (stand d) ≡ true = contains-has_pair (stood turn oracle n s) (stand d) h in cc)) (ap (move_by oracle d) fails.1))
  came_to n d c go false t false e =
      came_by n d c (λ h. (let y : has_pair (stood turn oracle n s) (stand d) ≡ true = contains-has_pair (stood turn oracle n s) (stand d) h in cc)) (leb-false nodes d.config.node e)
      (move turn oracle d) refl (ends_by_turn oracle last d (turn d.config d.rest) (turn d.config (d.rest ++ [])) c.4 (steady d.config d.rest []) (placed d.config d.rest)) go

  -- it does so within as many moves as there are places
  goes_for : (left n : ℕ) (d : Stage) → length places < n + left → Came n d → EndsOrReturns turn oracle s
  goes_for zero n d h c =
      let most : length (stood turn oracle n s) ≤ length places = no_more_pairs (stood turn oracle n s) places c.1 c.2 in
      let long : length (stood turn oracle n s) ≡ n = c.3 in
      absurd (omega arith)
  goes_for (suc left) n d h c =
      came_to n d c (λ e k. goes_for left (suc n) e (omega arith) k) (has_pair (stood turn oracle n s) (stand d)) refl (leb nodes d.config.node) refl

  -- it ends once, or returns
  pub run_or_return : EndsOrReturns turn oracle s
  run_or_return = goes_for (suc (length places)) 0 s (omega arith) (refl, tt, (λ q b. absurd (Contains_nothing q b)), refl, refl)

-- a run of a machine without a loop, from the entry, comes to no node twice at one place
pub never_returns : (m : Moves) → LoopFree m → IsSteady m.turn → IsPlaced m.turn → (oracle : Oracle) → IsBounded oracle →
    (c : Config) (bytes : List ℕ) (resumes : ℕ) → c.node ≡ m.entry → AreBytes bytes → (d : Stage) → Returns m.turn oracle (start c bytes resumes) d → ⊥
never_returns m free steady placed oracle bounded c bytes resumes e h d back =
    let s : Stage = start c bytes resumes in
    NoneTwice_split (stood m.turn oracle back.moves_made s) (stand d) []
    (subst NoneTwice (stood_on m.turn oracle back.moves_made s d back.there) (none_twice m free steady placed oracle bounded (suc back.moves_made) c bytes resumes e h)) back.again
