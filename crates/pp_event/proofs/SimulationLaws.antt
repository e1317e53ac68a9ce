-- A chain or a run that follows another one ends where the other one ends.
use Rattle.std.proofs.Common.{subst, ◌≡◌, ℕ, zero, suc, List, [], ◌∷◌, ◌++◌, Option, Some, refl, sym, ◌∙◌, ap, drop, append_assoc, append-nil, Bool, true, false, cond}
use Rattle.pp_event.specs.declared.item.Item.{Item}
use Rattle.pp_event.specs.declared.item.Item.TheVariants.{Call, Pause}
use Rattle.pp_event.specs.Chain.{Move, On, Over, then, run_for, Ends, Comes, after, then_maybe}
use Rattle.pp_event.specs.Run.{Config, Turn, Goes, Asks, Rests, Stops, Fails, Machine, Oracle, Stage, RunResult, Waiting, Paused, Failed, move, move_by, telling, pass, RunEnds}
use Rattle.pp_event.specs.Simulates.{Follows, Simulates, Way, here, step, Bond, Turning, Matches, SimulatesTurns, Mirrors, MirrorsTurns, Alike, SameEnd}
use Rattle.pp_event.proofs.ChainLaws.{Gives, ends_by, ends_over, one_result}

comes_ends_then : {S R : Type 0} (move : S → Move S R) (f : S → Option S) (d : S) (r : R) → Ends move d r →
    ((x : S) → f x ≡ Some d → Ends move x r) → (m : Move S R) → then_maybe f m ≡ Some d → Gives move m r
comes_ends_then move f d r h go (On x) p = go x p
comes_ends_then move f d r h go (Over q) p = cc

comes_ends_for : {S R : Type 0} (move : S → Move S R) (n : ℕ) (s d : S) (r : R) → after move n s ≡ Some d → Ends move d r → Ends move s r
comes_ends_for move zero s d r p h =
    let same : s ≡ d = cc in
    subst (λ (x : _). Ends move x r) (sym same) h
comes_ends_for move (suc n) s d r p h =
    ends_by move s r (comes_ends_then move (after move n) d r h (λ x q. comes_ends_for move n x d r q h) (move s) p)

-- a chain ends as it ends from a stage that it comes to
pub comes_ends : {S R : Type 0} (move : S → Move S R) (s d : S) (r : R) → Comes move s d → Ends move d r → Ends move s r
comes_ends move s d r h e = comes_ends_for move h.0 s d r h.1 e

-- one move more at the front
pub comes_on : {S R : Type 0} (move : S → Move S R) (s d e : S) → move s ≡ On d → Comes move d e → Comes move s e
comes_on move s d e m h = (suc h.0, ap (then_maybe (after move h.0)) m ∙ h.1)

follows_then : {S R T Q : Type 0} (go : T → Move T Q) (alike : S → T → Type 0) (same : R → Q → Type 0) (f : S → Option R) (r : R) →
    ((d : S) (e : T) → alike d e → f d ≡ Some r → (q : Q) × Ends go e q × same r q) →
    (m : Move S R) (t : T) → Follows alike same go m t → then f m ≡ Some r → (q : Q) × Ends go t q × same r q
follows_then go alike same f r on (On d) t h p =
    let rest = on d h.0 h.2 p in
    (rest.0, comes_ends go t h.0 rest.0 h.1 rest.1, rest.2)
follows_then go alike same f r on (Over x) t h p =
    let equal : x ≡ r = cc in
    (h.0, h.1, subst (λ (y : _). same y h.0) equal h.2)

simulates_for : {S R T Q : Type 0} (move : S → Move S R) (go : T → Move T Q) (alike : S → T → Type 0) (same : R → Q → Type 0) →
    Simulates move go alike same → (n : ℕ) (s : S) (t : T) (r : R) → alike s t → run_for move n s ≡ Some r → (q : Q) × Ends go t q × same r q
simulates_for move go alike same sim zero s t r a p = cc
simulates_for move go alike same sim (suc n) s t r a p =
    follows_then go alike same (run_for move n) r (λ d e b. simulates_for move go alike same sim n d e r b) (move s) t (sim s t a) p

-- where the first chain ends, the second ends with a related result
pub simulates : {S R T Q : Type 0} (move : S → Move S R) (go : T → Move T Q) (alike : S → T → Type 0) (same : R → Q → Type 0) →
    Simulates move go alike same → (s : S) (t : T) (r : R) → alike s t → Ends move s r → (q : Q) × Ends go t q × same r q
simulates move go alike same sim s t r a h = simulates_for move go alike same sim h.0 s t r a h.1

-- and each result of the second is related to that of the first
pub simulates_back : {S R T Q : Type 0} (move : S → Move S R) (go : T → Move T Q) (alike : S → T → Type 0) (same : R → Q → Type 0) →
    Simulates move go alike same → (s : S) (t : T) (r : R) (q : Q) → alike s t → Ends move s r → Ends go t q → same r q
simulates_back move go alike same sim s t r q a h k =
    let found = simulates move go alike same sim s t r a h in
    subst (λ (x : _). same r x) (one_result go t found.0 q found.1 k) found.2

-- a run that stands so
abbrev stage : Config → List ℕ → List Item → ℕ → Stage
stage c rest items resumes = record { config = c; rest = rest; items = items; resumes = resumes }

-- a run goes the way of its machine, and tells the items of the way
pub way_comes : (turn : Machine) (oracle : Oracle) (resumes : ℕ) (c e : Config) (rest left : List ℕ) (told items : List Item) → Way turn c rest items e left →
    Comes (move turn oracle) (stage c rest told resumes) (stage e left (told ++ items) resumes)
way_comes turn oracle resumes c e rest left told items (here {c = a} {rest = r}) =
    (0, ap (λ (i : List Item). Some (stage a r i resumes)) (sym (append-nil told)))
way_comes turn oracle resumes c e rest left told all (step {c = a} {d = d} {e = b} {rest = r} {left = l} {k = k} {items = items} {more = more} t w joined) =
    let on : Comes (move turn oracle) (stage d (drop k r) (told ++ items) resumes) (stage b l ((told ++ items) ++ more) resumes) =
    way_comes turn oracle resumes d b (drop k r) l (told ++ items) more w in
    let same : (told ++ items) ++ more ≡ told ++ all = append_assoc told items more ∙ ap (λ (i : List Item). told ++ i) (sym joined) in
    comes_on (move turn oracle) (stage a r told resumes) (stage d (drop k r) (told ++ items) resumes) (stage b l (told ++ all) resumes)
    (ap (move_by oracle (stage a r told resumes)) t)
    (subst (λ (i : List Item). Comes (move turn oracle) (stage d (drop k r) (told ++ items) resumes) (stage b l i resumes)) same on)

-- and after a way without items, the same items
way_on : (turn : Machine) (oracle : Oracle) (resumes : ℕ) (c e : Config) (rest left : List ℕ) (told : List Item) → Way turn c rest [] e left →
    Comes (move turn oracle) (stage c rest told resumes) (stage e left told resumes)
way_on turn oracle resumes c e rest left told w =
    subst (λ (i : List Item). Comes (move turn oracle) (stage c rest told resumes) (stage e left i resumes)) (append-nil told)
    (way_comes turn oracle resumes c e rest left told [] w)

abbrev Brings : {S R : Type 0} → (S → Move S R) → Move S R → S → Type 0
Brings move (On x) e = Comes move x e
Brings move (Over r) e = ⊥

brings_then : {S R : Type 0} (move : S → Move S R) (f : S → Option S) (d e : S) → ((x : S) → f x ≡ Some d → Comes move x e) →
    (m : Move S R) → then_maybe f m ≡ Some d → Brings move m e
brings_then move f d e go (On x) p = go x p
brings_then move f d e go (Over r) p = cc

comes_by : {S R : Type 0} (move : S → Move S R) (s e : S) (m : Move S R) → move s ≡ m → Brings move m e → Comes move s e
comes_by move s e (On x) t h = comes_on move s x e t h
comes_by move s e (Over r) t h = absurd h

comes_then_for : {S R : Type 0} (move : S → Move S R) (n : ℕ) (s d e : S) → after move n s ≡ Some d → Comes move d e → Comes move s e
comes_then_for move zero s d e p h =
    let same : s ≡ d = cc in
    subst (λ (x : _). Comes move x e) (sym same) h
comes_then_for move (suc n) s d e p h =
    comes_by move s e (move s) refl (brings_then move (after move n) d e (λ x q. comes_then_for move n x d e q h) (move s) p)

-- first to one stage and then to another
pub comes_then : {S R : Type 0} (move : S → Move S R) (s d e : S) → Comes move s d → Comes move d e → Comes move s e
comes_then move s d e h k = comes_then_for move h.0 s d e h.1 k

module _ (bond : Bond) (turn : Machine) (oracle : Oracle) where
  -- at a pause both end, or both pass it
  follows_pass : (s : Stage) (d e f to : Config) (code : ℕ) → Turning turn d s.rest e s.rest (Stops code f) → s.config.at ≡ e.at → bond.close s.config e → bond.meet to f →
      (n : ℕ) → s.resumes ≡ n → Follows (Alike bond.meet) (SameEnd bond) (move turn oracle) (pass s code to n) (stage d s.rest s.items s.resumes)
  follows_pass s d e f to code h p c m zero z =
      let q : RunResult = record { finish = Paused code; last = telling (stage e s.rest s.items s.resumes) (Pause code e.at ∷ []) e s.rest } in
      let comes : Comes (move turn oracle) (stage d s.rest s.items s.resumes) (stage e s.rest s.items s.resumes) = way_on turn oracle s.resumes d e s.rest s.rest s.items h.way in
      let over : move turn oracle (stage e s.rest s.items s.resumes) ≡ Over q =
      ap (move_by oracle (stage e s.rest s.items s.resumes)) h.turn_is ∙ ap (pass (stage e s.rest s.items s.resumes) code f) z in (
        q,
        comes_ends (move turn oracle) (stage d s.rest s.items s.resumes) (stage e s.rest s.items s.resumes) q comes (ends_over (move turn oracle) (stage e s.rest s.items s.resumes) q over),
        record { finish = refl; last = record { config = c; rest = refl; items = ap (λ (a : ℕ). s.items ++ Pause code a ∷ []) p; resumes = refl } },
      )
  follows_pass s d e f to code h p c m (suc n) z =
      let x : Stage = stage f s.rest (s.items ++ Pause code e.at ∷ []) n in
      let comes : Comes (move turn oracle) (stage d s.rest s.items s.resumes) (stage e s.rest s.items s.resumes) = way_on turn oracle s.resumes d e s.rest s.rest s.items h.way in
      let on : move turn oracle (stage e s.rest s.items s.resumes) ≡ On x =
      ap (move_by oracle (stage e s.rest s.items s.resumes)) h.turn_is ∙ ap (pass (stage e s.rest s.items s.resumes) code f) z in (
        x,
        comes_then (move turn oracle) (stage d s.rest s.items s.resumes) (stage e s.rest s.items s.resumes) x comes
            (comes_on (move turn oracle) (stage e s.rest s.items s.resumes) x x on (0, refl)),
        record { config = m; rest = refl; items = ap (λ (a : ℕ). s.items ++ Pause code a ∷ []) p; resumes = refl },
      )

  follows_by : (s : Stage) (d : Config) (t : Turn) → Matches bond turn s.config d s.rest t →
      Follows (Alike bond.meet) (SameEnd bond) (move turn oracle) (move_by oracle s t) (stage d s.rest s.items s.resumes)
  follows_by s d (Goes to k items) h = (
    stage h.0 (drop k s.rest) (s.items ++ items) s.resumes,
    way_comes turn oracle s.resumes d h.0 s.rest (drop k s.rest) s.items items h.1,
    record { config = h.2; rest = refl; items = refl; resumes = refl },
  )
  follows_by s d (Asks code value next) h =
      let e : Config = h.0 in
      let edge : ℕ → Config = h.1 in
      let answer : ℕ = oracle s.items code in
      let x : Stage = stage (edge answer) s.rest (s.items ++ Call code value e.at e.values answer ∷ []) s.resumes in (
        x,
        comes_then (move turn oracle) (stage d s.rest s.items s.resumes) (stage e s.rest s.items s.resumes) x (way_on turn oracle s.resumes d e s.rest s.rest s.items h.2.way)
            (comes_on (move turn oracle) (stage e s.rest s.items s.resumes) x x (ap (move_by oracle (stage e s.rest s.items s.resumes)) h.2.turn_is) (0, refl)),
        record {
          config = h.5 answer;
          rest = refl;
          items = ap (λ (a : ℕ). s.items ++ Call code value a s.config.values answer ∷ []) h.3 ∙ ap (λ (v : List ℕ). s.items ++ Call code value e.at v answer ∷ []) h.4;
          resumes = refl;
        },
      )
  follows_by s d (Rests to) h =
      let e : Config = h.0 in
      let left : List ℕ = h.1 in
      let f : Config = h.2 in
      let q : RunResult = record { finish = Waiting; last = stage f [] s.items s.resumes } in (
        q,
        comes_ends (move turn oracle) (stage d s.rest s.items s.resumes) (stage e left s.items s.resumes) q (way_on turn oracle s.resumes d e s.rest left s.items h.3.way)
            (ends_over (move turn oracle) (stage e left s.items s.resumes) q (ap (move_by oracle (stage e left s.items s.resumes)) h.3.turn_is)),
        record { finish = refl; last = record { config = h.4; rest = refl; items = refl; resumes = refl } },
      )
  follows_by s d (Stops code to) h = follows_pass s d h.0 h.1 to code h.2 h.3 h.4 h.5 s.resumes refl
  follows_by s d (Fails code) h =
      let e : Config = h.0 in
      let q : RunResult = record { finish = Failed code; last = stage e s.rest s.items s.resumes } in (
        q,
        comes_ends (move turn oracle) (stage d s.rest s.items s.resumes) (stage e s.rest s.items s.resumes) q (way_on turn oracle s.resumes d e s.rest s.rest s.items h.1.way)
            (ends_over (move turn oracle) (stage e s.rest s.items s.resumes) q (ap (move_by oracle (stage e s.rest s.items s.resumes)) h.1.turn_is)),
        record { finish = refl; last = record { config = h.2; rest = refl; items = refl; resumes = refl } },
      )

  follows_at : (first : Machine) → SimulatesTurns bond first turn → (s t : Stage) → Alike bond.meet s t →
      Follows (Alike bond.meet) (SameEnd bond) (move turn oracle) (move first oracle s) t
  follows_at first sim s t a =
      let F : List ℕ → List Item → ℕ → Type 0 = λ r i n. Follows (Alike bond.meet) (SameEnd bond) (move turn oracle) (move first oracle s) (stage t.config r i n) in
      let base : F s.rest s.items s.resumes = follows_by s t.config (first s.config s.rest) (sim s.config t.config s.rest a.config) in
      subst (λ (n : ℕ). F t.rest t.items n) a.resumes
      (subst (λ (i : List Item). F t.rest i s.resumes) a.items
      (subst (λ (r : List ℕ). F r s.items s.resumes) a.rest base))

-- what the first machine means, the second one means too, with the same items, finish, place, values and spans
pub simulates_runs : (bond : Bond) (first second : Machine) → SimulatesTurns bond first second → (oracle : Oracle) (s t : Stage) (r : RunResult) → Alike bond.meet s t →
    Ends (move first oracle) s r → (q : RunResult) × Ends (move second oracle) t q × SameEnd bond r q
simulates_runs bond first second sim oracle s t r a h =
    simulates (move first oracle) (move second oracle) (Alike bond.meet) (SameEnd bond) (λ x y b. follows_at bond second oracle first sim x y b) s t r a h

pub simulates_runs_back : (bond : Bond) (first second : Machine) → SimulatesTurns bond first second → (oracle : Oracle) (s t : Stage) (r q : RunResult) → Alike bond.meet s t →
    Ends (move first oracle) s r → Ends (move second oracle) t q → SameEnd bond r q
simulates_runs_back bond first second sim oracle s t r q a h k =
    simulates_back (move first oracle) (move second oracle) (Alike bond.meet) (SameEnd bond) (λ x y b. follows_at bond second oracle first sim x y b) s t r q a h k

-- the same from the beginning of two runs
pub simulates_means : (bond : Bond) (first second : Machine) → SimulatesTurns bond first second → (oracle : Oracle) (c d : Config) (bytes : List ℕ) (resumes : ℕ) (r : RunResult) → bond.meet c d →
    RunEnds first oracle c bytes resumes r → (q : RunResult) × RunEnds second oracle d bytes resumes q × SameEnd bond r q
simulates_means bond first second sim oracle c d bytes resumes r m h =
    simulates_runs bond first second sim oracle (stage c bytes [] resumes) (stage d bytes [] resumes) r (record { config = m; rest = refl; items = refl; resumes = refl }) h

-- one turn for each turn
pub mirrors_matches : (bond : Bond) (turn : Machine) (c d : Config) (rest : List ℕ) (t : Turn) → Mirrors bond c d t (turn d rest) → Matches bond turn c d rest t
mirrors_matches bond turn c d rest (Goes to k items) h = (h.0, step h.1 here (sym (append-nil items)), h.2)
mirrors_matches bond turn c d rest (Asks code value next) h = (d, h.0, record { way = here; turn_is = h.1 }, h.2, h.3, h.4)
mirrors_matches bond turn c d rest (Rests to) h = (d, rest, h.0, record { way = here; turn_is = h.1 }, h.2)
mirrors_matches bond turn c d rest (Stops code to) h = (d, h.0, record { way = here; turn_is = h.1 }, h.2, h.3, h.4)
mirrors_matches bond turn c d rest (Fails code) h = (d, record { way = here; turn_is = h.0 }, h.1)

pub mirrors_simulates : (bond : Bond) (first second : Machine) → MirrorsTurns bond first second → SimulatesTurns bond first second
mirrors_simulates bond first second h c d rest m = mirrors_matches bond second c d rest (first c rest) (h c d rest m)

pub Mirrors-if : (bond : Bond) (c d : Config) (b : Bool) (t u v w : Turn) → Mirrors bond c d t v → Mirrors bond c d u w → Mirrors bond c d (cond b t u) (cond b v w)
Mirrors-if bond c d true t u v w h k = h
Mirrors-if bond c d false t u v w h k = k
