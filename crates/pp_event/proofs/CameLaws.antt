-- How a run came to where it is, whoever answered.
use Rattle.std.proofs.Common.{subst, ◌≡◌, ℕ, zero, suc, ◌+◌, ◌≤◌, List, [], ◌∷◌, ◌++◌, Option, Some, Bool, cond, refl, sym, ◌∙◌, ap, arith, append_assoc, append-nil, length, drop, add-zero}
use Rattle.std.specs.Prelude.{nat_lt, ◌-◌}
use Rattle.std.proofs.lemmas.Bool.{lt-ltb, le-ltb}
use Rattle.std.proofs.lemmas.List.{length-drop}
use Rattle.pp_event.specs.Cost.{takes_at, then_count, taking_moves}
use Rattle.pp_event.specs.declared.item.Item.{Item}
use Rattle.pp_event.specs.declared.item.Item.TheVariants.{Call, Span, Pause}
use Rattle.pp_event.specs.Chain.{Move, On, Over, then, then_maybe, run_for, after, Ends}
use Rattle.pp_event.specs.Run.{Config, Goes, Asks, Rests, Stops, Fails, Machine, Oracle, Stage, RunResult, Waiting, Paused, Failed, move, move_by, RunEnds}
use Rattle.pp_event.specs.Answers.{Agrees}
use Rattle.pp_event.proofs.ChainLaws.{after_on, over_after}

-- a moment of a run that passes no pause
abbrev pub moment : Config → List ℕ → List Item → Stage
moment c rest items = record { config = c; rest = rest; items = items; resumes = 0 }

step_right : (oracle : Oracle) (before : List Item) (x : Item) (xs ys : List Item) →
    (Agrees oracle (before ++ x ∷ []) (xs ++ ys) → Agrees oracle (before ++ x ∷ []) xs × Agrees oracle ((before ++ x ∷ []) ++ xs) ys) →
    Agrees oracle (before ++ x ∷ []) (xs ++ ys) → Agrees oracle (before ++ x ∷ []) xs × Agrees oracle (before ++ x ∷ xs) ys
step_right oracle before x xs ys go h =
    let g = go h in
    (g.0, subst (λ (l : List Item). Agrees oracle l ys) (append_assoc before (x ∷ []) xs) g.1)

pub Agrees-split : (oracle : Oracle) (before xs ys : List Item) → Agrees oracle before (xs ++ ys) → Agrees oracle before xs × Agrees oracle (before ++ xs) ys
Agrees-split oracle before [] ys h = (tt, subst (λ (l : List Item). Agrees oracle l ys) (sym (append-nil before)) h)
Agrees-split oracle before (Call code value at values answer ∷ xs) ys h =
    let x : Item = Call code value at values answer in
    let g = step_right oracle before x xs ys (λ k. Agrees-split oracle (before ++ x ∷ []) xs ys k) h.1 in
    ((h.0, g.0), g.1)
Agrees-split oracle before (Span span from to ∷ xs) ys h =
    let x : Item = Span span from to in
    step_right oracle before x xs ys (λ k. Agrees-split oracle (before ++ x ∷ []) xs ys k) h
Agrees-split oracle before (Pause code at ∷ xs) ys h =
    let x : Item = Pause code at in
    step_right oracle before x xs ys (λ k. Agrees-split oracle (before ++ x ∷ []) xs ys k) h

count_on_then : (f : Stage → Option Stage) (g h : Stage → ℕ) (d : Stage) (k : ℕ) → ((x : Stage) → f x ≡ Some d → g x ≡ h x + k) →
    (n : ℕ) (m : Move Stage RunResult) → then_maybe f m ≡ Some d → takes_at n m + then_count g m ≡ takes_at n m + then_count h m + k
count_on_then f g h d k go n (On x) p = (let e : g x ≡ h x + k = go x p in omega arith)
count_on_then f g h d k go n (Over r) p = cc

-- one move more
count_on : (go : Stage → Move Stage RunResult) (n : ℕ) (s d : Stage) → after go n s ≡ Some d → taking_moves go (suc n) s ≡ taking_moves go n s + takes_at (length d.rest) (go d)
count_on go zero s d p =
    let same : s ≡ d = cc in
    subst (λ (x : Stage). takes_at (length s.rest) (go s) + then_count (taking_moves go 0) (go s) ≡ 0 + takes_at (length x.rest) (go x)) same
    (let z : then_count (taking_moves go 0) (go s) ≡ 0 = none (go s) in omega arith)
  where
    none : (m : Move Stage RunResult) → then_count (taking_moves go 0) m ≡ 0
    none (On x) = refl
    none (Over r) = refl
count_on go (suc n) s d p =
    count_on_then (after go n) (taking_moves go (suc n)) (taking_moves go n) d (takes_at (length d.rest) (go d)) (λ x q. count_on go n x d q) (length s.rest) (go s) p

-- from c on the bytes w a run came to d with these bytes left and these items, if they were answered so,
-- and so many of its moves took bytes
pub record Came (turn : Machine) (c : Config) (w : List ℕ) (d : Config) (rest : List ℕ) (items : List Item) (takes : ℕ) : Type 0 where
  pub moves : ℕ
  pub there : (oracle : Oracle) → Agrees oracle [] items → after (move turn oracle) moves (moment c w []) ≡ Some (moment d rest items)
  pub counted : (oracle : Oracle) → Agrees oracle [] items → taking_moves (move turn oracle) moves (moment c w []) ≡ takes

pub came_first : (turn : Machine) (c : Config) (w : List ℕ) → Came turn c w c w [] 0
came_first turn c w = record { moves = 0; there = λ oracle h. refl; counted = λ oracle h. refl }

module _ (turn : Machine) (c : Config) (w : List ℕ) (d : Config) (rest : List ℕ) (items : List Item) (takes : ℕ) (come : Came turn c w d rest items takes) where
  came_on : (e : Config) (later : List ℕ) (told : List Item) (more : ℕ) → cond (nat_lt (length later) (length rest)) 1 0 ≡ more →
      ((oracle : Oracle) → Agrees oracle items told → move turn oracle (moment d rest items) ≡ On (moment e later (items ++ told))) →
      Came turn c w e later (items ++ told) (takes + more)
  came_on e later told more n go = record {
    moves = suc come.moves;
    there = λ oracle h. (let both = Agrees-split oracle [] items told h in
        after_on (move turn oracle) come.moves (moment c w []) (moment d rest items) (moment e later (items ++ told)) (come.there oracle both.0) (go oracle both.1));
    counted = λ oracle h. (let both = Agrees-split oracle [] items told h in
        count_on (move turn oracle) come.moves (moment c w []) (moment d rest items) (come.there oracle both.0)
        ∙ ap (λ (k : ℕ). k + takes_at (length rest) (move turn oracle (moment d rest items))) (come.counted oracle both.0)
        ∙ ap (λ (v : Move Stage RunResult). takes + takes_at (length rest) v) (go oracle both.1)
        ∙ ap (λ (k : ℕ). takes + k) n);
  }

  -- a move that takes no byte
  pub came_tells : (e : Config) (told : List Item) → turn d rest ≡ Goes e 0 told → Came turn c w e rest (items ++ told) takes
  came_tells e told t =
      subst (Came turn c w e rest (items ++ told)) (add-zero takes)
      (came_on e rest told 0 (ap (λ (b : Bool). cond b 1 0) (le-ltb (length rest) (length rest) (omega arith))) (λ oracle h. ap (move_by oracle (moment d rest items)) t))

  pub came_goes : (e : Config) → turn d rest ≡ Goes e 0 [] → Came turn c w e rest items takes
  came_goes e t = subst (λ (l : List Item). Came turn c w e rest l takes) (append-nil items) (came_tells e [] t)

  -- a move that takes bytes
  pub came_takes : (e : Config) (k : ℕ) → turn d rest ≡ Goes e (suc k) [] → suc k ≤ length rest → Came turn c w e (drop (suc k) rest) items (takes + 1)
  came_takes e k t n =
      let l : length (drop (suc k) rest) ≡ length rest - suc k = length-drop (suc k) rest in
      subst (λ (l : List Item). Came turn c w e (drop (suc k) rest) l (takes + 1)) (append-nil items)
      (came_on e (drop (suc k) rest) [] 1 (ap (λ (b : Bool). cond b 1 0) (lt-ltb (length (drop (suc k) rest)) (length rest) (omega arith))) (λ oracle h. ap (move_by oracle (moment d rest items)) t))

  pub came_asks : (code value : ℕ) (next : ℕ → Config) (answer : ℕ) → turn d rest ≡ Asks code value next →
      Came turn c w (next answer) rest (items ++ Call code value d.at d.values answer ∷ []) takes
  came_asks code value next answer t =
      subst (Came turn c w (next answer) rest (items ++ Call code value d.at d.values answer ∷ [])) (add-zero takes)
      (came_on (next answer) rest (Call code value d.at d.values answer ∷ []) 0 (ap (λ (b : Bool). cond b 1 0) (le-ltb (length rest) (length rest) (omega arith)))
      (λ oracle h. ap (move_by oracle (moment d rest items)) t
      ∙ ap (λ (a : ℕ). On (moment (next a) rest (items ++ Call code value d.at d.values a ∷ []))) h.0))

  -- a run that goes on from here to a result has it
  pub ran_on : (oracle : Oracle) (r : RunResult) → Agrees oracle [] items → Ends (move turn oracle) (moment d rest items) r → RunEnds turn oracle c w 0 r
  ran_on oracle r h ends = onward come.moves (moment c w []) (come.there oracle h)
    where
      onward_then : (f : Stage → Option Stage) (v : Move Stage RunResult) → ((x : Stage) → f x ≡ Some (moment d rest items) → Ends (move turn oracle) x r) →
          then_maybe f v ≡ Some (moment d rest items) → (n : ℕ) × (then (run_for (move turn oracle) n) v ≡ Some r)
      onward_then f (On x) go p = go x p
      onward_then f (Over q) go p = cc

      onward : (n : ℕ) (s : Stage) → after (move turn oracle) n s ≡ Some (moment d rest items) → Ends (move turn oracle) s r
      onward zero s p = (let same : moment d rest items ≡ s = cc in subst (λ (x : Stage). Ends (move turn oracle) x r) same ends)
      onward (suc n) s p =
          let e = onward_then (after (move turn oracle) n) (move turn oracle s) (λ x q. onward n x q) p in
          (suc e.0, e.1)

  ended : (oracle : Oracle) (r : RunResult) → Agrees oracle [] items → move turn oracle (moment d rest items) ≡ Over r → RunEnds turn oracle c w 0 r
  ended oracle r h e = (suc come.moves, over_after (move turn oracle) come.moves (moment c w []) (moment d rest items) r (come.there oracle h) e)

  pub ran_waits : (oracle : Oracle) (e : Config) → Agrees oracle [] items → turn d rest ≡ Rests e →
      RunEnds turn oracle c w 0 (record { finish = Waiting; last = moment e [] items })
  ran_waits oracle e h t = ended oracle _ h (ap (move_by oracle (moment d rest items)) t)

  pub ran_pauses : (oracle : Oracle) (code : ℕ) (e : Config) → Agrees oracle [] items → turn d rest ≡ Stops code e →
      RunEnds turn oracle c w 0 (record { finish = Paused code; last = moment d rest (items ++ Pause code d.at ∷ []) })
  ran_pauses oracle code e h t = ended oracle _ h (ap (move_by oracle (moment d rest items)) t)

  pub ran_breaks : (oracle : Oracle) (code : ℕ) → Agrees oracle [] items → turn d rest ≡ Fails code →
      RunEnds turn oracle c w 0 (record { finish = Failed code; last = moment d rest items })
  ran_breaks oracle code h t = ended oracle _ h (ap (move_by oracle (moment d rest items)) t)
