-- Finishing makes no loop.
use Rattle.std.proofs.Common.{subst, ◌≡◌, ℕ, zero, suc, List, [], ◌∷◌, Option, Some, None, Bool, true, false, refl, sym, ◌∙◌, ap, arith, map, length, option_map, ◌⊎◌, inl, inr}
use Rattle.std.specs.Prelude.{slice_get, unwrap_or}
use Rattle.std.specs.List.{Any, AllByRecursion}
use Rattle.std.proofs.lemmas.List.Elements.{recursion_from_All}
use Rattle.pp_flow.proofs.ListLemmas.{any-none, any-first, any-later, any-either}
use Rattle.pp_graph.specs.declared.node.Answer.{Answer}
use Rattle.pp_program.specs.declared.program.Instr.{Instr}
use Rattle.pp_program.specs.declared.program.Instr.TheVariants.{Branch, Invoke, Consume, SpanOpen, SpanClose, Pause, Fail}
use Rattle.pp_program.specs.declared.program.State.{State}
use Rattle.pp_program.specs.declared.program.Program.{Program}
use Rattle.pp_program.specs.States.{instr_turn, state_turn, program_turn}
use Rattle.pp_program.specs.Moves.{AnswersWith, AnswerEdge, program_moves, IsLoopFree}
use Rattle.pp_event.specs.Run.{Config, Turn}
use Rattle.pp_event.specs.Simulates.{Mirrors}
use Rattle.pp_event.specs.Loops.{LeadsTo, Moves, FreeMove, FreeWay, stay, onward}
use Rattle.pp_event.proofs.MirrorLaws.{stand_at}
use Rattle.pp_clean.specs.Map.{mapped_answer, mapped, mapped_state, targets, EachMove}
use Rattle.pp_clean.specs.Skip.{state_past, past, on_past, full_within, behind, landing, skipped, IsNumberless}
use Rattle.pp_clean.specs.Reach.{rank, reached, trimmed_by, trimmed, IsReach, IsInRange}
use Rattle.pp_clean.specs.Merge.{merged_instr, merged_state, merged_program}
use Rattle.pp_clean.specs.Names.{used, moved_origin}
use Rattle.pp_clean.specs.Finished.{IsFinishable, finished}
use Rattle.pp_clean.proofs.RenameLaws.{instr_like, passes}
use Rattle.pp_clean.proofs.SkipLaws.{landing_full, landing_endless, new_state}
use Rattle.pp_clean.proofs.ReachLaws.{each_move, moves_marked, trimmed_state, reached_right}
use Rattle.pp_clean.proofs.SameLaws.{mirrors_self, state_is, program_same}
use Rattle.pp_clean.proofs.MergeLaws.{merged_same}
use Rattle.pp_clean.proofs.MappedLaws.{skipped_range}
use Rattle.pp_clean.proofs.FinishedLaws.{trimmed_ascend}
use Rattle.pp_clean.proofs.ResultLaws.{landing_lands}
use Rattle.pp_clean.proofs.LoopFreeLaws.{numbered, Shortens, shorter_loop_free}

-- where a mapped answer leads, an answer leads
answer_back : (f : ℕ → ℕ) (P : ℕ → Type 0) (answers : List Answer) (y : ℕ) → AllByRecursion (λ (a : Answer). P a.target) answers →
    Any (λ (a : Answer). a.target ≡ y) (map (mapped_answer f) answers) → (z : ℕ) × Any (λ (a : Answer). a.target ≡ z) answers × (f z ≡ y) × P z
answer_back f P [] y h a = absurd (any-none (λ (x : Answer). x.target ≡ y) a)
answer_back f P (x ∷ answers) y h a =
    by_place (answer_back f P answers y h.1) (any-either (λ (b : Answer). b.target ≡ y) (mapped_answer f x) (map (mapped_answer f) answers) a)
  where
    by_place : (Any (λ (b : Answer). b.target ≡ y) (map (mapped_answer f) answers) → (z : ℕ) × Any (λ (b : Answer). b.target ≡ z) answers × (f z ≡ y) × P z) →
        (f x.target ≡ y) ⊎ Any (λ (b : Answer). b.target ≡ y) (map (mapped_answer f) answers) → (z : ℕ) × Any (λ (b : Answer). b.target ≡ z) (x ∷ answers) × (f z ≡ y) × P z
    by_place go (inl e) = (x.target, any-first (λ (b : Answer). b.target ≡ x.target) x answers refl, e, h.0)
    by_place go (inr c) = let r = go c in (r.0, any-later (λ (b : Answer). b.target ≡ r.0) x answers r.1, r.2, r.3)

-- The second program's states are those of the first under other numbers, at the places that Q holds of.
module _ (p q : Program) (f : ℕ → ℕ) (P Q : ℕ → Type 0) (known : (x : ℕ) → Q x → P x)
    (state : (x : ℕ) → Q x → slice_get q.states (f x) ≡ option_map (mapped_state f) (slice_get p.states x))
    (moves : (x : ℕ) (s : State) → Q x → slice_get p.states x ≡ Some s → EachMove (λ n k. P n) s.instr) where
  turn_mirrors : (c : Config) (bytes : List ℕ) → Q c.node → (o : Option State) → slice_get p.states c.node ≡ o →
      Mirrors (numbered f P) c (stand_at c (f c.node)) (state_turn o c bytes) (state_turn (option_map (mapped_state f) o) (stand_at c (f c.node)) bytes)
  turn_mirrors c bytes h None e = (refl, tt)
  turn_mirrors c bytes h (Some s) e = instr_like f (λ n k. P n) (λ x d. Unit {0}) c (λ x same. tt) s.instr bytes (moves c.node s h e) (known c.node h)

  mapped_turns : (c : Config) (bytes : List ℕ) → Q c.node →
      Mirrors (numbered f P) c (stand_at c (f c.node)) (program_turn p c bytes) (program_turn q (stand_at c (f c.node)) bytes)
  mapped_turns c bytes h =
      subst (λ (o : Option State). Mirrors (numbered f P) c (stand_at c (f c.node)) (program_turn p c bytes) (state_turn o (stand_at c (f c.node)) bytes))
      (sym (state c.node h)) (turn_mirrors c bytes h (slice_get p.states c.node) refl)

  instr_answers : (i : Instr) (y : ℕ) → EachMove (λ n k. P n) i → AnswersWith (mapped f i) y → (z : ℕ) × AnswersWith i z × (f z ≡ y) × P z
  instr_answers (Branch fold keep edges rest) y h a = absurd a
  instr_answers (Invoke code answers other) y h (inl e) = (other, inl refl, e, h.1)
  instr_answers (Invoke code answers other) y h (inr a) = let r = answer_back f P answers y h.0 a in (r.0, inr r.1, r.2, r.3)
  instr_answers (Consume prop next) y h a = absurd a
  instr_answers (SpanOpen span next) y h a = absurd a
  instr_answers (SpanClose span next) y h a = absurd a
  instr_answers (Pause code reason next) y h a = absurd a
  instr_answers (Fail code reason) y h a = absurd a

  state_answers : (x y : ℕ) → Q x → (o : Option State) → slice_get p.states x ≡ o → AnswerEdge (option_map (mapped_state f) o) y → (z : ℕ) × AnswerEdge o z × (f z ≡ y) × P z
  state_answers x y h None e a = absurd a
  state_answers x y h (Some s) e a = instr_answers s.instr y (moves x s h e) a

  mapped_shortens : q.entry ≡ f p.entry → P p.entry → ((b z : ℕ) → P z → (w n : ℕ) × FreeWay (program_moves p) b z n w × (f w ≡ f z) × Q w) →
      ((x z : ℕ) → Q x → Q z → f x ≡ f z → x ≡ z) → Shortens p q f P Q
  mapped_shortens entry first lands one = record {
    entry = entry;
    first = first;
    turns = mapped_turns;
    answers = λ x y h a. state_answers x y h (slice_get p.states x) refl (subst (λ (o : Option State). AnswerEdge o y) (state x h) a);
    lands = lands;
    one = one;
  }

module _ (p : Program) (range : IsInRange p) (numberless : IsNumberless p.states) where
  abbrev f : ℕ → ℕ
  f = landing p.states

  abbrev old : Moves
  old = program_moves p

  -- an empty state's move is free
  past_free : (b n t : ℕ) (o : Option State) → slice_get p.states n ≡ o → state_past o ≡ Some t → FreeMove old b n t
  past_free b n t None e h = cc
  past_free b n t (Some s) e h =
      let c : Config = record { node = n; at = 0; carried = 0; values = []; spans = [] } in
      let goes = ap (λ (x : Option State). state_turn x c (b ∷ [])) e ∙ passes s.instr c t (b ∷ []) h (numberless.from n t s e h) in
      inl (c, [], (λ i. omega arith), refl, subst (λ (x : Turn). LeadsTo x 0 t) (sym goes) (refl, refl))

  full_way_on : (b k n m : ℕ) → ((t : ℕ) → full_within p.states k t ≡ Some m → (j : ℕ) × FreeWay old b t j m) → (o : Option ℕ) → past p.states n ≡ o →
      on_past (full_within p.states k) n o ≡ Some m → (j : ℕ) × FreeWay old b n j m
  full_way_on b k n m go None e h = let same : n ≡ m = cc in (0, subst (λ (x : ℕ). FreeWay old b n 0 x) same stay)
  full_way_on b k n m go (Some t) e h =
      let w : (j : ℕ) × FreeWay old b t j m = go t h in (suc w.0, onward {next = t} (past_free b n t (slice_get p.states n) refl e) w.1)

  full_way : (b k n m : ℕ) → full_within p.states k n ≡ Some m → (j : ℕ) × FreeWay old b n j m
  full_way b zero n m h = cc
  full_way b (suc k) n m h = full_way_on b k n m (λ t. full_way b k t m) (past p.states n) refl h

  -- free moves lead to where a move goes
  landing_way : (b n : ℕ) (o : Option ℕ) → behind p.states n ≡ o → (j : ℕ) × FreeWay old b n j (unwrap_or o n)
  landing_way b n None e = (0, stay)
  landing_way b n (Some m) e = full_way b (suc (length p.states)) n m e

  own_place : (n : ℕ) → (past p.states n ≡ None) ⊎ (behind p.states n ≡ None) → f n ≡ n
  own_place n (inl e) = landing_full p.states n e
  own_place n (inr e) = landing_endless p.states n e

  own_landing : (n : ℕ) → f (f n) ≡ f n
  own_landing n = own_place (f n) (landing_lands p range n (behind p.states n) refl)

  skipped_shortens : Shortens p (skipped p) f (λ n. Unit {0}) (λ n. f n ≡ n)
  skipped_shortens =
      mapped_shortens p (skipped p) f (λ n. Unit {0}) (λ n. f n ≡ n) (λ x own. tt)
      (λ x own. new_state p numberless x (slice_get p.states x) own refl)
      (λ x s own e. each_move (λ n. Unit {0}) s.instr (recursion_from_All (λ n. Unit {0}) (targets s.instr) (λ k d h. tt)))
      refl tt
      (λ b z h. (let w = landing_way b z (behind p.states z) refl in (f z, w.0, w.1, own_landing z, own_landing z)))
      (λ x z here there same. sym here ∙ same ∙ there)

-- marked places with one rank are one
rank_one : (marks : List Bool) (n m : ℕ) → slice_get marks n ≡ Some true → slice_get marks m ≡ Some true → rank marks n ≡ rank marks m → n ≡ m
rank_one [] n m e f r = cc
rank_one (x ∷ marks) zero zero e f r = refl
rank_one (true ∷ marks) zero (suc m) e f r = absurd (omega arith)
rank_one (false ∷ marks) zero (suc m) e f r = cc
rank_one (true ∷ marks) (suc n) zero e f r = absurd (omega arith)
rank_one (false ∷ marks) (suc n) zero e f r = cc
rank_one (true ∷ marks) (suc n) (suc m) e f r = ap suc (rank_one marks n m e f (omega arith))
rank_one (false ∷ marks) (suc n) (suc m) e f r = ap suc (rank_one marks n m e f r)

trimmed_shortens : (p : Program) (marks : List Bool) → IsReach p marks →
    Shortens p (trimmed_by p marks) (rank marks) (λ n. slice_get marks n ≡ Some true) (λ n. slice_get marks n ≡ Some true)
trimmed_shortens p marks right =
    let Q : ℕ → Type 0 = λ n. slice_get marks n ≡ Some true in
    mapped_shortens p (trimmed_by p marks) (rank marks) Q Q (λ x m. m)
    (λ x m. trimmed_state p marks right x (slice_get p.states x) m refl)
    (λ x s m e. moves_marked p marks right x s e m)
    refl right.entry (λ b z m. (z, 0, stay, refl, m)) (rank_one marks)

-- Each state of the second program stands in place of one that makes the same turns and leads on by the same answers.
module _ (p q : Program) (g : State → State) (states : q.states ≡ map g p.states)
    (turns : (n : ℕ) (s : State) → slice_get p.states n ≡ Some s → (c : Config) (bytes : List ℕ) → instr_turn (g s).instr c bytes ≡ instr_turn s.instr c bytes)
    (answers : (s : State) (y : ℕ) → AnswersWith (g s).instr y → AnswersWith s.instr y) where
  same_answers : (o : Option State) (y : ℕ) → AnswerEdge (option_map g o) y → AnswerEdge o y
  same_answers None y a = absurd a
  same_answers (Some s) y a = answers s y a

  same_shortens : q.entry ≡ p.entry → Shortens p q (λ n. n) (λ n. Unit {0}) (λ n. Unit {0})
  same_shortens entry =
      let P : ℕ → Type 0 = λ n. Unit {0} in
      record {
        entry = entry;
        first = tt;
        turns = λ c bytes h. subst (λ (t : Turn). Mirrors (numbered (λ n. n) P) c c (program_turn p c bytes) t) (sym (program_same p q g states turns c bytes))
            (mirrors_self (numbered (λ n. n) P) (λ d. (refl, tt)) (λ d. tt) c (program_turn p c bytes));
        answers = λ x y h a. (y, same_answers (slice_get p.states x) y (subst (λ (o : Option State). AnswerEdge o y) (state_is p q g states x (slice_get p.states x) refl) a), refl, tt);
        lands = λ b z h. (z, 0, stay, refl, tt);
        one = λ x z here there same. same;
      }

  same_loop_free : q.entry ≡ p.entry → IsLoopFree p → IsLoopFree q
  same_loop_free entry = shorter_loop_free p q (λ n. n) (λ n. Unit {0}) (λ n. Unit {0}) (same_shortens entry)

merged_answers : (i : Instr) (y : ℕ) → AnswersWith (merged_instr i) y → AnswersWith i y
merged_answers (Branch fold keep edges rest) y a = a
merged_answers (Invoke code answers other) y a = a
merged_answers (Consume prop next) y a = a
merged_answers (SpanOpen span next) y a = a
merged_answers (SpanClose span next) y a = a
merged_answers (Pause code reason next) y a = a
merged_answers (Fail code reason) y a = a

-- a finished program has no loop where the program has none
pub finished_loop_free : (p : Program) → IsFinishable p → IsLoopFree p → IsLoopFree (finished p)
finished_loop_free p h free =
    let q : Program = skipped p in
    let r : Program = trimmed q in
    let s : Program = merged_program r in
    let Q : ℕ → Type 0 = λ n. slice_get (reached q) n ≡ Some true in
    let without_empty : IsLoopFree q =
    shorter_loop_free p q (landing p.states) (λ n. Unit {0}) (λ n. landing p.states n ≡ n) (skipped_shortens p h.range h.numberless) free in
    let reachable : IsLoopFree r =
    shorter_loop_free q r (rank (reached q)) Q Q (trimmed_shortens q (reached q) (reached_right q (skipped_range p h.range))) without_empty in
    let merged_edges : IsLoopFree s =
    same_loop_free r s merged_state refl (λ n x e. merged_same x.instr (trimmed_ascend p h n x e)) (λ x y. merged_answers x.instr y) refl reachable in
    same_loop_free s (finished p) (moved_origin (rank (used s))) refl (λ n x e c bytes. refl) (λ x y a. a) refl merged_edges
