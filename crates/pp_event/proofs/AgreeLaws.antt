-- Runs whose hosts answer alike.
use Rattle.std.proofs.Common.{subst, ◌≡◌, ℕ, zero, suc, ◌+◌, List, [], ◌∷◌, ◌++◌, Some, cond, refl, sym, ◌∙◌, ap, arith, append_assoc, length, get_or, drop, add-zero}
use Rattle.std.proofs.lemmas.List.{get_or-append-add}
use Rattle.std.proofs.lemmas.List.Sums.{sum_by-append}
use Rattle.std.specs.Prelude.{count_by}
use Rattle.pp_event.specs.declared.item.Item.{Item}
use Rattle.pp_event.specs.declared.item.Item.TheVariants.{Call, Span, Pause}
use Rattle.pp_event.specs.Chain.{Move, On, Over, then, run_for}
use Rattle.pp_event.specs.Run.{Config, Turn, Goes, Asks, Rests, Stops, Fails, Machine, Oracle, Stage, RunResult, Paused, move, move_by, telling, pass}
use Rattle.pp_event.specs.Answers.{by_list, is_call, answers_in, Honest}
use Rattle.pp_event.specs.Growth.{Extends, behind, behind_result}
use Rattle.pp_event.proofs.RunLaws.{grows}

pub answers_in-more : (xs ys : List Item) → answers_in (xs ++ ys) ≡ answers_in xs ++ answers_in ys
answers_in-more [] ys = refl
answers_in-more (Call code value at values answer ∷ xs) ys = ap (λ (l : List ℕ). answer ∷ l) (answers_in-more xs ys)
answers_in-more (Span span from to ∷ xs) ys = answers_in-more xs ys
answers_in-more (Pause code at ∷ xs) ys = answers_in-more xs ys

pub count-more : (xs ys : List Item) → count_by is_call (xs ++ ys) ≡ count_by is_call xs + count_by is_call ys
count-more xs ys = sum_by-append (λ x. cond (is_call x) 1 0) xs ys

pub answers_count : (xs : List Item) → length (answers_in xs) ≡ count_by is_call xs
answers_count [] = refl
answers_count (Call code value at values answer ∷ xs) = (let h : length (answers_in xs) ≡ count_by is_call xs = answers_count xs in sym (count-more (Call code value at values answer ∷ []) xs ∙ ap (λ (k : ℕ). 1 + k) (sym h) ∙ omega arith))
answers_count (Span span from to ∷ xs) = answers_count xs ∙ sym (count-more (Span span from to ∷ []) xs ∙ omega arith)
answers_count (Pause code at ∷ xs) = answers_count xs ∙ sym (count-more (Pause code at ∷ []) xs ∙ omega arith)

-- the list of the answers, with whatever behind them
pub honest_list : (answers more : List ℕ) (items : List Item) → answers ≡ answers_in items ++ more → Honest (by_list answers) items
honest_list answers more items e xs ys code value at values answer h =
    let x : Item = Call code value at values answer in
    let here : answers ≡ answers_in xs ++ (answer ∷ (answers_in ys ++ more)) =
    e ∙ ap (λ (l : List Item). answers_in l ++ more) h ∙ ap (λ (l : List ℕ). l ++ more) (answers_in-more xs (x ∷ ys)) ∙ append_assoc (answers_in xs) (answer ∷ answers_in ys) more in
    ap (get_or answers (count_by is_call xs)) refl
    ∙ ap (λ (l : List ℕ). get_or l (count_by is_call xs) 0) here
    ∙ ap (λ (k : ℕ). get_or (answers_in xs ++ (answer ∷ (answers_in ys ++ more))) k 0) (sym (answers_count xs) ∙ sym (add-zero (length (answers_in xs))))
    ∙ get_or-append-add (answers_in xs) (answer ∷ (answers_in ys ++ more)) 0 0

module _ (turn : Machine) (one other : Oracle) where
  agree_then : (n : ℕ) (r : RunResult) → ((s : Stage) → run_for (move turn one) n s ≡ Some r → run_for (move turn other) n s ≡ Some r) →
      (v u : Move Stage RunResult) → v ≡ u → then (run_for (move turn one) n) v ≡ Some r → then (run_for (move turn other) n) u ≡ Some r
  agree_then n r go v u e p = subst (λ (m : Move Stage RunResult). then (run_for (move turn other) n) m ≡ Some r) e (each v p)
    where
      each : (v : Move Stage RunResult) → then (run_for (move turn one) n) v ≡ Some r → then (run_for (move turn other) n) v ≡ Some r
      each (On s) p = go s p
      each (Over q) p = p

  same_move : (n : ℕ) (s : Stage) (r : RunResult) (t : Turn) → Honest other r.last.items → then (run_for (move turn one) n) (move_by one s t) ≡ Some r → move_by one s t ≡ move_by other s t
  same_move n s r (Goes d k items) h p = refl
  same_move n s r (Asks code value next) h p =
      let x : Item = Call code value s.config.at s.config.values (one s.items code) in
      let grown : Extends (s.items ++ x ∷ []) r.last.items = grows turn one n (telling s (x ∷ []) (next (one s.items code)) s.rest) r p in
      let same : other s.items code ≡ one s.items code = h s.items grown.0 code value s.config.at s.config.values (one s.items code) (grown.1 ∙ append_assoc s.items (x ∷ []) grown.0) in
      ap (λ (a : ℕ). On (telling s (Call code value s.config.at s.config.values a ∷ []) (next a) s.rest)) (sym same)
  same_move n s r (Rests d) h p = refl
  same_move n s r (Stops code d) h p = refl
  same_move n s r (Fails code) h p = refl

  -- a run is the same under another oracle that gives the same answers
  pub agree_for : (n : ℕ) (s : Stage) (r : RunResult) → Honest other r.last.items → run_for (move turn one) n s ≡ Some r → run_for (move turn other) n s ≡ Some r
  agree_for zero s r h p = cc
  agree_for (suc n) s r h p =
      agree_then n r (λ d q. agree_for n d r h q) (move turn one s) (move turn other s) (same_move n s r (turn s.config s.rest) h p) p

-- a move behind other items
abbrev pub behind_move : List Item → Move Stage RunResult → Move Stage RunResult
behind_move before (On s) = On (behind before s)
behind_move before (Over r) = Over (behind_result before r)

module _ (turn : Machine) (one other : Oracle) (before : List Item) (same : (xs : List Item) (code : ℕ) → other (before ++ xs) code ≡ one xs code) where
  pass_behind : (s : Stage) (code : ℕ) (d : Config) (r : ℕ) → pass (behind before s) code d r ≡ behind_move before (pass s code d r)
  pass_behind s code d zero =
      ap (λ (l : List Item). Over (record { finish = Paused code; last = record { config = s.config; rest = s.rest; items = l; resumes = s.resumes } })) (append_assoc before s.items (Pause code s.config.at ∷ []))
  pass_behind s code d (suc r) =
      ap (λ (l : List Item). On (record { config = d; rest = s.rest; items = l; resumes = r })) (append_assoc before s.items (Pause code s.config.at ∷ []))

  move_behind : (s : Stage) (t : Turn) → move_by other (behind before s) t ≡ behind_move before (move_by one s t)
  move_behind s (Goes d k items) =
      ap (λ (l : List Item). On (record { config = d; rest = drop k s.rest; items = l; resumes = s.resumes })) (append_assoc before s.items items)
  move_behind s (Asks code value next) =
      let told : ℕ → List Item = λ a. Call code value s.config.at s.config.values a ∷ [] in
      ap (λ (a : ℕ). On (record { config = next a; rest = s.rest; items = (before ++ s.items) ++ told a; resumes = s.resumes })) (same s.items code)
      ∙ ap (λ (l : List Item). On (record { config = next (one s.items code); rest = s.rest; items = l; resumes = s.resumes })) (append_assoc before s.items (told (one s.items code)))
  move_behind s (Rests d) = refl
  move_behind s (Stops code d) = pass_behind s code d s.resumes
  move_behind s (Fails code) = refl

  behind_then : (n : ℕ) (r : RunResult) → ((s : Stage) → run_for (move turn one) n s ≡ Some r → run_for (move turn other) n (behind before s) ≡ Some (behind_result before r)) →
      (v : Move Stage RunResult) → then (run_for (move turn one) n) v ≡ Some r → then (run_for (move turn other) n) (behind_move before v) ≡ Some (behind_result before r)
  behind_then n r go (On s) p = go s p
  behind_then n r go (Over q) p = (let e : q ≡ r = cc in ap (λ (x : RunResult). Some (behind_result before x)) e)

  -- a run behind other items
  pub behind_for : (n : ℕ) (s : Stage) (r : RunResult) → run_for (move turn one) n s ≡ Some r → run_for (move turn other) n (behind before s) ≡ Some (behind_result before r)
  behind_for zero s r p = cc
  behind_for (suc n) s r p =
      subst (λ (m : Move Stage RunResult). then (run_for (move turn other) n) m ≡ Some (behind_result before r)) (sym (move_behind s (turn s.config s.rest)))
      (behind_then n r (λ d q. behind_for n d r q) (move turn one s) p)

-- behind as many calls as there are earlier answers
pub behind_list : (earlier more : List ℕ) (before xs : List Item) (code : ℕ) → length earlier ≡ count_by is_call before → by_list (earlier ++ more) (before ++ xs) code ≡ by_list more xs code
behind_list earlier more before xs code h =
    ap (λ (k : ℕ). get_or (earlier ++ more) k 0) (count-more before xs ∙ ap (λ (k : ℕ). k + count_by is_call xs) (sym h))
    ∙ get_or-append-add earlier more (count_by is_call xs) 0
