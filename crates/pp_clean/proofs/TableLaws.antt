-- Tables of places.
use Rattle.std.proofs.Common.{subst, ◌≡◌, ℕ, zero, suc, ◌+◌, ◌*◌, ◌<◌, ◌≤◌, List, [], ◌∷◌, ◌++◌, Option, Some, None, Bool, true, false, cond, refl, sym, ◌∙◌, ap, arith, map, get_or, length, All, append-nil}
use Rattle.std.specs.Prelude.{slice_get, unwrap_or}
use Rattle.std.proofs.lemmas.List.{get_or-map, length-map, get_or_default}
use Rattle.std.proofs.lemmas.Option.{get_or_from_slice_get, slice_get_within}
use Rattle.std.proofs.Math.Numerals.{add-one}
use Rattle.pp_program.specs.declared.program.Edge.{Edge}
use Rattle.pp_program.specs.declared.program.Instr.{Instr}
use Rattle.pp_program.specs.declared.program.Instr.TheVariants.{Branch, Invoke, Consume, SpanOpen, SpanClose, Pause, Fail}
use Rattle.pp_program.specs.declared.program.State.{State}
use Rattle.pp_clean.specs.Skip.{branch_past, instr_past, state_past, past, on_past, full_within, behind, landing}
use Rattle.pp_clean.specs.Reach.{picked, rank}
use Rattle.pp_clean.specs.Search.{TargetsBelow}
use Rattle.pp_clean.specs.Tables.{Tells, goes_on, far, settled_on, settled}
use Rattle.pp_clean.proofs.EndlessLaws.{full_from, endless}

pub rank_zero : (marks : List Bool) → rank marks 0 ≡ 0
rank_zero [] = refl
rank_zero (m ∷ marks) = refl

rank_suc : (marks : List Bool) (i : ℕ) (d : Bool) → i < length marks → rank marks (suc i) ≡ rank marks i + cond (get_or marks i d) 1 0
rank_suc [] i d h = absurd (omega arith)
rank_suc (true ∷ marks) zero d h = let none : rank marks 0 ≡ 0 = rank_zero marks in omega arith
rank_suc (false ∷ marks) zero d h = let none : rank marks 0 ≡ 0 = rank_zero marks in omega arith
rank_suc (true ∷ marks) (suc i) d h = let more : rank marks (suc i) ≡ rank marks i + cond (get_or marks i d) 1 0 = rank_suc marks i d (omega arith) in omega arith
rank_suc (false ∷ marks) (suc i) d h = rank_suc marks i d (omega arith)

pub rank_more : (marks : List Bool) (i : ℕ) (d : Bool) → i < length marks → rank marks (i + 1) ≡ rank marks i + cond (get_or marks i d) 1 0
rank_more marks i d h = rw add-one (rank_suc marks i d h)

module _ (states : List State) where
  far_stuck : (k n : ℕ) → past states n ≡ None → far states k n ≡ n
  far_stuck zero n e = refl
  far_stuck (suc k) n e = ap (goes_on (far states k) n) e

  far_on : (j k n : ℕ) → ((t : ℕ) → far states j (far states k t) ≡ far states (k + j) t) → (o : Option ℕ) → past states n ≡ o →
      far states j (goes_on (far states k) n o) ≡ goes_on (far states (k + j)) n o
  far_on j k n go None e = far_stuck j n e
  far_on j k n go (Some t) e = go t

  far_add : (j k n : ℕ) → far states j (far states k n) ≡ far states (k + j) n
  far_add j zero n = let same : j ≡ 0 + j = omega arith in ap (λ (i : ℕ). far states i n) same
  far_add j (suc k) n =
      let same : suc (k + j) ≡ suc k + j = omega arith in
      far_on j k n (far_add j k) (past states n) refl ∙ ap (λ (i : ℕ). far states i n) same

  abbrev full_of_by : ℕ → Option ℕ → Option ℕ
  full_of_by m None = Some m
  full_of_by m (Some t) = None

  abbrev full_of : ℕ → Option ℕ
  full_of m = full_of_by m (past states m)

  full_on : (k n : ℕ) → ((t : ℕ) → full_within states (suc k) t ≡ full_of (far states k t)) → (o : Option ℕ) → past states n ≡ o →
      on_past (full_within states (suc k)) n o ≡ full_of (goes_on (far states k) n o)
  full_on k n go None e = ap (full_of_by n) (sym e)
  full_on k n go (Some t) e = go t

  full_first : (n : ℕ) (o : Option ℕ) → on_past (full_within states 0) n o ≡ full_of_by n o
  full_first n None = refl
  full_first n (Some t) = refl

  -- what is found is as far as it goes
  full_far : (k n : ℕ) → full_within states (suc k) n ≡ full_of (far states k n)
  full_far zero n = full_first n (past states n)
  full_far (suc k) n = full_on k n (full_far k) (past states n) refl

  landing_by : (k n : ℕ) → length states ≤ k → (o b : Option ℕ) → past states (far states k n) ≡ o → behind states n ≡ b → unwrap_or b n ≡ settled_on n (far states k n) o
  landing_by k n h None None e f =
      let never : full_within states (suc k) n ≡ None = endless states n f (suc k) in
      let found : full_within states (suc k) n ≡ Some (far states k n) = full_far k n ∙ ap (full_of_by (far states k n)) e in cc
  landing_by k n h (Some t) None e f = refl
  landing_by k n h None (Some m) e f =
      let there : full_within states (suc k) n ≡ Some m = full_from states (suc (length states)) (suc k) n m (omega arith) f in
      let found : full_within states (suc k) n ≡ Some (far states k n) = full_far k n ∙ ap (full_of_by (far states k n)) e in cc
  landing_by k n h (Some t) (Some m) e f =
      let there : full_within states (suc k) n ≡ Some m = full_from states (suc (length states)) (suc k) n m (omega arith) f in
      let never : full_within states (suc k) n ≡ None = full_far k n ∙ ap (full_of_by (far states k n)) e in cc

  -- where a move goes is as far as it goes within all states
  pub landing_far : (k n : ℕ) → length states ≤ k → landing states n ≡ settled states n (far states k n)
  landing_far k n h = landing_by k n h (past states (far states k n)) (behind states n) refl refl

  abbrev Within : Type 0
  Within = All (λ s. TargetsBelow (length states) s.instr) states

  bare_below : (m : ℕ) (stay : List (ℕ × ℕ)) (edges : List Edge) (skip : Bool) (number : Option ℕ) (target t : ℕ) → target < m →
      branch_past stay edges (record { skip = skip; number = number; target = target }) ≡ Some t → t < m
  bare_below m [] [] true number target t h e = cc
  bare_below m [] [] false number target t h e = let same : target ≡ t = cc in subst (λ (x : ℕ). x < m) same h
  bare_below m [] (x ∷ edges) skip number target t h e = cc
  bare_below m (r ∷ stay) edges skip number target t h e = cc

  empty_below : (m : ℕ) (i : Instr) (t : ℕ) → TargetsBelow m i → instr_past i ≡ Some t → t < m
  empty_below m (Branch fold stay edges rest) t h e = bare_below m stay edges rest.skip rest.number rest.target t h.0 e
  empty_below m (Invoke code answers other) t h e = cc
  empty_below m (Consume prop next) t h e = cc
  empty_below m (SpanOpen span next) t h e = cc
  empty_below m (SpanClose span next) t h e = cc
  empty_below m (Pause code reason next) t h e = cc
  empty_below m (Fail code reason) t h e = cc

  past_below : (n t : ℕ) (o : Option State) → Within → slice_get states n ≡ o → state_past o ≡ Some t → t < length states
  past_below n t None h e f = cc
  past_below n t (Some s) h e f =
      let at : get_or states n s ≡ s = get_or_from_slice_get states n s s e in
      let below : TargetsBelow (length states) s.instr = subst (λ (x : State). TargetsBelow (length states) x.instr) at (h n s (slice_get_within states n s e)) in
      empty_below (length states) s.instr t below f

  far_below_on : (k n : ℕ) → Within → n < length states → ((t : ℕ) → t < length states → far states k t < length states) → (o : Option ℕ) → past states n ≡ o →
      goes_on (far states k) n o < length states
  far_below_on k n h b go None e = b
  far_below_on k n h b go (Some t) e = go t (past_below n t (slice_get states n) h refl e)

  far_below : (k n : ℕ) → Within → n < length states → far states k n < length states
  far_below zero n h b = b
  far_below (suc k) n h b = far_below_on k n h b (λ t. far_below k t h) (past states n) refl

  -- the places of the table are those of states
  pub table_below : (k : ℕ) (table : List ℕ) → Within → Tells (far states k) (length states) table → All (λ n. n < length states) table
  table_below k table h t i d b =
      let below : i < length states = rw (← t.long) b in
      let at : get_or table i d ≡ far states k i = get_or_default table i d 0 b ∙ t.at i below in
      subst (λ (x : ℕ). x < length states) (sym at) (far_below k i h below)

  -- twice as far
  pub table_twice : (k : ℕ) (table twice : List ℕ) → Within → Tells (far states k) (length states) table → twice ≡ map (λ n. get_or table n 0) table →
      Tells (far states (k * 2)) (length states) twice
  table_twice k table twice h t made = record {
    long = ap length made ∙ length-map table (λ n. get_or table n 0) ∙ t.long;
    at = λ n below. (let inside : n < length table = rw t.long below in
        let double : k + k ≡ k * 2 = omega arith in
        ap (λ (l : List ℕ). get_or l n 0) made ∙ get_or-map (λ (x : ℕ). get_or table x 0) table n 0 0 inside ∙ ap (λ (x : ℕ). get_or table x 0) (t.at n below)
        ∙ t.at (far states k n) (far_below k n h below) ∙ far_add k k n ∙ ap (λ (i : ℕ). far states i n) double);
  }

  pub table_settled : (k : ℕ) (table out : List ℕ) → length states ≤ k → Tells (far states k) (length states) table →
      Tells (λ n. settled states n (get_or table n 0)) (length states) out → Tells (landing states) (length states) out
  table_settled k table out h t s = record {
    long = s.long;
    at = λ n below. s.at n below ∙ ap (settled states n) (t.at n below) ∙ sym (landing_far k n h);
  }

pub picked_nil : {X : Type 0} (marks : List Bool) → picked {X = X} marks [] ≡ []
picked_nil [] = refl
picked_nil (m ∷ marks) = refl

-- one item more, which is marked or not
pub picked_more : {X : Type 0} (marks : List Bool) (xs : List X) (x : X) →
    picked marks (xs ++ x ∷ []) ≡ picked marks xs ++ cond (get_or marks (length xs) false) (x ∷ []) []
picked_more [] xs x = refl
picked_more (true ∷ marks) [] x = ap (λ (l : List _). x ∷ l) (picked_nil marks)
picked_more (false ∷ marks) [] x = picked_nil marks
picked_more (true ∷ marks) (y ∷ xs) x = ap (λ (l : List _). y ∷ l) (picked_more marks xs x)
picked_more (false ∷ marks) (y ∷ xs) x = picked_more marks xs x

pub picked_yes : {X : Type 0} (marks : List Bool) (xs old new : List X) (x : X) (i : ℕ) → i ≡ length xs → old ≡ picked marks xs → new ≡ old ++ x ∷ [] →
    get_or marks i false ≡ true → new ≡ picked marks (xs ++ x ∷ [])
picked_yes {X} marks xs old new x i at kept push mark =
    push ∙ ap (λ (l : List X). l ++ x ∷ []) kept
    ∙ sym (ap (λ (v : Bool). picked marks xs ++ cond v (x ∷ []) []) (ap (λ (k : ℕ). get_or marks k false) (sym at) ∙ mark))
    ∙ sym (picked_more marks xs x)

pub picked_no : {X : Type 0} (marks : List Bool) (xs old new : List X) (x : X) (i : ℕ) → i ≡ length xs → old ≡ picked marks xs → new ≡ old →
    get_or marks i false ≡ false → new ≡ picked marks (xs ++ x ∷ [])
picked_no {X} marks xs old new x i at kept same mark =
    same ∙ kept ∙ sym (append-nil (picked marks xs))
    ∙ sym (ap (λ (v : Bool). picked marks xs ++ cond v (x ∷ []) []) (ap (λ (k : ℕ). get_or marks k false) (sym at) ∙ mark))
    ∙ sym (picked_more marks xs x)
