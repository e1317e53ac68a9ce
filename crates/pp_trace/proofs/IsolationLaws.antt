-- A connection's lines are given by its own records.
use Rattle.std.proofs.Common.{◌≡◌, ℕ, zero, suc, ◌+◌, ◌<◌, ◌≤◌, arith, List, [], ◌∷◌, ◌++◌, Bool, true, false, cond, refl, sym, ◌∙◌, ap, append-nil, ◌⊎◌, inl, inr}
use Rattle.std.specs.Prelude.{◌==◌}
use Rattle.std.proofs.lemmas.Bool.{eqb-true, eqb-false, eq-eqb, ne_eqb, cases_order}
use Rattle.std.proofs.lemmas.List.Elements.{filter-append}
use Rattle.pp_capture.specs.Spelling.{Record}
use Rattle.pp_trace.specs.Subject.{Subject}
use Rattle.pp_trace.specs.Lines.{Line}
use Rattle.pp_trace.specs.declared.mode.Mode.{Mode}
use Rattle.pp_trace.specs.Report.{number_of, own, numbered, lines_of, last_lines, record_lines, lines_after, halt_lines}
use Rattle.pp_trace.specs.Isolation.{of_connection, own_lines_after, own_report, GivesItsOwn, IsIsolated}

kept : {X : Type 0} (x : X) (xs ys : List X) (b : Bool) → b ≡ true → xs ≡ ys → cond b (x ∷ xs) xs ≡ x ∷ ys
kept x xs ys b e h = ap (λ (c : Bool). cond c (x ∷ xs) xs) e ∙ ap (λ (l : List _). x ∷ l) h

passed : {X : Type 0} (x : X) (xs ys : List X) (b : Bool) → b ≡ false → xs ≡ ys → cond b (x ∷ xs) xs ≡ ys
passed x xs ys b e h = ap (λ (c : Bool). cond c (x ∷ xs) xs) e ∙ h

numbered-append : (n : ℕ) (xs ys : List Line) → numbered n (xs ++ ys) ≡ numbered n xs ++ numbered n ys
numbered-append n [] ys = refl
numbered-append n (x ∷ xs) ys = ap (λ (l : List (ℕ × Line)). (n, x) ∷ l) (numbered-append n xs ys)

of_same : (n : ℕ) (lines : List Line) → of_connection n (numbered n lines) ≡ numbered n lines
of_same n [] = refl
of_same n (l ∷ lines) = kept (n, l) (of_connection n (numbered n lines)) (numbered n lines) (n == n) (eq-eqb n n refl) (of_same n lines)

of_other : (n m : ℕ) (lines : List Line) → (m == n) ≡ false → of_connection n (numbered m lines) ≡ []
of_other n m [] e = refl
of_other n m (l ∷ lines) e = passed (m, l) (of_connection n (numbered m lines)) [] (m == n) e (of_other n m lines e)

of_append : (n : ℕ) (xs ys : List (ℕ × Line)) → of_connection n (xs ++ ys) ≡ of_connection n xs ++ of_connection n ys
of_append n xs ys = filter-append (λ l. l.0 == n) xs ys

pub own_more : (n : ℕ) (before : List Record) (rec : Record) → (number_of rec == n) ≡ true → own n (before ++ rec ∷ []) ≡ own n before ++ rec ∷ []
own_more n before rec e =
    filter-append (λ r. number_of r == n) before (rec ∷ [])
    ∙ ap (λ (l : List Record). own n before ++ l) (kept rec [] [] (number_of rec == n) e refl)

pub own_other : (n : ℕ) (before : List Record) (rec : Record) → (number_of rec == n) ≡ false → own n (before ++ rec ∷ []) ≡ own n before
own_other n [] rec e = passed rec [] [] (number_of rec == n) e refl
own_other n (r ∷ before) rec e =
    let h = own_other n before rec e in
    ap (λ (l : List Record). cond (number_of r == n) (r ∷ l) l) h

below : (m n : ℕ) → m ≤ n → (m ≡ n → ⊥) → suc m ≤ n
below m n h d = go (cases_order m n)
  where
    go : (m ≡ n) ⊎ ((m < n) ⊎ (n < m)) → suc m ≤ n
    go (inl e) = absurd (d e)
    go (inr (inl l)) = omega (arith, l)
    go (inr (inr l)) = absurd (omega (arith, l, h))

module _ (subject : Subject) (mode : Mode) (limit : ℕ) where
  own_lines_by : (n : ℕ) (before : List Record) (rec : Record) (later : List Record) (b : Bool) → (number_of rec == n) ≡ b →
      of_connection n (lines_after subject mode limit (before ++ rec ∷ []) later)
      ≡ numbered n (own_lines_after subject mode limit (own n (before ++ rec ∷ [])) (own n later)) →
      of_connection n (record_lines subject mode limit before rec ++ lines_after subject mode limit (before ++ rec ∷ []) later)
      ≡ numbered n (own_lines_after subject mode limit (own n before) (cond b (rec ∷ own n later) (own n later)))
  own_lines_by n before rec later true e h =
      let rest : List (ℕ × Line) = of_connection n (lines_after subject mode limit (before ++ rec ∷ []) later) in
      let lines : List Line = lines_of subject mode limit (own n before) rec in
      of_append n (record_lines subject mode limit before rec) (lines_after subject mode limit (before ++ rec ∷ []) later)
      ∙ ap (λ (m : ℕ). of_connection n (numbered m (lines_of subject mode limit (own m before) rec)) ++ rest) (eqb-true (number_of rec) n e)
      ∙ ap (λ (l : List (ℕ × Line)). l ++ rest) (of_same n lines)
      ∙ ap (λ (l : List (ℕ × Line)). numbered n lines ++ l) h
      ∙ ap (λ (l : List Record). numbered n lines ++ numbered n (own_lines_after subject mode limit l (own n later))) (own_more n before rec e)
      ∙ sym (numbered-append n lines (own_lines_after subject mode limit (own n before ++ rec ∷ []) (own n later)))
  own_lines_by n before rec later false e h =
      let rest : List (ℕ × Line) = of_connection n (lines_after subject mode limit (before ++ rec ∷ []) later) in
      of_append n (record_lines subject mode limit before rec) (lines_after subject mode limit (before ++ rec ∷ []) later)
      ∙ ap (λ (l : List (ℕ × Line)). l ++ rest) (of_other n (number_of rec) (lines_of subject mode limit (own (number_of rec) before) rec) e)
      ∙ h
      ∙ ap (λ (l : List Record). numbered n (own_lines_after subject mode limit l (own n later))) (own_other n before rec e)

  pub own_lines : (n : ℕ) (before later : List Record) →
      of_connection n (lines_after subject mode limit before later) ≡ numbered n (own_lines_after subject mode limit (own n before) (own n later))
  own_lines n before [] = refl
  own_lines n before (rec ∷ later) = own_lines_by n before rec later (number_of rec == n) refl (own_lines n (before ++ rec ∷ []) later)

  halt_none : (n : ℕ) (list : List Record) (m more : ℕ) → n < m → of_connection n (halt_lines subject mode limit list m more) ≡ []
  halt_none n list m zero h = refl
  halt_none n list m (suc more) h =
      of_append n (numbered m (last_lines subject mode limit (own m list))) (halt_lines subject mode limit list (suc m) more)
      ∙ ap (λ (l : List (ℕ × Line)). l ++ of_connection n (halt_lines subject mode limit list (suc m) more)) (of_other n m (last_lines subject mode limit (own m list)) (ne_eqb m n (λ e. omega (arith, e, h))))
      ∙ halt_none n list (suc m) more (omega (arith, h))

  halt_by : (n : ℕ) (list : List Record) (m more : ℕ) (b : Bool) → (m == n) ≡ b → m ≤ n → n < m + suc more →
      (suc m ≤ n → n < suc m + more → of_connection n (halt_lines subject mode limit list (suc m) more) ≡ numbered n (last_lines subject mode limit (own n list))) →
      of_connection n (numbered m (last_lines subject mode limit (own m list)) ++ halt_lines subject mode limit list (suc m) more)
      ≡ numbered n (last_lines subject mode limit (own n list))
  halt_by n list m more true e h k go =
      let same : m ≡ n = eqb-true m n e in
      let lines : List Line = last_lines subject mode limit (own n list) in
      of_append n (numbered m (last_lines subject mode limit (own m list))) (halt_lines subject mode limit list (suc m) more)
      ∙ ap (λ (l : List (ℕ × Line)). of_connection n (numbered m (last_lines subject mode limit (own m list))) ++ l) (halt_none n list (suc m) more (omega (arith, same)))
      ∙ append-nil (of_connection n (numbered m (last_lines subject mode limit (own m list))))
      ∙ ap (λ (x : ℕ). of_connection n (numbered x (last_lines subject mode limit (own x list)))) same
      ∙ of_same n lines
  halt_by n list m more false e h k go =
      let differs : m ≡ n → ⊥ = eqb-false m n e in
      of_append n (numbered m (last_lines subject mode limit (own m list))) (halt_lines subject mode limit list (suc m) more)
      ∙ ap (λ (l : List (ℕ × Line)). l ++ of_connection n (halt_lines subject mode limit list (suc m) more)) (of_other n m (last_lines subject mode limit (own m list)) e)
      ∙ go (below m n h differs) (omega (arith, k))

  halt_own : (n : ℕ) (list : List Record) (m more : ℕ) → m ≤ n → n < m + more → of_connection n (halt_lines subject mode limit list m more) ≡ numbered n (last_lines subject mode limit (own n list))
  halt_own n list m zero h k = absurd (omega (arith, h, k))
  halt_own n list m (suc more) h k = halt_by n list m more (m == n) refl h k (halt_own n list (suc m) more)

  pub gives_its_own : GivesItsOwn subject mode limit
  gives_its_own n list h =
      of_append n (lines_after subject mode limit [] list) (halt_lines subject mode limit list 0 256)
      ∙ ap (λ (l : List (ℕ × Line)). l ++ of_connection n (halt_lines subject mode limit list 0 256)) (own_lines n [] list)
      ∙ ap (λ (l : List (ℕ × Line)). numbered n (own_lines_after subject mode limit [] (own n list)) ++ l) (halt_own n list 0 256 (omega arith) h)
      ∙ sym (numbered-append n (own_lines_after subject mode limit [] (own n list)) (last_lines subject mode limit (own n list)))

  pub isolated : IsIsolated subject mode limit
  isolated n xs ys h e =
      gives_its_own n xs h ∙ ap (λ (l : List Record). numbered n (own_report subject mode limit l)) e ∙ sym (gives_its_own n ys h)
