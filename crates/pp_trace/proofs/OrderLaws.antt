-- A connection stands somehow exactly where a record began it.
use Rattle.std.proofs.Common.{◌≡◌, ℕ, List, [], ◌∷◌, Option, Some, None, Bool, true, false, cond, refl, sym, ◌∙◌, ap}
use Rattle.std.specs.Prelude.{◌==◌, ◌||◌, fold, is_some}
use Rattle.std.specs.List.{list_any}
use Rattle.pp_capture.specs.Spelling.{Record, Begins, Carries, Resumes, Finishes, Halts}
use Rattle.pp_trace.specs.declared.mode.Mode.{Mode}
use Rattle.pp_trace.specs.Connection.{Connection}
use Rattle.pp_trace.specs.Faults.{begins, is_begun}
use Rattle.pp_trace.specs.Report.{number_of, own, stands, stands_after}
use Rattle.pp_trace.specs.Subject.{Subject}

or-false : (b : Bool) → b ≡ b || false
or-false true = refl
or-false false = refl

-- a record of another connection doesn't begin this one
begins-other : (n : ℕ) (rec : Record) → (number_of rec == n) ≡ false → begins n rec ≡ false
begins-other n (Begins conn sets script) e = e
begins-other n (Carries conn part) e = refl
begins-other n (Resumes conn) e = refl
begins-other n (Finishes conn) e = refl
begins-other n Halts e = refl

module _ (subject : Subject) (mode : Mode) (limit : ℕ) where
  -- one record of the connection more
  begun-after : (n : ℕ) (c : Option Connection) (rec : Record) → (number_of rec == n) ≡ true →
      is_some (stands_after subject mode limit c rec) ≡ is_some c || begins n rec
  begun-after n (Some c) rec e = refl
  begun-after n None (Begins conn sets script) e = sym e
  begun-after n None (Carries conn part) e = refl
  begun-after n None (Resumes conn) e = refl
  begun-after n None (Finishes conn) e = refl
  begun-after n None Halts e = refl

  or-assoc : (a b c : Bool) → (a || b) || c ≡ a || (b || c)
  or-assoc true b c = refl
  or-assoc false b c = refl

  -- behind one record, of this connection or of another one
  begun-first : (n : ℕ) (c : Option Connection) (rec : Record) (list : List Record) (b : Bool) → (number_of rec == n) ≡ b →
      ((d : Option Connection) → is_some (fold (stands_after subject mode limit) d (own n list)) ≡ is_some d || list_any (begins n) list) →
      is_some (fold (stands_after subject mode limit) c (cond b (rec ∷ own n list) (own n list))) ≡ is_some c || (begins n rec || list_any (begins n) list)
  begun-first n c rec list true e go =
      go (stands_after subject mode limit c rec)
      ∙ ap (λ (x : Bool). x || list_any (begins n) list) (begun-after n c rec e)
      ∙ or-assoc (is_some c) (begins n rec) (list_any (begins n) list)
  begun-first n c rec list false e go =
      go c ∙ ap (λ (x : Bool). is_some c || (x || list_any (begins n) list)) (sym (begins-other n rec e))

  begun-from : (n : ℕ) (list : List Record) (c : Option Connection) →
      is_some (fold (stands_after subject mode limit) c (own n list)) ≡ is_some c || list_any (begins n) list
  begun-from n [] c = or-false (is_some c)
  begun-from n (rec ∷ list) c = begun-first n c rec list (number_of rec == n) refl (begun-from n list)

  -- so it is in a list of records
  pub stands-begun : (n : ℕ) (list : List Record) → is_some (stands subject mode limit (own n list)) ≡ is_begun n list
  stands-begun n list = begun-from n list None
