-- A record changes what is kept of one connection.
use Rattle.std.proofs.Common.{◌≡◌, ℕ, zero, suc, List, [], ◌∷◌, ◌++◌, Option, Some, None, Bool, true, false, refl, sym, ◌∙◌, ap, subst}
use Rattle.std.specs.Prelude.{◌==◌, length, slice_get, slice_set}
use Rattle.std.proofs.lemmas.Bool.{eqb-true, eqb-false}
use Rattle.std.proofs.lemmas.List.{length-set}
use Rattle.std.proofs.lemmas.List.Sums.{fold-append}
use Rattle.pp_capture.specs.Spelling.{Record}
use Rattle.pp_trace.specs.Subject.{Subject}
use Rattle.pp_trace.specs.declared.mode.Mode.{Mode}
use Rattle.pp_trace.specs.Report.{number_of, own, stands, stands_after}
use Rattle.pp_trace.specs.Connection.{Connection}
use Rattle.pp_trace.specs.Kept.{Keeps, StandForAll}
use Rattle.pp_trace.proofs.IsolationLaws.{own_more, own_other}

get-set_same : {X : Type 0} (xs : List X) (i : ℕ) (x y : X) → slice_get (slice_set xs i x) i ≡ Some y → y ≡ x
get-set_same [] i x y e = cc
get-set_same (z ∷ xs) zero x y e = cc
get-set_same (z ∷ xs) (suc i) x y e = get-set_same xs i x y e

get-set_other : {X : Type 0} (xs : List X) (i j : ℕ) (x : X) → (i ≡ j → ⊥) → slice_get (slice_set xs i x) j ≡ slice_get xs j
get-set_other [] i j x d = refl
get-set_other (z ∷ xs) zero zero x d = absurd (d refl)
get-set_other (z ∷ xs) zero (suc j) x d = refl
get-set_other (z ∷ xs) (suc i) zero x d = refl
get-set_other (z ∷ xs) (suc i) (suc j) x d = get-set_other xs i j x (λ e. d (ap suc e))

module _ {Conn : Type 0} (stands_for : Conn → Connection → Type 0) (subject : Subject) (mode : Mode) (limit : ℕ) where
  one_more : (records : List Record) (rec : Record) →
      stands subject mode limit (records ++ rec ∷ []) ≡ stands_after subject mode limit (stands subject mode limit records) rec
  one_more records rec = fold-append (stands_after subject mode limit) None records (rec ∷ [])

  each_by : (conns : List (Option Conn)) (list : List Record) (rec : Record) (conn : Option Conn) → StandForAll stands_for subject mode limit conns list →
      Keeps stands_for subject mode limit conn (stands_after subject mode limit (stands subject mode limit (own (number_of rec) list)) rec) →
      (m : ℕ) (k : Option Conn) (b : Bool) → (number_of rec == m) ≡ b → slice_get (slice_set conns (number_of rec) conn) m ≡ Some k →
      Keeps stands_for subject mode limit k (stands subject mode limit (own m (list ++ rec ∷ [])))
  each_by conns list rec conn h now m k true b e =
      let n : number_of rec ≡ m = eqb-true (number_of rec) m b in
      let here : slice_get (slice_set conns m conn) m ≡ Some k = subst (λ (x : ℕ). slice_get (slice_set conns x conn) m ≡ Some k) n e in
      let same : k ≡ conn = get-set_same conns m conn k here in
      let own_is : stands subject mode limit (own m (list ++ rec ∷ [])) ≡ stands_after subject mode limit (stands subject mode limit (own m list)) rec =
      ap (stands subject mode limit) (own_more m list rec b) ∙ one_more (own m list) rec in
      let there = subst (λ (x : ℕ). Keeps stands_for subject mode limit conn (stands_after subject mode limit (stands subject mode limit (own x list)) rec)) n now in
      subst (λ (x : Option Conn). Keeps stands_for subject mode limit x (stands subject mode limit (own m (list ++ rec ∷ [])))) (sym same)
      (subst (Keeps stands_for subject mode limit conn) (sym own_is) there)
  each_by conns list rec conn h now m k false b e =
      let differs : number_of rec ≡ m → ⊥ = eqb-false (number_of rec) m b in
      let before : slice_get conns m ≡ Some k = sym (get-set_other conns (number_of rec) m conn differs) ∙ e in
      subst (λ (l : List Record). Keeps stands_for subject mode limit k (stands subject mode limit l)) (sym (own_other m list rec b)) (h.each m k before)

  -- where a tracer changes the connection of a record alone, as the record does, it stands for the list with this record
  pub take_stands : (conns : List (Option Conn)) (list : List Record) (rec : Record) (conn : Option Conn) → StandForAll stands_for subject mode limit conns list →
      Keeps stands_for subject mode limit conn (stands_after subject mode limit (stands subject mode limit (own (number_of rec) list)) rec) →
      StandForAll stands_for subject mode limit (slice_set conns (number_of rec) conn) (list ++ rec ∷ [])
  take_stands conns list rec conn h now = record {
    count = length-set conns (number_of rec) conn ∙ h.count;
    each = λ m k e. each_by conns list rec conn h now m k (number_of rec == m) refl e;
  }

  none_kept : (n : ℕ) (conn : Option Conn) → conn ≡ None → Keeps stands_for subject mode limit conn (stands subject mode limit (own n []))
  none_kept n None e = tt
  none_kept n (Some c) e = cc

  -- before the first record all places are empty
  pub none_stand : (conns : List (Option Conn)) → length conns ≡ 256 → ((n : ℕ) (conn : Option Conn) → slice_get conns n ≡ Some conn → conn ≡ None) →
      StandForAll stands_for subject mode limit conns []
  none_stand conns long empty = record { count = long; each = λ n conn e. none_kept n conn (empty n conn e) }
