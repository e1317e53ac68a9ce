-- An empty state behind which none is found within all states has none behind it.
use Rattle.std.proofs.Common.{subst, ◌≡◌, ℕ, zero, suc, ◌+◌, ◌<◌, ◌≤◌, List, Option, Some, None, refl, sym, ◌∙◌, ap, arith, length, ◌-◌, ◌⊎◌, inl, inr}
use Rattle.std.specs.Prelude.{slice_get, unwrap_or}
use Rattle.std.proofs.lemmas.Bool.{cases_order}
use Rattle.std.proofs.lemmas.Option.{slice_get_within}
use Rattle.pp_clean.proofs.Pigeons.{pigeons}
use Rattle.pp_program.specs.declared.program.State.{State}
use Rattle.pp_clean.specs.Skip.{state_past, past, on_past, full_within, behind}
use Rattle.pp_clean.specs.Finished.{IsEndless}
use Rattle.pp_clean.proofs.SkipLaws.{full_more}

empty_in_some : (states : List State) (n t : ℕ) (o : Option State) → slice_get states n ≡ o → state_past o ≡ Some t → n < length states
empty_in_some states n t None e h = cc
empty_in_some states n t (Some s) e h = slice_get_within states n s e

-- an empty state stands at a place
pub past_within : (states : List State) (n t : ℕ) → past states n ≡ Some t → n < length states
past_within states n t h = empty_in_some states n t (slice_get states n) refl h

full_add : (states : List State) (d j n m : ℕ) → full_within states j n ≡ Some m → full_within states (d + j) n ≡ Some m
full_add states zero j n m e = let same : 0 + j ≡ j = omega arith in ap (λ (i : ℕ). full_within states i n) same ∙ e
full_add states (suc d) j n m e =
    let same : suc d + j ≡ suc (d + j) = omega arith in
    ap (λ (i : ℕ). full_within states i n) same ∙ full_more states (d + j) n m (full_add states d j n m e)

pub full_from : (states : List State) (j k n m : ℕ) → j ≤ k → full_within states j n ≡ Some m → full_within states k n ≡ Some m
full_from states j k n m h e = let same : k ≡ k - j + j = omega arith in ap (λ (i : ℕ). full_within states i n) same ∙ full_add states (k - j) j n m e

module _ (states : List State) where
  -- so many moves on from n, through empty states
  abbrev walk : ℕ → ℕ → ℕ
  walk n zero = n
  walk n (suc i) = unwrap_or (past states (walk n i)) (walk n i)

  -- m is found from x within one place more than k, and not within k
  abbrev First : ℕ → ℕ → ℕ → Type 0
  First m k x = (full_within states k x ≡ None) × (full_within states (suc k) x ≡ Some m)

  first_by : (m k x : ℕ) (o : Option ℕ) → past states x ≡ o → First m (suc k) x → (past states x ≡ Some (unwrap_or o x)) × First m k (unwrap_or o x)
  first_by m k x None e h =
      let found : full_within states (suc k) x ≡ Some x = ap (on_past (full_within states k) x) e in
      let not_found : full_within states (suc k) x ≡ None = h.0 in cc
  first_by m k x (Some t) e h =
      (e, (sym (ap (on_past (full_within states k) x) e) ∙ h.0, sym (ap (on_past (full_within states (suc k)) x) e) ∙ h.1))

  walk_first : (m n k i j : ℕ) → i + j ≡ k → First m k n → First m j (walk n i)
  walk_first m n k zero j e h = let same : k ≡ j = omega arith in subst (λ (x : ℕ). First m x n) same h
  walk_first m n k (suc i) j e h =
      (first_by m j (walk n i) (past states (walk n i)) refl (walk_first m n k i (suc j) (omega arith) h)).1

  walk_past : (m n k i j : ℕ) → i + suc j ≡ k → First m k n → walk n i < length states
  walk_past m n k i j e h =
      let step = first_by m j (walk n i) (past states (walk n i)) refl (walk_first m n k i (suc j) e h) in
      past_within states (walk n i) (unwrap_or (past states (walk n i)) (walk n i)) step.0

  less_apart : (m n k i l : ℕ) → First m k n → i < l → l < k → walk n i ≡ walk n l → ⊥
  less_apart m n k i l h less below same =
      let a : First m (k - i) (walk n i) = walk_first m n k i (k - i) (omega arith) h in
      let b : First m (k - l) (walk n l) = walk_first m n k l (k - l) (omega arith) h in
      let c : full_within states (k - i) (walk n l) ≡ Some m = full_from states (suc (k - l)) (k - i) (walk n l) m (omega arith) b.1 in
      let d : full_within states (k - i) (walk n i) ≡ Some m = ap (full_within states (k - i)) same ∙ c in
      let none : full_within states (k - i) (walk n i) ≡ None = a.0 in cc

  apart : (m n k i l : ℕ) → First m k n → i < k → l < k → walk n i ≡ walk n l → i ≡ l
  apart m n k i l h p q same = by_order (cases_order i l)
    where
      by_order : (i ≡ l) ⊎ ((i < l) ⊎ (l < i)) → i ≡ l
      by_order (inl e) = e
      by_order (inr (inl less)) = absurd (less_apart m n k i l h less q same)
      by_order (inr (inr more)) = absurd (less_apart m n k l i h more p (sym same))

  -- what is found is found within all states and one place more
  first_short : (m n k : ℕ) → First m k n → k ≤ length states
  first_short m n k h =
      pigeons k (length states) (walk n) (λ i p. walk_past m n k i (k - suc i) (omega arith) h) (λ i l p q same. apart m n k i l h p q same)

  endless_on : (n k : ℕ) → behind states n ≡ None → full_within states k n ≡ None → (o : Option ℕ) → full_within states (suc k) n ≡ o → o ≡ None
  endless_on n k e none None f = refl
  endless_on n k e none (Some m) f =
      let short : k ≤ length states = first_short m n k (none, f) in
      let found : behind states n ≡ Some m = full_from states (suc k) (suc (length states)) n m (omega arith) f in cc

  pub endless : (n : ℕ) → behind states n ≡ None → IsEndless states n
  endless n e zero = refl
  endless n e (suc k) = endless_on n k e (endless n e k) (full_within states (suc k) n) refl
