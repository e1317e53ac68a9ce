-- Sets that are tried one by one.
use Rattle.std.proofs.Common.{◌≡◌, ◌⊎◌, inl, inr, ℕ, zero, suc, ◌<◌, ◌≤◌, List, [], ◌∷◌, Some, refl, sym, ◌∙◌, ap, subst, arith, length, drop, set, length-set}
use Rattle.std.specs.Prelude.{slice_get}
use Rattle.std.proofs.lemmas.Bool.{cases_lt}
use Rattle.std.proofs.lemmas.Option.{slice_get_within}
use Rattle.pp_event.specs.Values.{with_sets}
use Rattle.pp_program.specs.declared.program.Program.{Program}
use Rattle.pp_program.specs.Runnable.{CanHold}
use Rattle.pp_engine.specs.declared.sets.SetFault.{SetFault}
use Rattle.pp_engine.specs.Sets.{AreRightBefore, AreRight, IsWrong, IsFirstWrong}

-- the sets before a place are right, and these are the values by them
pub record Tried (p : Program) (sets : List (ℕ × ℕ)) (start values : List ℕ) (i : ℕ) : Type 0 where
  pub right : AreRightBefore p sets i
  pub rest : with_sets (drop i sets) values ≡ with_sets sets start
  pub long : length values ≡ length p.props

pub tried_first : (p : Program) (sets : List (ℕ × ℕ)) (start : List ℕ) → length start ≡ length p.props → Tried p sets start start 0
tried_first p sets start long = record { right = λ i x n t. absurd (omega (arith, n)); rest = refl; long = long }

dropped : (sets : List (ℕ × ℕ)) (i : ℕ) (x : ℕ × ℕ) → slice_get sets i ≡ Some x → drop i sets ≡ x ∷ drop (suc i) sets
dropped [] i x t = cc
dropped (y ∷ sets) zero x t = (let same : y ≡ x = cc in ap (λ (z : ℕ × ℕ). z ∷ sets) same)
dropped (y ∷ sets) (suc i) x t = dropped sets i x t

pub tried_more : (p : Program) (sets : List (ℕ × ℕ)) (start values : List ℕ) (i : ℕ) (x : ℕ × ℕ) → Tried p sets start values i → slice_get sets i ≡ Some x → CanHold p x.0 x.1 →
    Tried p sets start (set values x.0 x.1) (suc i)
tried_more p sets start values i x t there holds = record {
  right = λ j y n e. go j y n e (cases_lt j i);
  rest = sym (ap (λ (l : List (ℕ × ℕ)). with_sets l values) (dropped sets i x there)) ∙ t.rest;
  long = length-set values x.0 x.1 ∙ t.long;
}
  where
    go : (j : ℕ) (y : ℕ × ℕ) → j < suc i → slice_get sets j ≡ Some y → (j < i) ⊎ (i ≤ j) → CanHold p y.0 y.1
    go j y n e (inl before) = t.right j y before e
    go j y n e (inr at) =
        let here : Some y ≡ Some x = sym e ∙ ap (slice_get sets) (let same : j ≡ i = omega arith in same) ∙ there in
        let one : y ≡ x = cc in
        subst (λ (z : ℕ × ℕ). CanHold p z.0 z.1) (sym one) holds

-- a wrong set behind right ones
pub first_wrong : (p : Program) (sets : List (ℕ × ℕ)) (start values : List ℕ) (i : ℕ) (x : ℕ × ℕ) (fault : SetFault) → Tried p sets start values i → slice_get sets i ≡ Some x →
    IsWrong p x i fault → IsFirstWrong p sets fault
first_wrong p sets start values i x fault t there wrong = record { place = i; set = x; there = there; wrong = wrong; before = t.right }

-- all sets are tried
pub all_right : (p : Program) (sets : List (ℕ × ℕ)) (start values : List ℕ) (i : ℕ) → Tried p sets start values i → length sets ≤ i → AreRight p sets
all_right p sets start values i t n j x e = t.right j x (let m : j < length sets = slice_get_within sets j x e in omega arith) e
