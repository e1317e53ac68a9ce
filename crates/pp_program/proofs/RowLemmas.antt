-- Rows for the steps of a branch.
use Rattle.std.proofs.Common.{subst, ◌≡◌, ◌↔◌, ℕ, ◌+◌, ◌≤◌, ◌<◌, Bool, true, false, refl, sym, ◌∙◌, ap, arith, inl, inr, ◌&&◌, eqb}
use mathlib.Core.Bool.{beq}
use Rattle.std.specs.Prelude.{not}
use Rattle.std.proofs.lemmas.Bool.{cases_lt, eqb-true, false≢true}
use Rattle.pp_flow.specs.Chart.{Chart}
use Rattle.pp_flow.specs.declared.moves.Move.{Move}
use Rattle.pp_program.specs.declared.branch.Step.{Step}
use Rattle.pp_program.specs.steps.Ends.{StepsBelow}
use Rattle.pp_flow.specs.Rows.{Way, free, onward, edge, OrEnds, RowEnds, Rowed}
use Rattle.pp_flow.proofs.RowLemmas.{rowed-then, rowed-same}

not-true : (t : Bool) → not t ≡ true → t ≡ false
not-true true e = absurd (false≢true e)
not-true false e = refl

-- a row for the same step on all bytes from lo to hi, behind those below lo
pub steps-more : (state : ℕ) (step : ℕ → Step) (last : Step) (lo hi : ℕ) → lo ≤ hi → ((a : ℕ) → lo ≤ a → a ≤ hi → step a ≡ last) → (way : Way) (x next : ℕ) → x < 256 →
    OrEnds (StepsBelow step lo) (RowEnds (record { from = state; to = last.target; lo = lo; hi = hi; free = not last.takes; onward = last.takes })) way x next ↔ StepsBelow step (hi + 1) way x next
steps-more state step last lo hi le same free x next low = (
  (λ h. elim h [
    | inl old ↦ (omega (arith, old.0), old.1)
    | inr new ↦ (let e : step x ≡ last = same x new.1.1 new.1.2 in (omega (arith, new.1.2), (ap (λ (s : Step). s.target) e ∙ new.0, ap (λ (s : Step). s.takes) e ∙ not-true last.takes new.1.0)))
  ]),
  (λ h. elim (cases_lt x lo) [
    | inl less ↦ inl (less, h.1)
    | inr more ↦ (let e : step x ≡ last = same x more (omega (arith, h.0)) in inr (sym (ap (λ (s : Step). s.target) e) ∙ h.1.0, (ap not (sym (ap (λ (s : Step). s.takes) e) ∙ h.1.1), more, omega (arith, h.0))))
  ]),
)
steps-more state step last lo hi le same onward x next low = (
  (λ h. elim h [
    | inl old ↦ (omega (arith, old.0), old.1)
    | inr new ↦ (let e : step x ≡ last = same x new.1.1 new.1.2 in (omega (arith, new.1.2), (ap (λ (s : Step). s.target) e ∙ new.0, ap (λ (s : Step). s.takes) e ∙ new.1.0)))
  ]),
  (λ h. elim (cases_lt x lo) [
    | inl less ↦ inl (less, h.1)
    | inr more ↦ (let e : step x ≡ last = same x more (omega (arith, h.0)) in inr (sym (ap (λ (s : Step). s.target) e) ∙ h.1.0, (sym (ap (λ (s : Step). s.takes) e) ∙ h.1.1, more, omega (arith, h.0))))
  ]),
)
steps-more state step last lo hi le same edge x next low = (
  (λ h. elim h [
    | inl old ↦ (old.0, omega (arith, old.1), old.2)
    | inr new ↦ (lo, omega (arith, le), ap (λ (s : Step). s.target) (same lo (omega arith) le) ∙ new.0)
  ]),
  (λ h. elim (cases_lt h.0 lo) [
    | inl less ↦ inl (h.0, less, h.2)
    | inr more ↦ inr (sym (ap (λ (s : Step). s.target) (same h.0 more (omega (arith, h.1)))) ∙ h.2, tt)
  ]),
)

-- the step changes at i, and a row tells those from lo on
pub steps-cut : (a b c : Chart) (m : Move) (state : ℕ) (step : ℕ → Step) (last : Step) (lo hi i : ℕ) → lo ≤ hi → hi + 1 ≡ i → ((x : ℕ) → lo ≤ x → x < i → step x ≡ last) →
    m ≡ record { from = state; to = last.target; lo = lo; hi = hi; free = not last.takes; onward = last.takes } →
    Rowed a b (StepsBelow step lo) → Rowed b c (RowEnds m) → Rowed a c (StepsBelow step i)
steps-cut a b c m state step last lo hi i le e same is f g =
    subst (λ n. Rowed a c (StepsBelow step n)) e
    (rowed-same a c _ _ (steps-more state step last lo hi le (λ x low high. same x low (omega (arith, high, e))))
    (rowed-then a b c _ _ f (subst (λ (x : Move). Rowed b c (RowEnds x)) is g)))

not-false : (t : Bool) → not t ≡ false → t ≡ true
not-false true e = refl
not-false false e = absurd (false≢true (sym e))

pub both-true : (s t : Bool) → (s && t) ≡ true → (s ≡ true) × (t ≡ true)
both-true true t e = (refl, e)
both-true false t e = absurd (false≢true e)

same-takes : (s t : Bool) → beq s t ≡ true → s ≡ t
same-takes true true e = refl
same-takes true false e = absurd (false≢true e)
same-takes false true e = absurd (false≢true e)
same-takes false false e = refl

-- steps that aren't told to differ are the same
pub same-step : (x y : Step) (t : Bool) → t ≡ not (eqb x.target y.target && beq x.takes y.takes) → t ≡ false → x ≡ y
same-step x y t e f =
    let both = both-true (eqb x.target y.target) (beq x.takes y.takes) (not-false _ (sym e ∙ f)) in
    let to : x.target ≡ y.target = eqb-true x.target y.target both.0 in
    let takes : x.takes ≡ y.takes = same-takes x.takes y.takes both.1 in
    λ i. record { target = to i; takes = takes i }

-- a step is the same on all bytes from lo up to the next one
pub steps-on : (step : ℕ → Step) (last : Step) (lo i : ℕ) → ((x : ℕ) → lo ≤ x → x < i → step x ≡ last) → step i ≡ last → (x : ℕ) → lo ≤ x → x < i + 1 → step x ≡ last
steps-on step last lo i same here x low high = elim (cases_lt x i) [
  | inl less ↦ same x low less
  | inr more ↦ (let e : i ≡ x = omega (arith, high, more) in subst (λ n. step n ≡ last) e here)
]

pub steps-here : (step : ℕ → Step) (last : Step) (i : ℕ) → step i ≡ last → (x : ℕ) → i ≤ x → x < i + 1 → step x ≡ last
steps-here step last i here x low high = (let e : i ≡ x = omega (arith, high, low) in subst (λ n. step n ≡ last) e here)
