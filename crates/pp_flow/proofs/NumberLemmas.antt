-- Numbers that never rise along a free move.
use Rattle.std.proofs.Common.{◌≡◌, ℕ, ◌+◌, ◌≤◌, ◌<◌, Bool, true, false, List, Some, length, get_or, set, replicate, subst, sym, ◌∙◌, ap, arith, inl, inr}
use Rattle.std.specs.Prelude.{slice_get}
use Rattle.std.proofs.lemmas.Bool.{cases_eq, false≢true}
use Rattle.std.proofs.lemmas.List.{get_or-set_same, get_or-set_other, get_or-replicate, length-replicate}
use Rattle.std.proofs.lemmas.Option.{slice_get_within}
use Rattle.pp_flow.specs.declared.moves.Move.{Move}
use Rattle.pp_flow.specs.Flow.{IsFree, FreeWay, stay, onward}
use Rattle.pp_flow.specs.steps.Parts.{Marks, HoldsAll}
use Rattle.pp_flow.specs.steps.Round.{IsOnNoCycle}
use Rattle.pp_flow.specs.steps.Search.{IsFreeAt}
use Rattle.pp_flow.proofs.SearchLemmas.{some_same}

abbrev at : List ℕ → ℕ → ℕ
at l x = get_or l x 0

abbrev flag : List Bool → ℕ → Bool
flag l x = get_or l x false

module _ (moves : List Move) (b : ℕ) (numbers : List ℕ) (inside : List Bool) (marks : Marks moves b numbers (length moves) inside) where
  of_move : {x y : ℕ} → IsFree moves b x y → (at numbers y ≤ at numbers x) × (at numbers y ≡ at numbers x → flag inside x ≡ true)
  of_move {x} {y} f =
      let told = marks f.place f.made (slice_get_within moves f.place f.made f.listed) f.listed (record { free = f.free; low = f.low; high = f.high }) in
      subst (λ (z : ℕ). (at numbers y ≤ at numbers z) × (at numbers y ≡ at numbers z → flag inside z ≡ true)) f.from
      (subst (λ (z : ℕ). (at numbers z ≤ at numbers f.made.from) × (at numbers z ≡ at numbers f.made.from → flag inside f.made.from ≡ true)) f.to told)

  never_rises : {x y n : ℕ} → FreeWay moves b x n y → at numbers y ≤ at numbers x
  never_rises stay = omega arith
  never_rises {x} {y} (onward {next = z} f rest) =
      let one : at numbers z ≤ at numbers x = (of_move f).0 in
      let more : at numbers y ≤ at numbers z = never_rises rest in
      omega arith

  pub unmarked : (x : ℕ) → flag inside x ≡ false → IsOnNoCycle moves b x
  unmarked x low n (onward {next = z} f rest) =
      let down : at numbers z ≤ at numbers x = (of_move f).0 in
      let back : at numbers x ≤ at numbers z = never_rises rest in
      let same : at numbers z ≡ at numbers x = omega arith in
      false≢true (sym low ∙ (of_move f).1 same)

pub holds_marked : (moves : List Move) (b count : ℕ) (numbers : List ℕ) (inside : List Bool) → length inside ≡ count → Marks moves b numbers (length moves) inside → HoldsAll moves b count inside
holds_marked moves b count numbers inside long marks = record { long = long; others = λ x h low. unmarked moves b numbers inside marks x low }

pub holds_every : (moves : List Move) (b count : ℕ) (inside : List Bool) → inside ≡ replicate count true → HoldsAll moves b count inside
holds_every moves b count inside is = subst (λ (l : List Bool). HoldsAll moves b count l) (sym is) (record {
  long = length-replicate {A = Bool} count true;
  others = λ x h low. absurd (false≢true (sym low ∙ get_or-replicate count x true false h));
})

-- a move that is not free
pub marks_pass : (moves : List Move) (b : ℕ) (numbers : List ℕ) (n : ℕ) (inside : List Bool) (m : Move) → slice_get moves n ≡ Some m → Marks moves b numbers n inside → (IsFreeAt m b → ⊥) → Marks moves b numbers (n + 1) inside
marks_pass moves b numbers n inside m listed marks never k m' lt l f = elim (cases_eq k n) [
  | inl e ↦ absurd (never (subst (λ (y : Move). IsFreeAt y b) (some_same m' m (sym l ∙ subst (λ (i : ℕ). slice_get moves i ≡ Some m) (sym e) listed)) f))
  | inr o ↦ marks k m' (omega arith) l f
]

-- one that leads to a lesser number
pub marks_fall : (moves : List Move) (b : ℕ) (numbers : List ℕ) (n : ℕ) (inside : List Bool) (m : Move) → slice_get moves n ≡ Some m → Marks moves b numbers n inside → at numbers m.to < at numbers m.from → Marks moves b numbers (n + 1) inside
marks_fall moves b numbers n inside m listed marks less k m' lt l f = elim (cases_eq k n) [
  | inl e ↦ subst (λ (y : Move). (at numbers y.to ≤ at numbers y.from) × (at numbers y.to ≡ at numbers y.from → flag inside y.from ≡ true))
      (some_same m m' (sym (subst (λ (i : ℕ). slice_get moves i ≡ Some m) (sym e) listed) ∙ l)) (omega arith, λ same. absurd (omega arith))
  | inr o ↦ marks k m' (omega arith) l f
]

-- one that leads to the same number: the point is marked
pub marks_same : (moves : List Move) (b : ℕ) (numbers : List ℕ) (n : ℕ) (inside : List Bool) (m : Move) → slice_get moves n ≡ Some m → Marks moves b numbers n inside → m.from < length inside → at numbers m.from ≡ at numbers m.to → Marks moves b numbers (n + 1) (set inside m.from true)
marks_same moves b numbers n inside m listed marks within same k m' lt l f = elim (cases_eq k n) [
  | inl e ↦ subst (λ (y : Move). (at numbers y.to ≤ at numbers y.from) × (at numbers y.to ≡ at numbers y.from → flag (set inside m.from true) y.from ≡ true))
      (some_same m m' (sym (subst (λ (i : ℕ). slice_get moves i ≡ Some m) (sym e) listed) ∙ l)) (omega arith, λ _. get_or-set_same inside m.from true false within)
  | inr o ↦ (
      let old = marks k m' (omega arith) l f in
      (old.0, λ e. kept m'.from (old.1 e)))
]
  where
    kept : (x : ℕ) → flag inside x ≡ true → flag (set inside m.from true) x ≡ true
    kept x t = elim (cases_eq x m.from) [
      | inl e ↦ ap (flag (set inside m.from true)) e ∙ get_or-set_same inside m.from true false within
      | inr o ↦ get_or-set_other inside m.from x true false o ∙ t
    ]
