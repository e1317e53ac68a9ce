-- Without a loop the gap is below the count of points.
use Rattle.std.proofs.Common.{◌≡◌, ℕ, suc, ◌≤◌, ◌<◌, ◌⊎◌, ◌||◌, Bool, true, false, eqb, List, [], ◌∷◌, length, subst, refl, sym, ap, arith, inl, inr}
use Rattle.std.specs.List.{list_any, IsDistinct, AllByRecursion}
use Rattle.std.proofs.lemmas.Bool.{eqb-true, false≢true}
use Rattle.std.proofs.lemmas.Map.Steps.{length-le_from_distinct_below}
use Rattle.pp_flow.specs.declared.moves.Move.{Move}
use Rattle.pp_flow.specs.Flow.{IsReachable, at_entry, by_free, by_onward, FreeWay, stay, onward, IsLoopFree, IsGap, StaysBelow}

-- the points of a way
way_points : {moves : List Move} {b x n y : ℕ} → FreeWay moves b x n y → List ℕ
way_points {x = x} stay = x ∷ []
way_points {x = x} (onward f w) = x ∷ way_points w

length-way_points : {moves : List Move} {b x n y : ℕ} (w : FreeWay moves b x n y) → length (way_points w) ≡ suc n
unfolding way_points
length-way_points stay = refl
length-way_points (onward f w) = ap suc (length-way_points w)

either : (a b : Bool) → (a || b) ≡ true → (a ≡ true) ⊎ (b ≡ true)
either true b e = inl refl
either false b e = inr e

-- each of them is led to
way_to : {moves : List Move} {b x n y : ℕ} (w : FreeWay moves b x n y) (q : ℕ) → list_any (eqb q) (way_points w) ≡ true → (k : ℕ) × FreeWay moves b x k q
unfolding way_points
way_to {moves} {b} {x} stay q e = elim (either (eqb q x) false e) [
  | inl t ↦ (0, subst (λ (z : ℕ). FreeWay moves b x 0 z) (sym (eqb-true q x t)) stay)
  | inr f ↦ absurd (false≢true f)
]
way_to {moves} {b} {x} (onward f w) q e = elim (either (eqb q x) (list_any (eqb q) (way_points w)) e) [
  | inl t ↦ (0, subst (λ (z : ℕ). FreeWay moves b x 0 z) (sym (eqb-true q x t)) stay)
  | inr t ↦ (let rest = way_to w q t in (suc rest.0, onward f rest.1))
]

not_there : (x : ℕ) (ys : List ℕ) → (list_any (eqb x) ys ≡ true → ⊥) → AllByRecursion (λ y. eqb x y ≡ false) ys
not_there x [] h = tt
not_there x (y ∷ ys) h = (first (eqb x y) (λ e. h (ap (λ (t : Bool). t || list_any (eqb x) ys) e)), not_there x ys (λ e. h (or_right (eqb x y) _ e)))
  where
    first : (t : Bool) → (t ≡ true → ⊥) → t ≡ false
    first true h = absurd (h refl)
    first false h = refl

    or_right : (a b : Bool) → b ≡ true → (a || b) ≡ true
    or_right true b e = refl
    or_right false b e = e

distinct : {moves : List Move} {entry b x n y : ℕ} → IsLoopFree moves entry → IsReachable moves entry b x → (w : FreeWay moves b x n y) → IsDistinct eqb (way_points w)
unfolding way_points IsDistinct
distinct free r stay = (tt, tt)
distinct {b = b} {x = x} free r (onward f w) =
    (not_there x (way_points w) (λ e. (let back = way_to w x e in free b x (record { reachable = r; size = back.0; way = onward f back.1 }))), distinct free (by_free r f) w)

-- so no row of free moves is as long as there are points
pub gap_below : (moves : List Move) (entry count gap : ℕ) → StaysBelow moves count → entry < count → IsLoopFree moves entry → IsGap moves entry gap → gap < count
gap_below moves entry count gap inside entry_in free g = below g.met.3 g.met.4
  where
    within : {b x : ℕ} → IsReachable moves entry b x → x < count
    within (at_entry h) = entry_in
    within (by_free r f) = subst (λ (z : ℕ). z < count) f.to (inside f.place f.made f.listed)
    within (by_onward h r f) = subst (λ (z : ℕ). z < count) f.to (inside f.place f.made f.listed)

    along : {b x y n : ℕ} → IsReachable moves entry b x → FreeWay moves b x n y → IsReachable moves entry b y
    along r stay = r
    along r (onward f w) = along (by_free r f) w

    below : {b x n y : ℕ} → IsReachable moves entry b x → FreeWay moves b x n y → n < count
    below r w =
        (let few : length (way_points w) ≤ count = length-le_from_distinct_below (way_points w) count (distinct free r w)
        (λ q e. (let to = way_to w q e in within (along r to.1))) in
        omega (arith, length-way_points w))
