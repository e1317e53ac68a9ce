-- One item more, for the loops that pick marked items.
use Rattle.std.proofs.Common.{subst, ◌≡◌, ℕ, zero, suc, ◌+◌, ◌<◌, List, [], ◌∷◌, ◌++◌, Bool, true, false, cond, refl, sym, ◌∙◌, ap, arith, map, set, take, get_or, length, append-nil, replicate, length-set}
use Rattle.std.specs.Prelude.{◌==◌, ◌||◌}
use Rattle.std.specs.List.{list_any}
use Rattle.std.proofs.Math.Seq.{take-suc}
use Rattle.std.proofs.Math.Numerals.{add-one}
use Rattle.std.proofs.lemmas.List.{length-take-le, get_or-set_same, get_or-set_other, get_or_default, length-replicate}
use Rattle.std.proofs.lemmas.List.Folds.{list_any-append}
use Rattle.std.proofs.lemmas.Bool.{eqb-true, eqb-false}
use Rattle.pp_program.specs.declared.program.State.{State}
use Rattle.pp_clean.specs.Reach.{picked}
use Rattle.pp_clean.specs.Layout.{added, IsUsed}
use Rattle.pp_clean.proofs.TableLaws.{picked_nil, picked_more}

-- those picked of one item more
pub picked_step : {X : Type 0} (marks : List Bool) (xs : List X) (i : ℕ) (b : Bool) (d : X) → i < length xs → length xs ≡ length marks →
    picked marks (take (i + 1) xs) ≡ added (get_or marks i b) (picked marks (take i xs)) (get_or xs i d)
picked_step {X} marks xs i b d h long =
    let one : i + 1 ≡ suc i = add-one i in
    let short : length (take i xs) ≡ i = length-take-le i xs (omega arith) in
    let within : i < length marks = omega arith in
    ap (λ (k : ℕ). picked marks (take k xs)) one ∙ ap (picked marks) (take-suc xs i d h) ∙ picked_more marks (take i xs) (get_or xs i d)
    ∙ ap (λ (k : ℕ). added (get_or marks k false) (picked marks (take i xs)) (get_or xs i d)) short
    ∙ ap (λ (v : Bool). added v (picked marks (take i xs)) (get_or xs i d)) (get_or_default marks i false b within)

map_added : {X Y : Type 0} (g : X → Y) (m : Bool) (xs : List X) (x : X) → map g (added m xs x) ≡ added m (map g xs) (g x)
map_added g true [] x = refl
map_added g false [] x = refl
map_added g true (y ∷ xs) x = ap (λ (l : List _). g y ∷ l) (map_added g true xs x)
map_added g false (y ∷ xs) x = ap (λ (l : List _). g y ∷ l) (map_added g false xs x)

-- the same, mapped
pub made_step : {X Y : Type 0} (g : X → Y) (marks : List Bool) (xs : List X) (old new : List Y) (i : ℕ) (b : Bool) (d : X) → i < length xs → length xs ≡ length marks →
    old ≡ map g (picked marks (take i xs)) → new ≡ added (get_or marks i b) old (g (get_or xs i d)) → new ≡ map g (picked marks (take (i + 1) xs))
made_step g marks xs old new i b d h long before made =
    made ∙ ap (λ (l : List _). added (get_or marks i b) l (g (get_or xs i d))) before
    ∙ sym (ap (map g) (picked_step marks xs i b d h long) ∙ map_added g (get_or marks i b) (picked marks (take i xs)) (get_or xs i d))

pub kept_step : {X : Type 0} (marks : List Bool) (xs old new : List X) (i : ℕ) (b : Bool) (d : X) → i < length xs → length xs ≡ length marks →
    old ≡ picked marks (take i xs) → new ≡ added (get_or marks i b) old (get_or xs i d) → new ≡ picked marks (take (i + 1) xs)
kept_step marks xs old new i b d h long before made =
    made ∙ ap (λ (l : List _). added (get_or marks i b) l (get_or xs i d)) before ∙ sym (picked_step marks xs i b d h long)

-- flags of the origins of one state more, which is marked or not
used_more : (states : List State) (s : State) (size : ℕ) (old new : List Bool) (m : Bool) → s.origin < size → IsUsed states size old →
    new ≡ cond m (set old s.origin true) old → IsUsed (added m states s) size new
used_more states s size old new false h u e =
    subst (λ (l : List State). IsUsed l size new) (sym (append-nil states)) (subst (IsUsed states size) (sym e) u)
used_more states s size old new true h u e = subst (IsUsed (states ++ s ∷ []) size) (sym e) (record {
  long = length-set old s.origin true ∙ u.long;
  at = λ n b. by_name n b (s.origin == n) refl ∙ sym (list_any-append (λ (x : State). x.origin == n) states (s ∷ []));
})
  where
    or_true : (v : Bool) → true ≡ (v || (true || false))
    or_true true = refl
    or_true false = refl

    or_false : (v : Bool) → v ≡ (v || (false || false))
    or_false true = refl
    or_false false = refl

    by_name : (n : ℕ) → n < size → (v : Bool) → (s.origin == n) ≡ v → get_or (set old s.origin true) n false ≡ (list_any (λ (x : State). x.origin == n) states || (v || false))
    by_name n b true g =
        let same : s.origin ≡ n = eqb-true s.origin n g in
        ap (λ (k : ℕ). get_or (set old s.origin true) k false) (sym same) ∙ get_or-set_same old s.origin true false (rw u.long h) ∙ or_true (list_any (λ (x : State). x.origin == n) states)
    by_name n b false g =
        get_or-set_other old s.origin n true false (λ same. eqb-false s.origin n g (sym same)) ∙ u.at n b ∙ or_false (list_any (λ (x : State). x.origin == n) states)

pub used_step : (marks : List Bool) (states : List State) (size : ℕ) (old new : List Bool) (i : ℕ) (b : Bool) (d : State) → i < length states → length states ≡ length marks →
    (get_or states i d).origin < size → IsUsed (picked marks (take i states)) size old → new ≡ cond (get_or marks i b) (set old (get_or states i d).origin true) old →
    IsUsed (picked marks (take (i + 1) states)) size new
used_step marks states size old new i b d h long within u e =
    subst (λ (l : List State). IsUsed l size new) (sym (picked_step marks states i b d h long))
    (used_more (picked marks (take i states)) (get_or states i d) size old new (get_or marks i b) within u e)

get_replicate : (n i : ℕ) → get_or (replicate n false) i false ≡ false
get_replicate zero i = refl
get_replicate (suc n) zero = refl
get_replicate (suc n) (suc i) = get_replicate n i

-- of none
pub used_none : (marks flags : List Bool) (states : List State) (size : ℕ) → flags ≡ replicate size false → IsUsed (picked marks (take 0 states)) size flags
used_none marks flags states size e =
    subst (λ (l : List State). IsUsed l size flags) (sym (picked_nil marks))
    (record { long = ap length e ∙ length-replicate size false; at = λ n b. ap (λ (l : List Bool). get_or l n false) e ∙ get_replicate size n })
