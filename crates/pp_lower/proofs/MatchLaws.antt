-- What a match node does, by the prefix of a text that was walked.
use Rattle.std.proofs.Common.{◌≡◌, ℕ, ◌+◌, ◌≤◌, ◌<◌, List, [], ◌∷◌, ◌++◌, Option, Some, None, Bool, true, false, cond, refl, sym, ◌∙◌, ap, arith, length, ◌&&◌, ◌||◌, ltb, inl, inr, append_assoc, length-append}
use Rattle.std.specs.Prelude.{◌⊎◌, not, unwrap_or}
use Rattle.std.specs.List.{Contains}
use Rattle.std.proofs.lemmas.Bool.{ltb-true, ltb-false}
use Rattle.pp_graph.specs.declared.node.Key.{Key}
use Rattle.pp_graph.specs.declared.node.Peek.{Peek}
use Rattle.pp_graph.specs.declared.node.Other.{Other}
use Rattle.pp_event.specs.Run.{Config, Rests}
use Rattle.pp_event.specs.Turns.{to}
use Rattle.pp_mean.specs.Nodes.{reach, best, goes_on, peek_at, is_empty, peek_turn, key_turn, match_turn, rests_at}
use Rattle.pp_lower.proofs.Bond.{GoodKeys}
use Rattle.pp_lower.specs.steps.Order.{Has}
use Rattle.pp_lower.proofs.Keys.{has_contains, contains_has, Begins, IsInner, NoneBegins, BestIs, best_is, goes_on_inner, reach_off, reach_on, begins_off, stops_off, same_fronts}

-- at the end of a text inside of a key it waits
pub turn_inside : (c : Config) (whole : List ℕ) (keys : List Key) (peeks : List Peek) (other : Other) (p : List ℕ) → IsInner keys p →
    match_turn c whole keys peeks other p ≡ Rests (rests_at c whole)
turn_inside c whole keys peeks other p h =
    ap (λ (v : Bool). cond (v || (is_empty p && (not (is_empty keys) || not (is_empty peeks) || other.skip))) (Rests (rests_at c whole)) (key_turn c keys peeks other p (best keys p)))
    (goes_on_inner keys p h)

-- where no key goes on behind the text, and it isn't empty
quiet : (c : Config) (whole : List ℕ) (keys : List Key) (peeks : List Peek) (other : Other) (s : List ℕ) (o : Option Key) → goes_on keys s ≡ false → is_empty s ≡ false → best keys s ≡ o →
    match_turn c whole keys peeks other s ≡ key_turn c keys peeks other s o
quiet c whole keys peeks other s o g e b =
    ap (λ (v : Bool). cond (v || (is_empty s && (not (is_empty keys) || not (is_empty peeks) || other.skip))) (Rests (rests_at c whole)) (key_turn c keys peeks other s (best keys s))) g
    ∙ ap (λ (v : Bool). cond (v && (not (is_empty keys) || not (is_empty peeks) || other.skip)) (Rests (rests_at c whole)) (key_turn c keys peeks other s (best keys s))) e
    ∙ ap (key_turn c keys peeks other s) b

not_empty : (p s : List ℕ) (b : ℕ) → is_empty (p ++ b ∷ s) ≡ false
not_empty [] s b = refl
not_empty (x ∷ p) s b = refl

le_le : (a b : ℕ) → a ≤ b → b ≤ a → a ≡ b
le_le a b h k = omega arith

-- a key that begins the text, and is no shorter than others that do, is the best one
best_key : (keys : List Key) (s : List ℕ) (k : Key) → GoodKeys keys → Has keys k → Begins k.bytes s → ((l : Key) → Has keys l → Begins l.bytes s → length l.bytes ≤ length k.bytes) → best keys s ≡ Some k
best_key keys s k good h b most = go (best keys s) (best_is keys s)
  where
    go : (o : Option Key) → BestIs keys s o → o ≡ Some k
    go None n = absurd (n k h b)
    go (Some m) i =
        let long : length m.bytes ≡ length k.bytes = le_le (length m.bytes) (length k.bytes) (most m i.0 i.1) (i.2 k h b) in
        let bytes : m.bytes ≡ k.bytes = same_fronts m.bytes i.1.0 k.bytes b.0 (sym i.1.1 ∙ b.1) long in
        ap (λ (x : Key). Some x) (good.distinct m k (has_contains keys m i.0) (has_contains keys k h) bytes)

-- behind a key, where no key goes on with the next byte
pub turn_key : (c : Config) (whole : List ℕ) (keys : List Key) (peeks : List Peek) (other : Other) (p s : List ℕ) (b : ℕ) (k : Key) → GoodKeys keys →
    NoneBegins keys (p ++ b ∷ []) → Has keys k → k.bytes ≡ p → match_turn c whole keys peeks other (p ++ b ∷ s) ≡ to c k.target (length p) (unwrap_or k.number 0)
turn_key c whole keys peeks other p s b k good none h e =
    let inner : IsInner keys (p ++ b ∷ []) → ⊥ = λ i. none i.0 i.1 (i.2 ∷ i.3, i.4) in
    let long : length k.bytes ≡ length p = ap length e in
    let most : (l : Key) → Has keys l → Begins l.bytes (p ++ b ∷ s) → length l.bytes ≤ length k.bytes =
    λ l i j. (let m : length l.bytes ≤ length p = begins_off keys p s b none l i j in omega arith) in
    quiet c whole keys peeks other (p ++ b ∷ s) (Some k) (stops_off keys p s b inner) (not_empty p s b)
    (best_key keys (p ++ b ∷ s) k good h (b ∷ s, ap (λ (l : List ℕ). l ++ b ∷ s) (sym e)) most)
    ∙ ap (λ (n : ℕ). to c k.target n (unwrap_or k.number 0)) long

-- a key that is whole at the next byte, where none is longer
pub turn_last : (c : Config) (whole : List ℕ) (keys : List Key) (peeks : List Peek) (other : Other) (p s : List ℕ) (b : ℕ) (k : Key) → GoodKeys keys →
    (IsInner keys (p ++ b ∷ []) → ⊥) → Has keys k → k.bytes ≡ p ++ b ∷ [] → match_turn c whole keys peeks other (p ++ b ∷ s) ≡ to c k.target (length (p ++ b ∷ [])) (unwrap_or k.number 0)
turn_last c whole keys peeks other p s b k good none h e =
    let long : length k.bytes ≡ length (p ++ b ∷ []) = ap length e in
    let begins : Begins k.bytes (p ++ b ∷ s) = (s, sym (append_assoc p (b ∷ []) s) ∙ ap (λ (l : List ℕ). l ++ s) (sym e)) in
    quiet c whole keys peeks other (p ++ b ∷ s) (Some k) (stops_off keys p s b none) (not_empty p s b)
    (best_key keys (p ++ b ∷ s) k good h begins (most s begins))
    ∙ ap (λ (n : ℕ). to c k.target n (unwrap_or k.number 0)) long
  where
    whole_key : (t : List ℕ) → Begins k.bytes (p ++ b ∷ t) → (l : Key) → Has keys l → Begins l.bytes (p ++ b ∷ t) → (x : ℕ) (u : List ℕ) → t ≡ x ∷ u → length l.bytes ≤ length k.bytes
    whole_key t _ l i j x u d =
        let off : NoneBegins keys ((p ++ b ∷ []) ++ x ∷ []) =
        λ m n q. none (m, n, x, q.0, q.1 ∙ append_assoc (p ++ b ∷ []) (x ∷ []) q.0) in
        let text : p ++ b ∷ t ≡ (p ++ b ∷ []) ++ x ∷ u = ap (λ (z : List ℕ). p ++ b ∷ z) d ∙ sym (append_assoc p (b ∷ []) (x ∷ u)) in
        let short : length l.bytes ≤ length (p ++ b ∷ []) = begins_off keys (p ++ b ∷ []) u x off l i (j.0, sym text ∙ j.1) in
        let same : length k.bytes ≡ length (p ++ b ∷ []) = ap length e in
        omega arith

    most : (t : List ℕ) → Begins k.bytes (p ++ b ∷ t) → (l : Key) → Has keys l → Begins l.bytes (p ++ b ∷ t) → length l.bytes ≤ length k.bytes
    most [] c l i j =
        let same : length k.bytes ≡ length (p ++ b ∷ []) = ap length e in
        let sum : length (p ++ b ∷ []) ≡ length (l.bytes ++ j.0) = ap length j.1 in
        let parts : length (l.bytes ++ j.0) ≡ length l.bytes + length j.0 = length-append l.bytes j.0 in
        omega arith
    most (x ∷ t) c l i j = whole_key (x ∷ t) c l i j x t refl

front_of : (q z p t : List ℕ) → q ++ z ≡ p ++ t → length q < length p → (x : ℕ) × (more : List ℕ) × (p ≡ q ++ x ∷ more)
front_of q z [] t e l = absurd (omega arith)
front_of [] z (y ∷ p) t e l = (y, p, refl)
front_of (x ∷ q) z (y ∷ p) t e l =
    let tail : q ++ z ≡ p ++ t = cc in
    let head : x ≡ y = cc in
    let r : (w : ℕ) × (more : List ℕ) × (p ≡ q ++ w ∷ more) = front_of q z p t tail (omega arith) in
    (r.0, r.1, ap (λ (w : ℕ). w ∷ p) (sym head) ∙ ap (λ (w : List ℕ). x ∷ w) r.2)

lt_or_eq : (a b : ℕ) → a ≤ b → (ltb a b ≡ true) ⊎ (a ≡ b)
lt_or_eq a b h = go (ltb a b) refl
  where
    go : (v : Bool) → ltb a b ≡ v → (ltb a b ≡ true) ⊎ (a ≡ b)
    go true e = inl e
    go false e = inr (let l : b ≤ a = ltb-false a b e in omega arith)

longer_by : (q p k more rest : List ℕ) (x y : ℕ) → p ≡ q ++ x ∷ more → k ≡ p ++ y ∷ rest → k ≡ q ++ x ∷ (more ++ y ∷ rest)
longer_by q p k more rest x y e d = d ∙ ap (λ (w : List ℕ). w ++ y ∷ rest) e ∙ append_assoc q (x ∷ more) (y ∷ rest)

-- the prefix rule: where p is no key, and no key begins with p and the next byte, no key fits
none_fits : (keys : List Key) (p s : List ℕ) (b : ℕ) → GoodKeys keys → ((p ≡ []) ⊎ IsInner keys p) → ((l : Key) → Has keys l → l.bytes ≡ p → ⊥) → NoneBegins keys (p ++ b ∷ []) →
    (l : Key) → Has keys l → Begins l.bytes (p ++ b ∷ s) → ⊥
none_fits keys p s b good live not_key none l h begins = go (lt_or_eq (length l.bytes) (length p) (begins_off keys p s b none l h begins)) live
  where
    go : (ltb (length l.bytes) (length p) ≡ true) ⊎ (length l.bytes ≡ length p) → (p ≡ []) ⊎ IsInner keys p → ⊥
    go (inr e) _ = not_key l h (same_fronts l.bytes begins.0 p (b ∷ s) (sym begins.1) e)
    go (inl e) (inl n) =
        let short : length l.bytes < length p = ltb-true (length l.bytes) (length p) e in
        let zero_long : length p ≡ 0 = ap length n in
        omega arith
    go (inl e) (inr i) =
        let short : length l.bytes < length p = ltb-true (length l.bytes) (length p) e in
        let f : (x : ℕ) × (more : List ℕ) × (p ≡ l.bytes ++ x ∷ more) = front_of l.bytes begins.0 p (b ∷ s) (sym begins.1) short in
        let longer : i.0.bytes ≡ l.bytes ++ f.0 ∷ (f.1 ++ i.2 ∷ i.3) = longer_by l.bytes p i.0.bytes f.1 i.3 f.0 i.2 f.2 i.4 in
        let m : (m : Key) × Contains keys m × (m.bytes ≡ p) =
        good.no_gap l i.0 p (f.1 ++ i.2 ∷ i.3) i.3 f.0 i.2 (has_contains keys l h) (has_contains keys i.0 i.1) longer i.4 short in
        not_key m.0 (contains_has keys m.0 m.1) m.2

-- off the tree behind p, where p is no key
pub turn_off : (c : Config) (whole : List ℕ) (keys : List Key) (peeks : List Peek) (other : Other) (p s : List ℕ) (b : ℕ) → GoodKeys keys → ((p ≡ []) ⊎ IsInner keys p) →
    ((l : Key) → Has keys l → l.bytes ≡ p → ⊥) → NoneBegins keys (p ++ b ∷ []) →
    match_turn c whole keys peeks other (p ++ b ∷ s) ≡ peek_turn c other (length p) (peek_at peeks (p ++ b ∷ s))
turn_off c whole keys peeks other p s b good live not_key none =
    let inner : IsInner keys (p ++ b ∷ []) → ⊥ = λ i. none i.0 i.1 (i.2 ∷ i.3, i.4) in
    quiet c whole keys peeks other (p ++ b ∷ s) None (stops_off keys p s b inner) (not_empty p s b) (no_best (best keys (p ++ b ∷ s)) (best_is keys (p ++ b ∷ s)))
    ∙ ap (λ (n : ℕ). peek_turn c other n (peek_at peeks (p ++ b ∷ s))) (le_le (reach keys (p ++ b ∷ s)) (length p) (reach_off keys p s b none) (least live))
  where
    no_best : (o : Option Key) → BestIs keys (p ++ b ∷ s) o → o ≡ None
    no_best None i = refl
    no_best (Some m) i = absurd (none_fits keys p s b good live not_key none m i.0 i.1)

    least : (p ≡ []) ⊎ IsInner keys p → length p ≤ reach keys (p ++ b ∷ s)
    least (inl e) = let n : length p ≡ 0 = ap length e in omega arith
    least (inr i) = reach_on keys p (b ∷ s) i.0 i.1 (i.2 ∷ i.3, i.4)
