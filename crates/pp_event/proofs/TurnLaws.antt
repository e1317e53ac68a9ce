-- The turns that nodes and states share are steady and resumable.
use Rattle.std.proofs.Common.{subst, ◌≡◌, ℕ, zero, suc, ◌+◌, ◌-◌, ◌≤◌, ◌<◌, List, [], ◌∷◌, ◌++◌, Bool, true, false, cond, refl, sym, ◌∙◌, ap, arith, length, length-append, set, get_or, leb, zero-le, add-zero}
use Rattle.std.proofs.lemmas.List.{get_or-set_same}
use Rattle.std.specs.Prelude.{slice_index}
use Rattle.std.proofs.lemmas.Bool.{leb-true, leb-false, le-leb, lt-leb}
use Rattle.pp_event.specs.Run.{Config, Turn, Goes, Rests}
use Rattle.pp_event.specs.Steady.{Keeps, GoesOn, Placed}
use Rattle.pp_event.specs.Turns.{Effect, AsksHost, Answers, Sets, effect_turn, consume_turn, consumed, drained}
use Rattle.pp_event.specs.Quiet.{QuietTurn}
use Rattle.pp_event.proofs.QuietLaws.{quiet-if}

-- either side of a choice
pub Keeps-if : (n : ℕ) (b : Bool) (t u : Turn) → Keeps n t t → Keeps n u u → Keeps n (cond b t u) (cond b t u)
Keeps-if n true t u h k = h
Keeps-if n false t u h k = k

-- an effect needs no byte
pub effect-keeps : (c : Config) (edge : ℕ → ℕ) (f : Effect) (n : ℕ) → Keeps n (effect_turn c edge f) (effect_turn c edge f)
effect-keeps c edge (AsksHost host) n = refl
effect-keeps c edge (Answers answer) n = (zero-le, refl)
effect-keeps c edge (Sets prop value) n = (zero-le, refl)

-- what consume does for v, with n bytes left
abbrev consume_by : Config → ℕ → ℕ → ℕ → ℕ → Bool → Turn
consume_by c p next v n b = cond b (Goes (consumed c p next v) v []) (Rests (drained c p v n))

consume_keeps_by : (c : Config) (p next v n m : ℕ) (b : Bool) → leb v n ≡ b → n ≤ m →
    Keeps n (consume_by c p next v n b) (consume_by c p next v m (leb v m))
consume_keeps_by c p next v n m true e h =
    let fits : v ≤ n = leb-true v n e in
    (fits, ap (consume_by c p next v m) (le-leb v m (omega arith)))
consume_keeps_by c p next v n m false e h = tt

-- a consume is steady
pub consume-keeps : (c : Config) (p next : ℕ) (rest more : List ℕ) →
    Keeps (length rest) (consume_turn c rest p next) (consume_turn c (rest ++ more) p next)
consume-keeps c p next rest more =
    consume_keeps_by c p next (slice_index c.values p) (length rest) (length (rest ++ more)) _ refl (simp length-append (omega arith))

-- the later of two writes at one place stands
set-set_same : {A : Type 0} (xs : List A) (i : ℕ) (a b : A) → set (set xs i a) i b ≡ set xs i b
set-set_same [] i a b = refl
set-set_same (x ∷ xs) zero a b = refl
set-set_same (x ∷ xs) (suc i) a b = ap (λ (l : List _). x ∷ l) (set-set_same xs i a b)

-- what isn't 0 stands at a place of the list
get_or-above : (xs : List ℕ) (i : ℕ) → 0 < get_or xs i 0 → i < length xs
get_or-above [] i h = absurd (omega arith)
get_or-above (x ∷ xs) zero h = omega arith
get_or-above (x ∷ xs) (suc i) h = let below : i < length xs = get_or-above xs i h in omega arith

consumed-drained : (c : Config) (p next v n : ℕ) → n ≤ v → consumed (drained c p v n) p next (v - n) ≡ consumed c p next v
consumed-drained c p next v n h =
    let place : c.at + n + (v - n) ≡ c.at + v = omega arith in
    let values : set (set c.values p (v - n)) p 0 ≡ set c.values p 0 = set-set_same c.values p (v - n) 0 in
    ap (λ (a : ℕ). record { node = next; at = a; carried = 0; values = set (set c.values p (v - n)) p 0; spans = c.spans }) place
    ∙ ap (λ (l : List ℕ). record { node = next; at = c.at + v; carried = 0; values = l; spans = c.spans }) values

drained-drained : (c : Config) (p v n m : ℕ) → drained (drained c p v n) p (v - n) m ≡ drained c p v (n + m)
drained-drained c p v n m =
    let place : c.at + n + m ≡ c.at + (n + m) = omega arith in
    let left : v - n - m ≡ v - (n + m) = omega arith in
    let values : set (set c.values p (v - n)) p (v - n - m) ≡ set c.values p (v - (n + m)) =
    set-set_same c.values p (v - n) (v - n - m) ∙ ap (set c.values p) left in
    ap (λ (a : ℕ). record c { at = a; carried = 0; values = set (set c.values p (v - n)) p (v - n - m) }) place
    ∙ ap (λ (l : List ℕ). record c { at = c.at + (n + m); carried = 0; values = l }) values

-- with n bytes left it waits for v, and then m more come
consume_onward_by : (c : Config) (p next v n m : ℕ) (b : Bool) → n < v → leb (v - n) m ≡ b →
    GoesOn n (consume_by c p next v (n + m) (leb v (n + m))) (consume_by (drained c p v n) p next (v - n) m b)
consume_onward_by c p next v n m true h e =
    let fits : v - n ≤ m = leb-true (v - n) m e in
    let same : n + (v - n) ≡ v = omega arith in
    ap (consume_by c p next v (n + m)) (le-leb v (n + m) (omega arith))
    ∙ ap (λ (k : ℕ). Goes (consumed c p next v) k []) (sym same)
    ∙ ap (λ (d : Config). Goes d (n + (v - n)) []) (sym (consumed-drained c p next v n (omega arith)))
consume_onward_by c p next v n m false h e =
    let more : m < v - n = leb-false (v - n) m e in
    ap (consume_by c p next v (n + m)) (lt-leb v (n + m) (omega arith))
    ∙ ap Rests (sym (drained-drained c p v n m))

-- a consume that waits goes on with more bytes as it would have gone on with all of them
pub consume-onward : (c d : Config) (p next : ℕ) (rest more : List ℕ) → consume_turn c rest p next ≡ Rests d →
    (d.node ≡ c.node) × GoesOn (length rest) (consume_turn c (rest ++ more) p next) (consume_turn d more p next)
consume-onward c d p next rest more e = go (leb v n) refl e
  where
    v : ℕ
    v = slice_index c.values p

    n : ℕ
    n = length rest

    go : (b : Bool) → leb (slice_index c.values p) (length rest) ≡ b → consume_by c p next (slice_index c.values p) (length rest) b ≡ Rests d →
        (d.node ≡ c.node) × GoesOn (length rest) (consume_turn c (rest ++ more) p next) (consume_turn d more p next)
    go true t e = cc
    go false t e =
        let short : length rest < get_or c.values p 0 = leb-false (get_or c.values p 0) (length rest) t in
        let same : drained c p (get_or c.values p 0) (length rest) ≡ d = cc in
        let there : p < length c.values = get_or-above c.values p (omega arith) in
        let left : get_or (set c.values p (get_or c.values p 0 - length rest)) p 0 ≡ get_or c.values p 0 - length rest =
        get_or-set_same c.values p (get_or c.values p 0 - length rest) 0 there in
        let whole : GoesOn (length rest) (consume_by c p next (get_or c.values p 0) (length rest + length more) (leb (get_or c.values p 0) (length rest + length more)))
        (consume_by (drained c p (get_or c.values p 0) (length rest)) p next (get_or c.values p 0 - length rest) (length more) (leb (get_or c.values p 0 - length rest) (length more))) =
        consume_onward_by c p next (get_or c.values p 0) (length rest) (length more) _ short refl in
        let fewer : GoesOn (length rest) (consume_turn c (rest ++ more) p next)
        (consume_by (drained c p (get_or c.values p 0) (length rest)) p next (get_or c.values p 0 - length rest) (length more) (leb (get_or c.values p 0 - length rest) (length more))) =
        subst (λ (k : ℕ). GoesOn (length rest) (consume_by c p next (get_or c.values p 0) k (leb (get_or c.values p 0) k))
        (consume_by (drained c p (get_or c.values p 0) (length rest)) p next (get_or c.values p 0 - length rest) (length more) (leb (get_or c.values p 0 - length rest) (length more)))) (sym (length-append rest more)) whole in
        let at_rest : GoesOn (length rest) (consume_turn c (rest ++ more) p next) (consume_turn (drained c p (get_or c.values p 0) (length rest)) more p next) =
        subst (λ (k : ℕ). GoesOn (length rest) (consume_turn c (rest ++ more) p next) (consume_by (drained c p (get_or c.values p 0) (length rest)) p next k (length more) (leb k (length more)))) (sym left) fewer in (
          sym (ap (λ (x : Config). x.node) same),
          subst (λ (x : Config). GoesOn (length rest) (consume_turn c (rest ++ more) p next) (consume_turn x more p next)) same at_rest,
        )

-- an effect doesn't wait
pub effect-rests : (c d : Config) (edge : ℕ → ℕ) (f : Effect) → effect_turn c edge f ≡ Rests d → ⊥
effect-rests c d edge (AsksHost host) e = cc
effect-rests c d edge (Answers answer) e = cc
effect-rests c d edge (Sets prop value) e = cc

-- either side of a choice
pub Placed-if : (c : Config) (n : ℕ) (b : Bool) (t u : Turn) → Placed c n t → Placed c n u → Placed c n (cond b t u)
Placed-if c n true t u h k = h
Placed-if c n false t u h k = k

-- an effect keeps the place
pub effect-placed : (c : Config) (edge : ℕ → ℕ) (f : Effect) (n : ℕ) → Placed c n (effect_turn c edge f)
effect-placed c edge (AsksHost host) n = λ answer. refl
effect-placed c edge (Answers answer) n = sym (add-zero c.at)
effect-placed c edge (Sets prop value) n = sym (add-zero c.at)

-- a consume stands behind what it took
pub consume-placed : (c : Config) (rest : List ℕ) (p next : ℕ) → Placed c (length rest) (consume_turn c rest p next)
consume-placed c rest p next =
    Placed-if c (length rest) (leb (slice_index c.values p) (length rest)) (Goes (consumed c p next (slice_index c.values p)) (slice_index c.values p) [])
    (Rests (drained c p (slice_index c.values p) (length rest))) refl refl

-- an effect tells no pause
pub effect-quiet : (c : Config) (edge : ℕ → ℕ) (f : Effect) → QuietTurn (effect_turn c edge f)
effect-quiet c edge (AsksHost host) = tt
effect-quiet c edge (Answers answer) = refl
effect-quiet c edge (Sets prop value) = refl

-- a consume tells nothing
pub consume-quiet : (c : Config) (rest : List ℕ) (p next : ℕ) → QuietTurn (consume_turn c rest p next)
consume-quiet c rest p next =
    quiet-if (leb (slice_index c.values p) (length rest)) (Goes (consumed c p next (slice_index c.values p)) (slice_index c.values p) [])
    (Rests (drained c p (slice_index c.values p) (length rest))) refl tt
