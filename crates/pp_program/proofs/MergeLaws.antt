-- What merging keeps of edges in order.
use Rattle.std.proofs.Common.{◌≡◌, ℕ, suc, ◌+◌, ◌≤◌, ◌<◌, List, [], ◌∷◌, ◌++◌, Option, Some, None, Bool, true, false, cond, refl, sym, ◌∙◌, ap, arith, length, ◌&&◌, leb, inl, inr, ◌⊎◌}
use Rattle.std.specs.Prelude.{◌==◌, nat_lt, not, option_map}
use Rattle.std.proofs.lemmas.Bool.{eqb-true, leb-true, leb-false, lt-ltb, false≢true}
use Rattle.pp_bytes.specs.Ranges.{in_pair}
use Rattle.pp_event.specs.Run.{Config}
use Rattle.pp_program.specs.declared.program.Edge.{Edge}
use Rattle.pp_program.specs.declared.program.Rest.{Rest}
use Rattle.pp_program.specs.States.{edge_on, edge_turn, is_empty_branch}
use Rattle.pp_program.specs.Targets.{same_number, is_alike, may_follow, row_behind, in_row}
use Rattle.pp_program.specs.Merge.{joins, joined, merged_from, merged}

-- what an edge does on its bytes, whichever they are
abbrev pub bare : Edge → Edge
bare e = record { lo = 0; hi = 0; take = e.take; number = e.number; target = e.target }

-- edges on some bytes each, in order of these, all from n on
abbrev pub AscendsFrom : ℕ → List Edge → Type 0
AscendsFrom n [] = Unit {0}
AscendsFrom n (e ∷ l) = (n ≤ e.lo) × (e.lo ≤ e.hi) × AscendsFrom (suc e.hi) l

-- edges on bytes below n
abbrev pub EndsBelow : ℕ → List Edge → Type 0
EndsBelow n [] = Unit {0}
EndsBelow n (e ∷ l) = (e.hi < n) × EndsBelow n l

-- one of the edges
abbrev pub HasEdge : List Edge → Edge → Type 0
HasEdge [] e = ⊥
HasEdge (f ∷ l) e = (f ≡ e) ⊎ HasEdge l e

and-left : (a b : Bool) → (a && b) ≡ true → a ≡ true
and-left true b h = refl
and-left false b h = h

and-right : (a b : Bool) → (a && b) ≡ true → b ≡ true
and-right true b h = h
and-right false b h = absurd (false≢true h)

and-both : (a b : Bool) → a ≡ true → b ≡ true → (a && b) ≡ true
and-both true b p q = q
and-both false b p q = absurd (false≢true p)

same-take : (a b : Bool) → cond a b (not b) ≡ true → a ≡ b
same-take true true h = refl
same-take true false h = absurd (false≢true h)
same-take false true h = absurd (false≢true h)
same-take false false h = refl

same-numbers : (a b : Option ℕ) → same_number a b ≡ true → a ≡ b
same-numbers None None h = refl
same-numbers None (Some n) h = absurd (false≢true h)
same-numbers (Some m) None h = absurd (false≢true h)
same-numbers (Some m) (Some n) h = ap (λ (x : ℕ). Some x) (eqb-true m n h)

-- edges that are alike do the same
pub alike-bare : (e f : Edge) → is_alike e f ≡ true → bare e ≡ bare f
alike-bare e f h =
    let takes : Bool = cond e.take f.take (not f.take) in
    let numbers : Bool = same_number e.number f.number in
    let front : (takes && numbers) ≡ true = and-left (takes && numbers) (e.target == f.target) h in
    let take : e.take ≡ f.take = same-take e.take f.take (and-left takes numbers front) in
    let number : e.number ≡ f.number = same-numbers e.number f.number (and-right takes numbers front) in
    let target : e.target ≡ f.target = eqb-true e.target f.target (and-right (takes && numbers) (e.target == f.target) h) in
    ap (λ (x : Bool). record { lo = 0; hi = 0; take = x; number = e.number; target = e.target }) take
    ∙ ap (λ (x : Option ℕ). record { lo = 0; hi = 0; take = f.take; number = x; target = e.target }) number
    ∙ ap (λ (x : ℕ). record { lo = 0; hi = 0; take = f.take; number = f.number; target = x }) target

joins-next : (e f : Edge) → joins e f ≡ true → e.hi + 1 ≡ f.lo
joins-next e f h = eqb-true (e.hi + 1) f.lo (and-left (e.hi + 1 == f.lo) (is_alike e f) h)

joins-bare : (e f : Edge) → joins e f ≡ true → bare e ≡ bare f
joins-bare e f h = alike-bare e f (and-right (e.hi + 1 == f.lo) (is_alike e f) h)

-- merged edges are no more
pub merged-short : (l : List Edge) → length (merged l) ≤ length l
merged-short [] = omega arith
merged-short (e ∷ l) = behind l e
  where
    behind : (l : List Edge) (e : Edge) → length (merged_from e l) ≤ suc (length l)
    behind [] e = omega arith
    behind (f ∷ l) e = go (joins e f) (behind l (joined e f)) (behind l f)
      where
        go : (v : Bool) → length (merged_from (joined e f) l) ≤ suc (length l) → length (merged_from f l) ≤ suc (length l) →
            length (cond v (merged_from (joined e f) l) (e ∷ merged_from f l)) ≤ suc (suc (length l))
        go true p q = omega (arith, p)
        go false p q = omega (arith, q)

-- merged edges are none only where there was none
pub merged-some : (e : Edge) (l : List Edge) → (x : Edge) × (m : List Edge) × (merged (e ∷ l) ≡ x ∷ m)
merged-some e l = behind l e
  where
    behind : (l : List Edge) (e : Edge) → (x : Edge) × (m : List Edge) × (merged_from e l ≡ x ∷ m)
    behind [] e = (e, [], refl)
    behind (f ∷ l) e = go (joins e f) (behind l (joined e f))
      where
        go : (v : Bool) → ((x : Edge) × (m : List Edge) × (merged_from (joined e f) l ≡ x ∷ m)) →
            (x : Edge) × (m : List Edge) × (cond v (merged_from (joined e f) l) (e ∷ merged_from f l) ≡ x ∷ m)
        go true r = r
        go false r = (e, merged_from f l, refl)

-- a branch needs no byte where it needs none with its edges merged
pub merged-empty : (l : List Edge) (r : Rest) → is_empty_branch [] (merged l) r ≡ is_empty_branch [] l r
merged-empty [] r = refl
merged-empty (e ∷ l) r = (let some : (x : Edge) × (m : List Edge) × (merged (e ∷ l) ≡ x ∷ m) = merged-some e l in ap (λ (y : List Edge). is_empty_branch [] y r) some.2)

-- all from a lesser number on
pub ascends-lower : (m n : ℕ) (l : List Edge) → m ≤ n → AscendsFrom n l → AscendsFrom m l
ascends-lower m n [] h a = tt
ascends-lower m n (e ∷ l) h a = (omega (arith, h, a.0), a.1, a.2)

pub ends-higher : (m n : ℕ) (l : List Edge) → m ≤ n → EndsBelow m l → EndsBelow n l
ends-higher m n [] h a = tt
ends-higher m n (e ∷ l) h a = (omega (arith, h, a.0), ends-higher m n l h a.1)

pub ends-append : (n : ℕ) (l r : List Edge) → EndsBelow n l → EndsBelow n r → EndsBelow n (l ++ r)
ends-append n [] r a b = b
ends-append n (e ∷ l) r a b = (a.0, ends-append n l r a.1 b)

-- edges behind others
pub ascends-append : (n m : ℕ) (l r : List Edge) → n ≤ m → AscendsFrom n l → EndsBelow m l → AscendsFrom m r → AscendsFrom n (l ++ r)
ascends-append n m [] r h a b c = ascends-lower n m r h c
ascends-append n m (e ∷ l) r h a b c = (a.0, a.1, ascends-append (suc e.hi) m l r (omega (arith, b.0)) a.2 b.1 c)

-- merged edges ascend
pub merged-ascends : (n : ℕ) (l : List Edge) → AscendsFrom n l → AscendsFrom n (merged l)
merged-ascends n [] a = tt
merged-ascends n (e ∷ l) a = behind l n e a
  where
    behind : (l : List Edge) (n : ℕ) (e : Edge) → AscendsFrom n (e ∷ l) → AscendsFrom n (merged_from e l)
    behind [] n e a = a
    behind (f ∷ l) n e a = go (joins e f) refl (behind l n (joined e f)) (behind l (suc e.hi) f)
      where
        go : (v : Bool) → joins e f ≡ v → (AscendsFrom n (joined e f ∷ l) → AscendsFrom n (merged_from (joined e f) l)) → (AscendsFrom (suc e.hi) (f ∷ l) → AscendsFrom (suc e.hi) (merged_from f l)) →
            AscendsFrom n (cond v (merged_from (joined e f) l) (e ∷ merged_from f l))
        go true h p q = p (a.0, omega (arith, a.1, a.2.0, a.2.1), a.2.2)
        go false h p q = (a.0, a.1, q a.2)

-- each merged edge does what one of the edges does
pub merged-has : (l : List Edge) (x : Edge) → HasEdge (merged l) x → (y : Edge) × HasEdge l y × (bare x ≡ bare y)
merged-has [] x h = absurd h
merged-has (e ∷ l) x h = behind l e x h
  where
    behind : (l : List Edge) (e x : Edge) → HasEdge (merged_from e l) x → (y : Edge) × HasEdge (e ∷ l) y × (bare x ≡ bare y)
    behind [] e x (inl p) = (e, inl refl, ap bare (sym p))
    behind [] e x (inr p) = absurd p
    behind (f ∷ l) e x h = go (joins e f) refl h (behind l (joined e f) x) (behind l f x)
      where
        first : ((y : Edge) × HasEdge (joined e f ∷ l) y × (bare x ≡ bare y)) → (y : Edge) × HasEdge (e ∷ f ∷ l) y × (bare x ≡ bare y)
        first (y, inl p, q) = (e, inl refl, q ∙ ap bare (sym p))
        first (y, inr p, q) = (y, inr (inr p), q)

        go : (v : Bool) → joins e f ≡ v → HasEdge (cond v (merged_from (joined e f) l) (e ∷ merged_from f l)) x →
            (HasEdge (merged_from (joined e f) l) x → (y : Edge) × HasEdge (joined e f ∷ l) y × (bare x ≡ bare y)) →
            (HasEdge (merged_from f l) x → (y : Edge) × HasEdge (f ∷ l) y × (bare x ≡ bare y)) →
            (y : Edge) × HasEdge (e ∷ f ∷ l) y × (bare x ≡ bare y)
        go true j h p q = first (p h)
        go false j (inl h) p q = (e, inl refl, ap bare (sym h))
        go false j (inr h) p q = (let r : (y : Edge) × HasEdge (f ∷ l) y × (bare x ≡ bare y) = q h in (r.0, inr r.1, r.2))

-- no merged edge goes on with the one before it
pub merged-in-row : (n : ℕ) (l : List Edge) → AscendsFrom n l → in_row may_follow (merged l) ≡ true
merged-in-row n [] a = refl
merged-in-row n (e ∷ l) a = in-row-from l n e a
  where
    follows : (e f : Edge) → e.hi < f.lo → joins e f ≡ false → may_follow e f ≡ true
    follows e f h j = and-both (nat_lt e.hi f.lo) (not (joins e f)) (lt-ltb e.hi f.lo h) (ap not j)

    -- merged edges from e on begin with an edge that begins where e does, and may stand behind what e may stand behind
    behind : (l : List Edge) (n : ℕ) (d e : Edge) → AscendsFrom n (e ∷ l) → d.hi < e.lo → joins d e ≡ false → row_behind may_follow d (merged_from e l) ≡ true
    behind [] n d e a h j = and-both (may_follow d e) true (follows d e h j) refl
    behind (f ∷ l) n d e a h j =
        go (joins e f) refl (behind l n d (joined e f)) (behind l (suc e.hi) e f)
      where
        go : (v : Bool) → joins e f ≡ v → (AscendsFrom n (joined e f ∷ l) → d.hi < e.lo → joins d (joined e f) ≡ false → row_behind may_follow d (merged_from (joined e f) l) ≡ true) →
            (AscendsFrom (suc e.hi) (f ∷ l) → e.hi < f.lo → joins e f ≡ false → row_behind may_follow e (merged_from f l) ≡ true) →
            row_behind may_follow d (cond v (merged_from (joined e f) l) (e ∷ merged_from f l)) ≡ true
        go true k p q = p (a.0, omega (arith, a.1, a.2.0, a.2.1), a.2.2) h j
        go false k p q = and-both (may_follow d e) (row_behind may_follow e (merged_from f l)) (follows d e h j) (q a.2 (omega (arith, a.2.0)) k)

    in-row-from : (l : List Edge) (n : ℕ) (e : Edge) → AscendsFrom n (e ∷ l) → in_row may_follow (merged_from e l) ≡ true
    in-row-from [] n e a = refl
    in-row-from (f ∷ l) n e a = go (joins e f) refl (in-row-from l n (joined e f))
      where
        go : (v : Bool) → joins e f ≡ v → (AscendsFrom n (joined e f ∷ l) → in_row may_follow (merged_from (joined e f) l) ≡ true) →
            in_row may_follow (cond v (merged_from (joined e f) l) (e ∷ merged_from f l)) ≡ true
        go true k p = p (a.0, omega (arith, a.1, a.2.0, a.2.1), a.2.2)
        go false k p = behind l (suc e.hi) e f a.2 (omega (arith, a.2.0)) k

-- a byte finds among merged edges what it finds among the edges
pub merged-finds : (n b : ℕ) (l : List Edge) → AscendsFrom n l → option_map bare (edge_on b (merged l)) ≡ option_map bare (edge_on b l)
merged-finds n b [] a = refl
merged-finds n b (e ∷ l) a = behind l n e a
  where
    here : Edge → Bool
    here e = in_pair b (e.lo, e.hi)

    -- a byte in the bytes of both
    two : (e f : Edge) (o : Option Edge) → joins e f ≡ true → e.lo ≤ e.hi → f.lo ≤ f.hi →
        option_map bare (cond (in_pair b (e.lo, f.hi)) (Some (joined e f)) o) ≡ option_map bare (cond (in_pair b (e.lo, e.hi)) (Some e) (cond (in_pair b (f.lo, f.hi)) (Some f) o))
    two e f o j p q = go (leb e.lo b) refl (leb b e.hi) refl (leb f.lo b) refl (leb b f.hi) refl
      where
        next : e.hi + 1 ≡ f.lo
        next = joins-next e f j

        go : (s : Bool) → leb e.lo b ≡ s → (t : Bool) → leb b e.hi ≡ t → (u : Bool) → leb f.lo b ≡ u → (v : Bool) → leb b f.hi ≡ v →
            option_map bare (cond (s && v) (Some (joined e f)) o) ≡ option_map bare (cond (s && t) (Some e) (cond (u && v) (Some f) o))
        go true es true et u eu true ev = refl
        go true es true et u eu false ev =
            let x : b ≤ e.hi = leb-true b e.hi et in
            let y : f.hi < b = leb-false b f.hi ev in
            absurd (omega (arith, x, y, next, q))
        go true es false et true eu true ev = ap (λ (x : Edge). Some x) (joins-bare e f j)
        go true es false et true eu false ev = refl
        go true es false et false eu v ev =
            let x : e.hi < b = leb-false b e.hi et in
            let y : b < f.lo = leb-false f.lo b eu in
            absurd (omega (arith, x, y, next))
        go false es t et true eu v ev =
            let x : b < e.lo = leb-false e.lo b es in
            let y : f.lo ≤ b = leb-true f.lo b eu in
            absurd (omega (arith, x, y, next, p))
        go false es t et false eu v ev = refl

    map-cond : (v : Bool) (o p : Option Edge) (e : Edge) → option_map bare o ≡ option_map bare p → option_map bare (cond v (Some e) o) ≡ option_map bare (cond v (Some e) p)
    map-cond true o p e h = refl
    map-cond false o p e h = h

    behind : (l : List Edge) (n : ℕ) (e : Edge) → AscendsFrom n (e ∷ l) → option_map bare (edge_on b (merged_from e l)) ≡ option_map bare (edge_on b (e ∷ l))
    behind [] n e a = refl
    behind (f ∷ l) n e a = go (joins e f) refl (behind l n (joined e f)) (behind l (suc e.hi) f)
      where
        go : (v : Bool) → joins e f ≡ v → (AscendsFrom n (joined e f ∷ l) → option_map bare (edge_on b (merged_from (joined e f) l)) ≡ option_map bare (edge_on b (joined e f ∷ l))) →
            (AscendsFrom (suc e.hi) (f ∷ l) → option_map bare (edge_on b (merged_from f l)) ≡ option_map bare (edge_on b (f ∷ l))) →
            option_map bare (edge_on b (cond v (merged_from (joined e f) l) (e ∷ merged_from f l))) ≡ option_map bare (edge_on b (e ∷ f ∷ l))
        go true j p q = p (a.0, omega (arith, a.1, a.2.0, a.2.1), a.2.2) ∙ two e f (edge_on b l) j a.1 a.2.1
        go false j p q = map-cond (in_pair b (e.lo, e.hi)) (edge_on b (merged_from f l)) (edge_on b (f ∷ l)) e (q a.2)

-- edges that do the same lead to the same turn
pub bare-turn : (c : Config) (rest : Rest) (o p : Option Edge) → option_map bare o ≡ option_map bare p → edge_turn c rest o ≡ edge_turn c rest p
bare-turn c rest None None h = refl
bare-turn c rest None (Some f) h = absurd cc
bare-turn c rest (Some e) None h = absurd cc
bare-turn c rest (Some e) (Some f) h =
    let same : bare e ≡ bare f = cc in
    ap (λ (x : Edge). edge_turn c rest (Some x)) same
