-- The moves of a match node are those that its edges tell.
use Rattle.std.proofs.Common.{◌≡◌, ℕ, zero, suc, ◌+◌, ◌≤◌, ◌<◌, List, [], ◌∷◌, ◌++◌, Option, Some, None, Bool, true, false, cond, refl, sym, ◌∙◌, ap, arith, length, map, take, get_or, inl, inr, ◌||◌}
use Rattle.std.specs.Prelude.{slice_get, slice_index, ◌==◌, find}
use Rattle.std.specs.List.{Any}
use Rattle.std.proofs.lemmas.Bool.{eqb-true, eqb-false, cases_lt}
use Rattle.std.proofs.lemmas.List.{get_or-take, length-take-le, take_all, take_more}
use Rattle.pp_flow.specs.Rows.{Way, free, onward, OrEnds}
use Rattle.pp_bytes.specs.declared.fold.Fold.{Fold}
use Rattle.pp_bytes.specs.Fold.{folded}
use Rattle.pp_graph.specs.declared.node.Key.{Key}
use Rattle.pp_graph.specs.declared.node.Peek.{Peek}
use Rattle.pp_graph.specs.declared.node.Other.{Other}
use Rattle.pp_event.specs.Run.{Config, Rests}
use Rattle.pp_event.specs.Loops.{LeadsTo, AreBytes}
use Rattle.pp_mean.specs.Nodes.{common, reach, best, goes_on, peek_turn, key_turn, rests_at, match_turn}
use Rattle.pp_check.specs.steps.Ends.{GoesOnBy, IsLive, KeyBegins, PeekAt, IsKeyOf, StopsIn, KeyEnds, PeekEnds, OtherEnds}
use Rattle.pp_flow.proofs.ListLemmas.{any-at, any-listed, any-first, any-later, any-either, any-none}
use Rattle.pp_check.proofs.CommonLemmas.{common-short, common-within, common-same, common-most, reach-most, reach-met, best-none, IsBest, best-some, goes-past}

-- a turn that takes no byte is free, and one that takes bytes is onward
abbrev pub way_of : ℕ → Way
way_of zero = free
way_of (suc n) = onward

-- what is used of the keys of a match node
pub record KeysFit (fold : Fold) (keys : List Key) : Type 0 where
  pub some : (i : ℕ) (k : Key) → slice_get keys i ≡ Some k → 0 < length k.bytes
  pub gapless : (short long : Key) (i j n : ℕ) → slice_get keys i ≡ Some short → slice_get keys j ≡ Some long →
      take (length short.bytes) long.bytes ≡ short.bytes → length short.bytes < n → n < length long.bytes → IsKeyOf keys (take n long.bytes)
  pub once : (k l : Key) (i j : ℕ) → slice_get keys i ≡ Some k → slice_get keys j ≡ Some l → k.bytes ≡ l.bytes → k.target ≡ l.target
  pub folds : (i : ℕ) (k : Key) → slice_get keys i ≡ Some k → map (folded fold) k.bytes ≡ k.bytes
  pub bytes : (i : ℕ) (k : Key) → slice_get keys i ≡ Some k → AreBytes k.bytes

-- and of its peeks
pub record PeeksFit (keys : List Key) (peeks : List Peek) : Type 0 where
  pub apart : (c : ℕ) → KeyBegins keys c → PeekAt peeks c → ⊥
  pub once : (p q : Peek) (i j : ℕ) → slice_get peeks i ≡ Some p → slice_get peeks j ≡ Some q → p.byte ≡ q.byte → p.target ≡ q.target

pub take-one : (l : List ℕ) → 0 < length l → take 1 l ≡ get_or l 0 0 ∷ []
take-one [] h = absurd (omega (arith, h))
take-one (x ∷ l) h = refl

-- the first bytes are the same where anything is
pub first-same : (l w : List ℕ) → 0 < common l w → slice_index l 0 ≡ slice_index w 0
first-same l w h =
    let same : take 1 l ≡ take 1 w = common-same l w 1 (omega (arith, h)) in
    sym (get_or-take 1 l 0 0 (omega arith)) ∙ (ap (λ xs. get_or xs 0 0) same ∙ get_or-take 1 w 0 0 (omega arith))

pub begins-some : (l w : List ℕ) → 0 < length l → 0 < length w → slice_index l 0 ≡ slice_index w 0 → 0 < common l w
begins-some l w h g e =
    let same : take 1 l ≡ take 1 w = take-one l h ∙ (ap (λ x. x ∷ []) e ∙ sym (take-one w g)) in
    let far : 1 ≤ common l w = common-most l w 1 (omega (arith, h)) (omega (arith, g)) same in
    omega (arith, far)

-- a key that a string begins with fits it
pub fits-by : (l w : List ℕ) → length l ≤ length w → take (length l) w ≡ l → common l w ≡ length l
fits-by l w h e =
    let far : length l ≤ common l w = common-most l w (length l) (omega arith) h (take_all (length l) l (omega arith) ∙ sym e) in
    let short : common l w ≤ length l = common-short l w in
    omega (arith, far, short)

-- and a string begins with each that fits
pub by-fit : (l w : List ℕ) → common l w ≡ length l → take (length l) w ≡ l
by-fit l w e = sym (common-same l w (length l) (omega (arith, e))) ∙ take_all (length l) l (omega arith)

-- one byte more
take-next : (l : List ℕ) (n : ℕ) → n < length l → take (n + 1) l ≡ take n l ++ get_or l n 0 ∷ []
take-next l n h = take_more l n 0 h

map-at : (fold : Fold) (str : List ℕ) (n : ℕ) → n < length str → get_or (map (folded fold) str) n 0 ≡ folded fold (get_or str n 0)
map-at fold [] n h = absurd (omega (arith, h))
map-at fold (x ∷ str) zero h = refl
map-at fold (x ∷ str) (suc n) h = map-at fold str n (omega (arith, h))

map-size : (fold : Fold) (str : List ℕ) → length (map (folded fold) str) ≡ length str
map-size fold [] = refl
map-size fold (x ∷ str) = ap suc (map-size fold str)

-- a string stops right behind a front that it begins with, where no key goes farther with it
live-by : (fold : Fold) (keys : List Key) (str front : List ℕ) → AreBytes str →
    length front ≤ length str → take (length front) (map (folded fold) str) ≡ front →
    ((i : ℕ) (l : Key) → slice_get keys i ≡ Some l → common l.bytes (map (folded fold) str) ≤ length front) →
    goes_on keys (map (folded fold) str) ≡ false → IsLive fold keys front
live-by fold keys str front h low begins most stays = elim (cases_lt (length front) (length str)) [
  | inl less ↦ (
    get_or str (length front) 0,
    h (length front),
    (λ a.
        let w : List ℕ = map (folded fold) str in
        let size : length w ≡ length str = map-size fold str in
        let l : Key = a.1 in
        let on : GoesOnBy front l.bytes (folded fold (get_or str (length front) 0)) = a.4 in
        let here : get_or w (length front) 0 ≡ folded fold (get_or str (length front) 0) = map-at fold str (length front) less in
        let left : take (length front + 1) l.bytes ≡ front ++ get_or l.bytes (length front) 0 ∷ [] = take-next l.bytes (length front) on.0 ∙ ap (λ xs. xs ++ get_or l.bytes (length front) 0 ∷ []) on.1 in
        let right : take (length front + 1) w ≡ front ++ get_or w (length front) 0 ∷ [] = take-next w (length front) (omega (arith, size, less)) ∙ ap (λ xs. xs ++ get_or w (length front) 0 ∷ []) begins in
        let mid : get_or l.bytes (length front) 0 ≡ get_or w (length front) 0 = on.2 ∙ sym here in
        let same : take (length front + 1) l.bytes ≡ take (length front + 1) w = left ∙ (ap (λ x. front ++ x ∷ []) mid ∙ sym right) in
        let far : length front + 1 ≤ common l.bytes w = common-most l.bytes w (length front + 1) (omega (arith, on.0)) (omega (arith, size, less)) same in
        let near : common l.bytes w ≤ length front = most a.0 l (any-listed _ keys a) in
        omega (arith, far, near)),
  )
  | inr more ↦ (
    0,
    omega arith,
    (λ a.
        let w : List ℕ = map (folded fold) str in
        let size : length w ≡ length str = map-size fold str in
        let l : Key = a.1 in
        let on : GoesOnBy front l.bytes (folded fold 0) = a.4 in
        let far : length front ≤ common l.bytes w = common-most l.bytes w (length front) (omega (arith, on.0)) (omega (arith, size, low)) (on.1 ∙ sym begins) in
        let near : common l.bytes w ≤ length w = common-within l.bytes w in
        goes-past keys w stays a.0 l (any-listed _ keys a) (omega (arith, far, near, size, low, more), omega (arith, on.0, size, low, more))),
  )
]

pub find-some : (ps : List Peek) (c : ℕ) (p : Peek) → find (λ (q : Peek). q.byte == c) ps ≡ Some p → Any (λ (q : Peek). (q ≡ p) × (q.byte ≡ c)) ps
find-some [] c p e = absurd cc
find-some (q ∷ ps) c p e = by (λ f. find-some ps c p f) (q.byte == c) refl e
  where
    by : (find (λ (q : Peek). q.byte == c) ps ≡ Some p → Any (λ (q : Peek). (q ≡ p) × (q.byte ≡ c)) ps) → (t : Bool) → (q.byte == c) ≡ t →
        cond t (Some q) (find (λ (q : Peek). q.byte == c) ps) ≡ Some p → Any (λ (q : Peek). (q ≡ p) × (q.byte ≡ c)) (q ∷ ps)
    by go true f e = (let same : q ≡ p = cc in any-first (λ (q : Peek). (q ≡ p) × (q.byte ≡ c)) q ps (same, eqb-true _ _ f))
    by go false f e = any-later (λ (q : Peek). (q ≡ p) × (q.byte ≡ c)) q ps (go e)

pub find-none : (ps : List Peek) (c : ℕ) → find (λ (q : Peek). q.byte == c) ps ≡ None → PeekAt ps c → ⊥
find-none [] c e a = any-none _ a
find-none (q ∷ ps) c e a = by (λ f. find-none ps c f) (q.byte == c) refl e
  where
    by : (find (λ (q : Peek). q.byte == c) ps ≡ None → PeekAt ps c → ⊥) → (t : Bool) → (q.byte == c) ≡ t → cond t (Some q) (find (λ (q : Peek). q.byte == c) ps) ≡ None → ⊥
    by go true f e = cc
    by go false f e = elim (any-either (λ (q : Peek). q.byte ≡ c) q ps a) [
      | inl here ↦ eqb-false _ _ f here
      | inr rest ↦ go e rest
    ]

module _ (fold : Fold) (keys : List Key) (fit : KeysFit fold keys) where
  -- behind the best key no key goes farther
  best-farthest : (w : List ℕ) (k : Key) → IsBest keys w k → (i : ℕ) (l : Key) → slice_get keys i ≡ Some l → common l.bytes w ≤ length k.bytes
  best-farthest w k best i l listed = elim (cases_lt (length k.bytes) (common l.bytes w)) [
    | inr low ↦ low
    | inl more ↦
        let short : common l.bytes w ≤ length l.bytes = common-short l.bytes w in
        let within : common l.bytes w ≤ length w = common-within l.bytes w in
        elim (cases_lt (common l.bytes w) (length l.bytes)) [
          | inr whole ↦ (let long : length l.bytes ≤ length k.bytes = best.longest i l listed (omega (arith, short, whole)) in omega (arith, long, whole, short))
          | inl part ↦
              let front : take (length k.bytes) l.bytes ≡ k.bytes = common-same l.bytes w (length k.bytes) (omega (arith, more)) ∙ by-fit k.bytes w best.fit in
              let a : IsKeyOf keys (take (common l.bytes w) l.bytes) = fit.gapless k l best.place i (common l.bytes w) best.listed listed front more part in
              let m : Key = a.1 in
              let bytes : m.bytes ≡ take (common l.bytes w) l.bytes = a.4 in
              let size : length m.bytes ≡ common l.bytes w = ap length bytes ∙ length-take-le (common l.bytes w) l.bytes short in
              let there : take (length m.bytes) w ≡ m.bytes = ap (λ n. take n w) size ∙ (sym (common-same l.bytes w (common l.bytes w) (omega arith)) ∙ sym bytes) in
              let fits : common m.bytes w ≡ length m.bytes = fits-by m.bytes w (omega (arith, size, within)) there in
              let long : length m.bytes ≤ length k.bytes = best.longest a.0 m (any-listed _ keys a) fits in
              absurd (omega (arith, long, size, more))
        ]
  ]

  module _ (peeks : List Peek) (other : Other) (b : ℕ) (str : List ℕ) (are : AreBytes (b ∷ str)) where
    abbrev string : List ℕ
    string = map (folded fold) (b ∷ str)

    abbrev Tells : Way → ℕ → Type 0
    Tells way next = OrEnds (KeyEnds fold keys keys) (OrEnds (PeekEnds fold peeks) (OtherEnds fold keys peeks other)) way b next

    key-told : (k : Key) (next : ℕ) → IsBest keys string k → goes_on keys string ≡ false → k.target ≡ next → Tells onward next
    key-told k next best stays e =
        let within : common k.bytes string ≤ length string = common-within k.bytes string in
        let size : length string ≡ length (b ∷ str) = map-size fold (b ∷ str) in
        let some : 0 < length k.bytes = fit.some best.place k best.listed in
        let live : IsLive fold keys k.bytes = live-by fold keys (b ∷ str) k.bytes are (omega (arith, within, size, best.fit)) (by-fit k.bytes string best.fit) (best-farthest string k best) stays in
        let first : slice_index k.bytes 0 ≡ folded fold b = first-same k.bytes string (omega (arith, some, best.fit)) in
        inl (any-at (λ (l : Key). (slice_index l.bytes 0 ≡ folded fold b) × IsLive fold keys l.bytes × (l.target ≡ next)) keys best.place k best.listed (first, live, e))

    -- the otherwise behind a front of a key
    behind-told : (m next : ℕ) → reach keys string ≡ suc m → best keys string ≡ None → goes_on keys string ≡ false → other.target ≡ next → Tells onward next
    behind-told m next far none stays e =
        let a : Any (λ (k : Key). common k.bytes string ≡ suc m) keys = reach-met keys string m far in
        let l : Key = a.1 in
        let listed : slice_get keys a.0 ≡ Some l = any-listed (λ (k : Key). common k.bytes string ≡ suc m) keys a in
        let here : common l.bytes string ≡ suc m = a.4 in
        let short : common l.bytes string ≤ length l.bytes = common-short l.bytes string in
        let within : common l.bytes string ≤ length string = common-within l.bytes string in
        let size : length string ≡ length (b ∷ str) = map-size fold (b ∷ str) in
        let part : length l.bytes ≡ common l.bytes string → ⊥ = λ q. best-none keys string none a.0 l listed (sym q) in
        let less : suc m < length l.bytes = less-by (suc m) (length l.bytes) (omega (arith, here, short)) (λ q. part (q ∙ sym here)) in
        let front : List ℕ = take (suc m) l.bytes in
        let long : length front ≡ suc m = length-take-le (suc m) l.bytes (omega (arith, less)) in
        let begins : take (length front) string ≡ front = ap (λ n. take n string) long ∙ sym (common-same l.bytes string (suc m) (omega (arith, here))) in
        let none_there : IsKeyOf keys front → ⊥ = λ q.
        (let same : q.1.bytes ≡ front = q.4 in
        let its : length q.1.bytes ≡ suc m = ap length same ∙ long in
        best-none keys string none q.0 q.1 (any-listed (λ (k : Key). k.bytes ≡ front) keys q)
        (fits-by q.1.bytes string (omega (arith, its, here, within)) (ap (λ n. take n string) (its ∙ sym long) ∙ (begins ∙ sym same)))) in
        let live : IsLive fold keys front = live-by fold keys (b ∷ str) front are (omega (arith, long, here, within, size)) begins
        (λ i k at. (let most : common k.bytes string ≤ reach keys string = reach-most keys string i k at in omega (arith, most, far, long))) stays in
        let first : slice_index l.bytes 0 ≡ folded fold b = first-same l.bytes string (omega (arith, here)) in
        inr (inr (e, inr (any-at (λ (k : Key). (slice_index k.bytes 0 ≡ folded fold b) × StopsIn fold keys k.bytes) keys a.0 l listed (first, (suc m, omega arith, less, none_there, live)))))
      where
        less-by : (n m : ℕ) → n ≤ m → (m ≡ n → ⊥) → n < m
        less-by n m h g = grind (arith, g)

    none-begins : reach keys string ≡ 0 → KeyBegins keys (folded fold b) → ⊥
    none-begins e a =
        let l : Key = a.1 in
        let listed : slice_get keys a.0 ≡ Some l = any-listed (λ (k : Key). slice_index k.bytes 0 ≡ folded fold b) keys a in
        let some : 0 < common l.bytes string = begins-some l.bytes string (fit.some a.0 l listed) (omega arith) a.4 in
        let most : common l.bytes string ≤ reach keys string = reach-most keys string a.0 l listed in
        omega (arith, some, most, e)

    -- where a turn leads that takes so many bytes, an edge leads
    peek-told : (c : Config) (n next m : ℕ) → reach keys string ≡ m → best keys string ≡ None → goes_on keys string ≡ false →
        (p : Option Peek) → find (λ (q : Peek). q.byte == folded fold b) peeks ≡ p → LeadsTo (peek_turn c other m p) n next → Tells (way_of n) next
    peek-told c zero next zero far none stays (Some p) found l =
        let a = find-some peeks (folded fold b) p found in
        inr (inl (a.0, a.1, a.2, a.3, (a.4.1, ap (λ (q : Peek). q.target) a.4.0 ∙ l.1)))
    peek-told c (suc n) next zero far none stays (Some p) found l = absurd (omega (arith, l.0))
    peek-told c zero next zero far none stays None found l =
        inr (inr (l.1, no-skip other.skip l.0, (none-begins far, find-none peeks (folded fold b) found)))
      where
        no-skip : (t : Bool) → cond t (0 + 1) 0 ≡ 0 → t ≡ false
        no-skip true e = absurd (omega (arith, e))
        no-skip false e = refl
    peek-told c (suc n) next zero far none stays None found l =
        inr (inr (l.1, inl (skips other.skip n l.0, (none-begins far, find-none peeks (folded fold b) found))))
      where
        skips : (t : Bool) (n : ℕ) → cond t (0 + 1) 0 ≡ suc n → t ≡ true
        skips true n e = refl
        skips false n e = absurd (omega (arith, e))
    peek-told c zero next (suc m) far none stays p found l = absurd (takes other.skip m l.0)
      where
        takes : (t : Bool) (m : ℕ) → cond t (suc m + 1) (suc m) ≡ 0 → ⊥
        takes true m e = omega (arith, e)
        takes false m e = omega (arith, e)
    peek-told c (suc n) next (suc m) far none stays p found l = behind-told m next far none stays l.1

    keys-told : (c : Config) (n next : ℕ) → goes_on keys string ≡ false → (o : Option Key) → best keys string ≡ o →
        LeadsTo (key_turn c keys peeks other string o) n next → Tells (way_of n) next
    keys-told c zero next stays (Some k) e l =
        let best : IsBest keys string k = best-some keys string k e in
        let some : 0 < length k.bytes = fit.some best.place k best.listed in
        absurd (omega (arith, l.0, some))
    keys-told c (suc n) next stays (Some k) e l = key-told k next (best-some keys string k e) stays l.1
    keys-told c n next stays None e l = peek-told c n next (reach keys string) refl e stays (find (λ (q : Peek). q.byte == folded fold b) peeks) refl l

    pub match-told : (c : Config) (n next : ℕ) → LeadsTo (match_turn c (b ∷ str) keys peeks other string) n next → Tells (way_of n) next
    match-told c n next l = by (goes_on keys string) refl l
      where
        by : (t : Bool) → goes_on keys string ≡ t → LeadsTo (cond (t || false) (Rests (rests_at c (b ∷ str))) (key_turn c keys peeks other string (best keys string))) n next → Tells (way_of n) next
        by true e l = absurd l
        by false e l = keys-told c n next e (best keys string) refl l
