-- Each end that the edges of a match node tell is come to on some string.
use Rattle.std.proofs.Common.{subst, ◌≡◌, ℕ, zero, suc, ◌+◌, ◌≤◌, ◌<◌, List, [], ◌∷◌, ◌++◌, Option, Some, None, Bool, true, false, cond, refl, sym, ◌∙◌, ap, arith, length, map, take, drop, get_or, inl, inr, ◌||◌}
use Rattle.std.specs.Prelude.{slice_get, slice_index, ◌==◌, ◌-◌, find}
use Rattle.std.specs.List.{Any}
use Rattle.std.proofs.lemmas.Bool.{cases_lt}
use Rattle.std.proofs.lemmas.List.{get_or-take, length-take-le, take-take, take_at, length_push, get_or_push, map-append}
use Rattle.pp_flow.specs.Rows.{free, onward}
use Rattle.pp_bytes.specs.declared.fold.Fold.{Fold}
use Rattle.pp_bytes.specs.Fold.{folded}
use Rattle.pp_graph.specs.declared.node.Key.{Key}
use Rattle.pp_graph.specs.declared.node.Peek.{Peek}
use Rattle.pp_graph.specs.declared.node.Other.{Other}
use Rattle.pp_event.specs.Run.{Config, Rests}
use Rattle.pp_event.specs.Loops.{LeadsTo, AreBytes}
use Rattle.pp_mean.specs.Nodes.{common, reach, best, goes_on, other_turn, peek_at, peek_turn, key_turn, rests_at, match_turn}
use Rattle.pp_check.specs.steps.Ends.{GoesOnBy, IsLive, KeyBegins, PeekAt, IsKeyOf, StopsIn, StopsBehind, KeyEnds, PeekEnds, IsOtherByte, OtherEnds}
use Rattle.pp_flow.proofs.ListLemmas.{any-at, any-listed}
use Rattle.pp_check.proofs.CommonLemmas.{common-short, common-same, common-most, reach-most, reach-is, best-none, best-is-none, IsBest, best-some, past-none}
use Rattle.pp_check.proofs.MatchLemmas.{KeysFit, PeeksFit, fits-by, by-fit, first-same, find-some, find-none}

bytes-push : (xs : List ℕ) (c : ℕ) → AreBytes xs → c < 256 → AreBytes (xs ++ c ∷ [])
bytes-push [] c h g zero = g
bytes-push [] c h g (suc i) = omega arith
bytes-push (x ∷ xs) c h g zero = h 0
bytes-push (x ∷ xs) c h g (suc i) = bytes-push xs c (λ j. h (suc j)) g i

pub bytes-rest : (xs : List ℕ) → AreBytes xs → AreBytes (drop 1 xs)
bytes-rest [] h i = omega arith
bytes-rest (x ∷ xs) h i = h (suc i)

bytes-front : (xs : List ℕ) (n : ℕ) → AreBytes xs → AreBytes (take n xs)
bytes-front xs zero h i = omega arith
bytes-front [] (suc n) h i = omega arith
bytes-front (x ∷ xs) (suc n) h zero = h 0
bytes-front (x ∷ xs) (suc n) h (suc i) = bytes-front xs n (λ j. h (suc j)) i

fold-front : (fold : Fold) (xs : List ℕ) (n : ℕ) → map (folded fold) xs ≡ xs → map (folded fold) (take n xs) ≡ take n xs
fold-front fold xs zero e = refl
fold-front fold [] (suc n) e = refl
fold-front fold (x ∷ xs) (suc n) e =
    let first : folded fold x ≡ x = ap (λ ys. get_or ys 0 0) e in
    let rest : map (folded fold) xs ≡ xs = cc in
    let more : map (folded fold) (take n xs) ≡ take n xs = fold-front fold xs n rest in
    cc

-- a string that begins with b, and goes on behind these bytes with c
abbrev rest_of : List ℕ → ℕ → List ℕ
rest_of front c = drop 1 front ++ c ∷ []

string-is : (fold : Fold) (front : List ℕ) (b c : ℕ) → 0 < length front → slice_index front 0 ≡ folded fold b → map (folded fold) front ≡ front →
    map (folded fold) (b ∷ rest_of front c) ≡ front ++ folded fold c ∷ []
string-is fold [] b c h e f = absurd (omega (arith, h))
string-is fold (x ∷ xs) b c h e f =
    let rest : map (folded fold) xs ≡ xs = cc in
    let both : map (folded fold) (xs ++ c ∷ []) ≡ xs ++ folded fold c ∷ [] = map-append (folded fold) xs (c ∷ []) ∙ ap (λ ys. ys ++ folded fold c ∷ []) rest in
    cc

module _ (fold : Fold) (keys : List Key) (fit : KeysFit fold keys) where
  -- a string that goes on behind a front as no key does
  module _ (front w : List ℕ) (c : ℕ) (alone : Any (λ (k : Key). GoesOnBy front k.bytes c) keys → ⊥) (is : w ≡ front ++ c ∷ []) where
    size : length w ≡ length front + 1
    size = ap length is ∙ length_push front c

    begins : take (length front) w ≡ front
    begins = ap (take (length front)) is ∙ take_at front (c ∷ []) (length front) refl

    near : (i : ℕ) (l : Key) → slice_get keys i ≡ Some l → common l.bytes w ≤ length front
    near i l listed = elim (cases_lt (length front) (common l.bytes w)) [
      | inr low ↦ low
      | inl more ↦
          let short : common l.bytes w ≤ length l.bytes = common-short l.bytes w in
          let same : take (length front + 1) l.bytes ≡ take (length front + 1) w = common-same l.bytes w (length front + 1) (omega (arith, more)) in
          let part : take (length front) l.bytes ≡ front = common-same l.bytes w (length front) (omega (arith, more)) ∙ begins in
          let last : get_or w (length front) 0 ≡ c = ap (λ xs. get_or xs (length front) 0) is ∙ get_or_push front c 0 (length front) refl in
          let read : get_or l.bytes (length front) 0 ≡ c =
          sym (get_or-take (length front + 1) l.bytes (length front) 0 (omega arith))
          ∙ (ap (λ xs. get_or xs (length front) 0) same ∙ (get_or-take (length front + 1) w (length front) 0 (omega arith) ∙ last)) in
          absurd (alone (any-at (λ (k : Key). GoesOnBy front k.bytes c) keys i l listed (omega (arith, short, more), part, read)))
    ]

    stays : goes_on keys w ≡ false
    stays = past-none keys w (λ i k e h. (let low : common k.bytes w ≤ length front = near i k e in omega (arith, low, size, h.0)))

    -- a key that is the front is taken
    taken : (c' : Config) (peeks : List Peek) (other : Other) (k : Key) (i : ℕ) → slice_get keys i ≡ Some k → k.bytes ≡ front → (o : Option Key) → best keys w ≡ o →
        LeadsTo (key_turn c' keys peeks other w o) (length front) k.target
    taken c' peeks other k i listed e None none =
        absurd (best-none keys w none i k listed (fits-by k.bytes w (omega (arith, size, ap length e)) (ap (λ xs. take (length xs) w) e ∙ (begins ∙ sym e))))
    taken c' peeks other k i listed e (Some m) some =
        let best : IsBest keys w m = best-some keys w m some in
        let its : length k.bytes ≡ length front = ap length e in
        let fits : common k.bytes w ≡ length k.bytes = fits-by k.bytes w (omega (arith, size, its)) (ap (λ xs. take (length xs) w) e ∙ (begins ∙ sym e)) in
        let long : length k.bytes ≤ length m.bytes = best.longest i k listed fits in
        let low : common m.bytes w ≤ length front = near best.place m best.listed in
        let same : length m.bytes ≡ length front = omega (arith, long, low, best.fit, its) in
        let bytes : m.bytes ≡ k.bytes = sym (by-fit m.bytes w best.fit) ∙ (ap (λ n. take n w) same ∙ (begins ∙ sym e)) in
        (same, fit.once m k best.place i best.listed listed bytes)

  -- where nothing goes on, a match node takes an edge
  turns : (c : Config) (peeks : List Peek) (other : Other) (rest w : List ℕ) (x n next : ℕ) → goes_on keys (x ∷ w) ≡ false →
      LeadsTo (key_turn c keys peeks other (x ∷ w) (best keys (x ∷ w))) n next → LeadsTo (match_turn c rest keys peeks other (x ∷ w)) n next
  turns c peeks other rest w x n next e l =
      subst (λ (t : Bool). LeadsTo (cond (t || false) (Rests (rests_at c rest)) (key_turn c keys peeks other (x ∷ w) (best keys (x ∷ w)))) n next) (sym e) l

  -- a live key
  pub key-made : (c : Config) (peeks : List Peek) (other : Other) (b next : ℕ) → KeyEnds fold keys keys onward b next →
      (str : List ℕ) × AreBytes str × (n : ℕ) × LeadsTo (match_turn c (b ∷ str) keys peeks other (map (folded fold) (b ∷ str))) (suc n) next
  key-made c peeks other b next a =
      let k : Key = a.1 in
      let listed : slice_get keys a.0 ≡ Some k = any-listed (λ (k : Key). (slice_index k.bytes 0 ≡ folded fold b) × IsLive fold keys k.bytes × (k.target ≡ next)) keys a in
      let first : slice_index k.bytes 0 ≡ folded fold b = a.4.0 in
      let live : IsLive fold keys k.bytes = a.4.1 in
      let some : 0 < length k.bytes = fit.some a.0 k listed in
      let str : List ℕ = rest_of k.bytes live.0 in
      let is : map (folded fold) (b ∷ str) ≡ k.bytes ++ folded fold live.0 ∷ [] = string-is fold k.bytes b live.0 some first (fit.folds a.0 k listed) in
      let w : List ℕ = map (folded fold) (b ∷ str) in
      let taken : LeadsTo (key_turn c keys peeks other w (best keys w)) (length k.bytes) k.target = taken k.bytes w (folded fold live.0) live.2 is c peeks other k a.0 listed refl (best keys w) refl in
      let count : length k.bytes ≡ suc (length k.bytes - 1) = omega (arith, some) in (
        str,
        bytes-push (drop 1 k.bytes) live.0 (bytes-rest k.bytes (fit.bytes a.0 k listed)) live.1,
        length k.bytes - 1,
        turns c peeks other (b ∷ str) (map (folded fold) str) (folded fold b) (suc (length k.bytes - 1)) next (stays k.bytes w (folded fold live.0) live.2 is)
            (subst (λ (m : ℕ). LeadsTo (key_turn c keys peeks other w (best keys w)) (suc (length k.bytes - 1)) m) a.4.2
            (subst (λ (m : ℕ). LeadsTo (key_turn c keys peeks other w (best keys w)) m k.target) count taken)),
      )

  -- where no key fits, and something is common
  other-taken : (c : Config) (peeks : List Peek) (other : Other) (w : List ℕ) (m : ℕ) → best keys w ≡ None → reach keys w ≡ suc m →
      (n : ℕ) × LeadsTo (key_turn c keys peeks other w (best keys w)) (suc n) other.target
  other-taken c peeks other w m none far =
      let taken : (n : ℕ) × LeadsTo (other_turn c other (suc m)) (suc n) other.target = by other.skip in (
        taken.0,
        subst (λ (o : Option Key). LeadsTo (key_turn c keys peeks other w o) (suc taken.0) other.target) (sym none)
            (subst (λ (r : ℕ). LeadsTo (peek_turn c other r (peek_at peeks w)) (suc taken.0) other.target) (sym far) taken.1),
      )
    where
      by : (t : Bool) → (n : ℕ) × ((cond t (suc m + 1) (suc m) ≡ suc n) × (other.target ≡ other.target))
      by true = (suc m, (omega arith, refl))
      by false = (m, (refl, refl))

  -- a front that is no key, where a string may stop
  pub behind-made : (c : Config) (peeks : List Peek) (other : Other) (b next : ℕ) → StopsBehind fold keys (folded fold b) → other.target ≡ next →
      (str : List ℕ) × AreBytes str × (n : ℕ) × LeadsTo (match_turn c (b ∷ str) keys peeks other (map (folded fold) (b ∷ str))) (suc n) next
  behind-made c peeks other b next a e =
      let l : Key = a.1 in
      let listed : slice_get keys a.0 ≡ Some l = any-listed (λ (k : Key). (slice_index k.bytes 0 ≡ folded fold b) × StopsIn fold keys k.bytes) keys a in
      let first : slice_index l.bytes 0 ≡ folded fold b = a.4.0 in
      let m : ℕ = a.4.1.0 in
      let some : 0 < m = a.4.1.1 in
      let less : m < length l.bytes = a.4.1.2 in
      let front : List ℕ = take m l.bytes in
      let lone : IsKeyOf keys front → ⊥ = a.4.1.3 in
      let live : IsLive fold keys front = a.4.1.4 in
      let size : length front ≡ m = length-take-le m l.bytes (omega (arith, less)) in
      let begin : slice_index front 0 ≡ folded fold b = get_or-take m l.bytes 0 0 some ∙ first in
      let str : List ℕ = rest_of front live.0 in
      let w : List ℕ = map (folded fold) (b ∷ str) in
      let is : w ≡ front ++ folded fold live.0 ∷ [] = string-is fold front b live.0 (omega (arith, size, some)) begin (fold-front fold l.bytes m (fit.folds a.0 l listed)) in
      let near_by : (i : ℕ) (k : Key) → slice_get keys i ≡ Some k → common k.bytes w ≤ length front = near front w (folded fold live.0) live.2 is in
      let begins_by : take (length front) w ≡ front = begins front w (folded fold live.0) live.2 is in
      let long : length w ≡ length front + 1 = size_of front w (folded fold live.0) live.2 is in
      let none : best keys w ≡ None = best-is-none keys w (λ i k at f.
      (let low : common k.bytes w ≤ length front = near_by i k at in
      elim (cases_lt (length k.bytes) (length front)) [
        | inr more ↦
            let same : length k.bytes ≡ length front = omega (arith, low, f, more) in
            lone (any-at (λ (k : Key). k.bytes ≡ front) keys i k at (sym (by-fit k.bytes w f) ∙ (ap (λ n. take n w) same ∙ begins_by)))
        | inl part ↦
            let inner : take (length k.bytes) front ≡ take (length k.bytes) l.bytes = take-take (length k.bytes) m l.bytes (omega (arith, part, size)) in
            let outer : take (length k.bytes) front ≡ take (length k.bytes) w = ap (take (length k.bytes)) (sym begins_by) ∙ take-take (length k.bytes) (length front) w (omega (arith, part)) in
            lone (fit.gapless k l i a.0 m at listed (sym inner ∙ (outer ∙ by-fit k.bytes w f)) (omega (arith, part, size)) less)
      ])) in
      let far : length front ≤ common l.bytes w = common-most l.bytes w (length front) (omega (arith, size, less)) (omega (arith, long)) (ap (λ n. take n l.bytes) size ∙ sym begins_by) in
      let most : common l.bytes w ≤ reach keys w = reach-most keys w a.0 l listed in
      let least : reach keys w ≤ length front = reach-is keys w (length front) near_by in
      let met : reach keys w ≡ suc (m - 1) = omega (arith, far, most, least, size, some) in
      let taken = other-taken c peeks other w (m - 1) none met in (
        str,
        bytes-push (drop 1 front) live.0 (bytes-rest front (bytes-front l.bytes m (fit.bytes a.0 l listed))) live.1,
        taken.0,
        turns c peeks other (b ∷ str) (map (folded fold) str) (folded fold b) (suc taken.0) next (stays front w (folded fold live.0) live.2 is)
            (subst (λ (t : ℕ). LeadsTo (key_turn c keys peeks other w (best keys w)) (suc taken.0) t) e taken.1),
      )
    where
      size_of : (front w : List ℕ) (c : ℕ) → (Any (λ (k : Key). GoesOnBy front k.bytes c) keys → ⊥) → w ≡ front ++ c ∷ [] → length w ≡ length front + 1
      size_of front w c alone is = ap length is ∙ length_push front c

  -- on one byte with which no key begins
  module _ (peeks : List Peek) (x : ℕ) (apart : KeyBegins keys x → ⊥) where
    none-common : (i : ℕ) (k : Key) → slice_get keys i ≡ Some k → common k.bytes (x ∷ []) ≤ 0
    none-common i k e = elim (cases_lt 0 (common k.bytes (x ∷ []))) [
      | inr low ↦ low
      | inl more ↦ absurd (apart (any-at (λ (l : Key). slice_index l.bytes 0 ≡ x) keys i k e (first-same k.bytes (x ∷ []) more)))
    ]

    alone-reach : reach keys (x ∷ []) ≡ 0
    alone-reach = (let low : reach keys (x ∷ []) ≤ 0 = reach-is keys (x ∷ []) 0 none-common in omega (arith, low))

    alone-best : best keys (x ∷ []) ≡ None
    alone-best = best-is-none keys (x ∷ []) (λ i k e f. (let low : common k.bytes (x ∷ []) ≤ 0 = none-common i k e in let some : 0 < length k.bytes = fit.some i k e in omega (arith, low, f, some)))

    alone-stays : goes_on keys (x ∷ []) ≡ false
    alone-stays = past-none keys (x ∷ []) (λ i k e h. (let low : common k.bytes (x ∷ []) ≤ 0 = none-common i k e in let one : common k.bytes (x ∷ []) ≡ 1 = h.0 in omega (arith, low, one)))

    alone-made : (c : Config) (other : Other) (rest : List ℕ) (n next : ℕ) (p : Option Peek) → find (λ (q : Peek). q.byte == x) peeks ≡ p →
        LeadsTo (peek_turn c other 0 p) n next → LeadsTo (match_turn c rest keys peeks other (x ∷ [])) n next
    alone-made c other rest n next p found l =
        turns c peeks other rest [] x n next alone-stays
        (subst (λ (o : Option Key). LeadsTo (key_turn c keys peeks other (x ∷ []) o) n next) (sym alone-best)
        (subst (λ (r : ℕ). LeadsTo (peek_turn c other r (find (λ (q : Peek). q.byte == x) peeks)) n next) (sym alone-reach)
        (subst (λ (o : Option Peek). LeadsTo (peek_turn c other 0 o) n next) (sym found) l)))

  -- a peek
  pub peek-made : (c : Config) (peeks : List Peek) (other : Other) → PeeksFit keys peeks → (b next : ℕ) → PeekEnds fold peeks free b next →
      LeadsTo (match_turn c (b ∷ []) keys peeks other (map (folded fold) (b ∷ []))) 0 next
  peek-made c peeks other well b next a = by (find (λ (q : Peek). q.byte == folded fold b) peeks) refl
    where
      there : PeekAt peeks (folded fold b)
      there = (a.0, a.1, a.2, a.3, a.4.0)

      by : (o : Option Peek) → find (λ (q : Peek). q.byte == folded fold b) peeks ≡ o → LeadsTo (match_turn c (b ∷ []) keys peeks other (map (folded fold) (b ∷ []))) 0 next
      by None e = absurd (find-none peeks (folded fold b) e there)
      by (Some p) e =
          let q = find-some peeks (folded fold b) p e in
          let listed : slice_get peeks q.0 ≡ Some q.1 = any-listed (λ (r : Peek). (r ≡ p) × (r.byte ≡ folded fold b)) peeks q in
          let own : slice_get peeks a.0 ≡ Some a.1 = any-listed (λ (p : Peek). (p.byte ≡ folded fold b) × (p.target ≡ next)) peeks a in
          let same : q.1.target ≡ a.1.target = well.once q.1 a.1 q.0 a.0 listed own (q.4.1 ∙ sym a.4.0) in
          let leads : p.target ≡ next = ap (λ (r : Peek). r.target) (sym q.4.0) ∙ (same ∙ a.4.1) in
          alone-made peeks (folded fold b) (λ k. well.apart (folded fold b) k there) c other (b ∷ []) 0 next (Some p) e (refl, leads)

  no-peek : (peeks : List Peek) (x : ℕ) → (PeekAt peeks x → ⊥) → find (λ (q : Peek). q.byte == x) peeks ≡ None
  no-peek peeks x apart = by (find (λ (q : Peek). q.byte == x) peeks) refl
    where
      by : (o : Option Peek) → find (λ (q : Peek). q.byte == x) peeks ≡ o → find (λ (q : Peek). q.byte == x) peeks ≡ None
      by None e = e
      by (Some p) e = (let q = find-some peeks x p e in absurd (apart (q.0, q.1, q.2, q.3, q.4.1)))

  -- an otherwise that takes no byte
  pub free-made : (c : Config) (peeks : List Peek) (other : Other) (b next : ℕ) → OtherEnds fold keys peeks other free b next →
      LeadsTo (match_turn c (b ∷ []) keys peeks other (map (folded fold) (b ∷ []))) 0 next
  free-made c peeks other b next e =
      alone-made peeks (folded fold b) e.2.0 c other (b ∷ []) 0 next None (no-peek peeks (folded fold b) e.2.1)
      (ap (λ (t : Bool). cond t (0 + 1) 0) e.1, e.0)

  -- a skip
  pub skip-made : (c : Config) (peeks : List Peek) (other : Other) (b next : ℕ) → other.target ≡ next → other.skip ≡ true → IsOtherByte keys peeks (folded fold b) →
      LeadsTo (match_turn c (b ∷ []) keys peeks other (map (folded fold) (b ∷ []))) 1 next
  skip-made c peeks other b next e skips h =
      alone-made peeks (folded fold b) h.0 c other (b ∷ []) 1 next None (no-peek peeks (folded fold b) h.1)
      (ap (λ (t : Bool). cond t (0 + 1) 0) skips, e)
