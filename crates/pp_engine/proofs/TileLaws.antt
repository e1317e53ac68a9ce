-- The parts of open spans are the bytes from their starts.
use Rattle.std.proofs.Common.{subst, ◌≡◌, ℕ, zero, suc, ◌+◌, ◌-◌, ◌≤◌, ◌<◌, List, [], ◌∷◌, ◌++◌, Option, Some, None, Bool, true, false, cond, refl, sym, ◌∙◌, ap, arith, length, drop, take, max, eqb, length-drop}
use Rattle.std.specs.Prelude.{slice_range, nat_lt}
use Rattle.std.proofs.lemmas.Bool.{ltb-true, ltb-false, eqb-true, eq-eqb}
use Rattle.std.proofs.lemmas.List.{drop-drop, drop-append-le, take-append-le}
use Rattle.pp_event.specs.Told.{Told, Called, Pieced}
use Rattle.pp_event.specs.Pieces.{between}
use Rattle.pp_event.specs.Turns.{slot}
use Rattle.pp_engine.specs.Feeds.{parts_of}
use Rattle.pp_engine.specs.Sessions.{earlier_than}
use Rattle.pp_engine.specs.Parted.{parts_after, Tiles, IsParted}
use Rattle.pp_engine.proofs.JoinLaws.{piece_end, parts_if}

-- parts lie in order
pub tiles_le : (s : List ℕ) (from to : ℕ) (ps : List (ℕ × List ℕ)) → Tiles s from to ps → from ≤ to
tiles_le s from to [] h = omega arith
tiles_le s from to (x ∷ ps) h = (let r : from + length x.1 ≤ to = tiles_le s (from + length x.1) to ps h.3 in omega arith)

-- no bytes have no part
pub tiles_none : (s : List ℕ) (from : ℕ) (ps : List (ℕ × List ℕ)) → Tiles s from from ps → ps ≡ []
tiles_none s from [] h = refl
tiles_none s from (x ∷ ps) h =
    (let r : from + length x.1 ≤ from = tiles_le s (from + length x.1) from ps h.3 in let n : 0 < length x.1 = h.1 in absurd (omega arith))

-- one part more
pub tiles_append : (s : List ℕ) (from mid : ℕ) (ps : List (ℕ × List ℕ)) (part : List ℕ) → Tiles s from mid ps → 0 < length part → part ≡ slice_range s mid (mid + length part) →
    Tiles s from (mid + length part) (ps ++ (mid, part) ∷ [])
tiles_append s from mid [] part h n e = (sym h, n, subst (λ (k : ℕ). part ≡ slice_range s k (k + length part)) (sym h) e, ap (λ (k : ℕ). k + length part) h)
tiles_append s from mid (x ∷ ps) part h n e = (h.0, h.1, h.2, tiles_append s (from + length x.1) mid ps part h.3 n e)

range_longer : (s more : List ℕ) (a b : ℕ) → a ≤ b → b ≤ length s → slice_range (s ++ more) a b ≡ slice_range s a b
range_longer s more a b h n =
    let d : length (drop a s) ≡ length s - a = length-drop a s in
    ap (take (b - a)) (drop-append-le a s more (omega arith)) ∙ take-append-le (b - a) (drop a s) more (omega arith)

-- more bytes behind the string change nothing
pub tiles_longer : (s more : List ℕ) (from to : ℕ) (ps : List (ℕ × List ℕ)) → Tiles s from to ps → to ≤ length s → Tiles (s ++ more) from to ps
tiles_longer s more from to [] h n = h
tiles_longer s more from to (x ∷ ps) h n =
    let r : from + length x.1 ≤ to = tiles_le s (from + length x.1) to ps h.3 in
    (h.0, h.1, h.2 ∙ sym (range_longer s more from (from + length x.1) (omega arith) (omega arith)), tiles_longer s more (from + length x.1) to ps h.3 n)

take_len : (k : ℕ) (l : List ℕ) → take (length (take k l)) l ≡ take k l
take_len zero l = refl
take_len (suc k) [] = refl
take_len (suc k) (x ∷ l) = ap (λ (y : List ℕ). x ∷ y) (take_len k l)

-- a part of the input is the string's bytes at its place
pub part_bytes : (s w : List ℕ) (o x y : ℕ) → drop o s ≡ w → o ≤ x → between o w x y ≡ slice_range s x (x + length (between o w x y))
part_bytes s w o x y e h =
    let part : List ℕ = take (y - o - (x - o)) (drop (x - o) w) in
    let place : o + (x - o) ≡ x = omega arith in
    let count : x + length part - x ≡ length part = omega arith in
    let bytes : drop x s ≡ drop (x - o) w = ap (λ (k : ℕ). drop k s) (sym place) ∙ sym (drop-drop (x - o) o s) ∙ ap (drop (x - o)) e in
    sym (ap (λ (k : ℕ). take k (drop x s)) count ∙ ap (take (length part)) bytes ∙ take_len (y - o - (x - o)) (drop (x - o) w))

-- the parts after logs in a row
pub parts_after-more : (i : ℕ) (held : List (ℕ × List ℕ)) (xs ys : List Told) → parts_after i held (xs ++ ys) ≡ parts_after i (parts_after i held xs) ys
parts_after-more i held [] ys = refl
parts_after-more i held (Called code value at values answer ∷ xs) ys = parts_after-more i held xs ys
parts_after-more i held (Pieced span at part true answer ∷ xs) ys = parts_after-more i (cond (eqb span i) [] held) xs ys
parts_after-more i held (Pieced span at part false answer ∷ xs) ys = parts_after-more i (cond (eqb span i) (held ++ (at, part) ∷ []) held) xs ys

differ : (a b : ℕ) → (a ≡ b → ⊥) → eqb a b ≡ false
differ a b h = go (eqb a b) refl
  where
    go : (q : Bool) → eqb a b ≡ q → eqb a b ≡ false
    go true e = absurd (h (eqb-true a b e))
    go false e = e

module _ (o : ℕ) (w : List ℕ) (at : ℕ) where
  -- what the end of a feed adds to the parts of a span
  abbrev pub one_part : List (ℕ × List ℕ) → Option ℕ → List (ℕ × List ℕ)
  one_part held None = held
  one_part held (Some from) = cond (nat_lt (max from o) at) (held ++ (max from o, between o w (max from o) at) ∷ []) held

  parts_before : (spans : List (Option ℕ)) (j i : ℕ) (held : List (ℕ × List ℕ)) → i < j → parts_after i held (parts_of o w at j spans) ≡ held
  parts_before [] j i held h = refl
  parts_before (None ∷ spans) j i held h = parts_before spans (suc j) i held (omega arith)
  parts_before (Some from ∷ spans) j i held h = go (λ l. parts_before spans (suc j) i l (omega arith)) (nat_lt (max from o) at)
    where
      go : ((l : List (ℕ × List ℕ)) → parts_after i l (parts_of o w at (suc j) spans) ≡ l) → (q : Bool) →
          parts_after i held (parts_if o w at j from spans q) ≡ held
      go f true = f (cond (eqb j i) (held ++ (max from o, between o w (max from o) at) ∷ []) held)
          ∙ ap (λ (b : Bool). cond b (held ++ (max from o, between o w (max from o) at) ∷ []) held) (differ j i (λ e. absurd (omega arith)))
      go f false = f held

  -- the parts at a feed's end, of the span at a place
  pub parts_here : (spans : List (Option ℕ)) (j k : ℕ) (held : List (ℕ × List ℕ)) → parts_after (j + k) held (parts_of o w at j spans) ≡ one_part held (slot spans k)
  parts_here [] j k held = refl
  parts_here (None ∷ spans) j zero held = parts_before spans (suc j) (j + 0) held (omega arith)
  parts_here (None ∷ spans) j (suc k) held =
      ap (λ (n : ℕ). parts_after n held (parts_of o w at (suc j) spans)) (let e : j + suc k ≡ suc j + k = omega arith in e) ∙ parts_here spans (suc j) k held
  parts_here (Some from ∷ spans) j zero held = go (λ l. parts_before spans (suc j) (j + 0) l (omega arith)) (nat_lt (max from o) at)
    where
      go : ((l : List (ℕ × List ℕ)) → parts_after (j + 0) l (parts_of o w at (suc j) spans) ≡ l) → (q : Bool) →
          parts_after (j + 0) held (parts_if o w at j from spans q) ≡ cond q (held ++ (max from o, between o w (max from o) at) ∷ []) held
      go f true = f (cond (eqb j (j + 0)) (held ++ (max from o, between o w (max from o) at) ∷ []) held)
          ∙ ap (λ (b : Bool). cond b (held ++ (max from o, between o w (max from o) at) ∷ []) held) (eq-eqb j (j + 0) (let e : j ≡ j + 0 = omega arith in e))
      go f false = f held
  parts_here (Some from ∷ spans) j (suc k) held = go (λ l. parts_here spans (suc j) k l) (nat_lt (max from o) at)
    where
      there : j + suc k ≡ suc j + k
      there = omega arith

      go : ((l : List (ℕ × List ℕ)) → parts_after (suc j + k) l (parts_of o w at (suc j) spans) ≡ one_part l (slot spans k)) → (q : Bool) →
          parts_after (j + suc k) held (parts_if o w at j from spans q) ≡ one_part held (slot spans k)
      go f true =
          ap (λ (b : Bool). parts_after (j + suc k) (cond b (held ++ (max from o, between o w (max from o) at) ∷ []) held) (parts_of o w at (suc j) spans)) (differ j (j + suc k) (λ e. absurd (omega arith)))
          ∙ ap (λ (n : ℕ). parts_after n held (parts_of o w at (suc j) spans)) there ∙ f held
      go f false = ap (λ (n : ℕ). parts_after n held (parts_of o w at (suc j) spans)) there ∙ f held

-- up to the later of start and feed's beginning
mid_tiles : (s : List ℕ) (o from : ℕ) (held : List (ℕ × List ℕ)) → IsParted s (earlier_than o (Some from)) o held → Tiles s from (max from o) held
mid_tiles s o from held h = go (nat_lt from o) refl h
  where
    go : (q : Bool) → nat_lt from o ≡ q → IsParted s (cond q (Some from) None) o held → Tiles s from (max from o) held
    go true e h = (let n : from < o = ltb-true from o e in subst (λ (k : ℕ). Tiles s from k held) (let m : o ≡ max from o = omega arith in m) h)
    go false e h = (let n : o ≤ from = ltb-false from o e in subst (Tiles s from (max from o)) (sym h) (let m : from ≡ max from o = omega arith in m))

-- the end of a feed keeps it
pub parted_end : (s w : List ℕ) (o at : ℕ) (held : List (ℕ × List ℕ)) (x : Option ℕ) → ((from : ℕ) → x ≡ Some from → from ≤ at) → o ≤ at → at ≤ o + length w → drop o s ≡ w →
    IsParted s (earlier_than o x) o held → IsParted s x at (one_part o w at held x)
parted_end s w o at held None b h n e p = p
parted_end s w o at held (Some from) b h n e p = go (nat_lt (max from o) at) refl
  where
    below : from ≤ at
    below = b from refl

    go : (q : Bool) → nat_lt (max from o) at ≡ q → Tiles s from at (cond q (held ++ (max from o, between o w (max from o) at) ∷ []) held)
    go true q =
        let m : max from o < at = ltb-true (max from o) at q in
        let stop : max from o + length (between o w (max from o) at) ≡ at = piece_end o w (max from o) at (omega arith) (omega arith) n in
        subst (λ (k : ℕ). Tiles s from k (held ++ (max from o, between o w (max from o) at) ∷ [])) stop
        (tiles_append s from (max from o) held (between o w (max from o) at) (mid_tiles s o from held p) (omega arith) (part_bytes s w o (max from o) at e (omega arith)))
    go false q =
        let m : at ≤ max from o = ltb-false (max from o) at q in
        let l : from ≤ at = below in
        subst (λ (k : ℕ). Tiles s from k held) (let z : max from o ≡ at = omega arith in z) (mid_tiles s o from held p)

-- the beginning of a feed
pub parted_first : (s : List ℕ) (o : ℕ) (held : List (ℕ × List ℕ)) (x : Option ℕ) → ((from : ℕ) → x ≡ Some from → from ≤ o) → IsParted s x o held → IsParted s (earlier_than o x) o held
parted_first s o held None b p = p
parted_first s o held (Some from) b p = go (nat_lt from o) refl
  where
    go : (q : Bool) → nat_lt from o ≡ q → IsParted s (cond q (Some from) None) o held
    go true q = p
    go false q =
        (let n : o ≤ from = ltb-false from o q in let m : from ≤ o = b from refl in
        tiles_none s from held (subst (λ (k : ℕ). Tiles s from k held) (let z : o ≡ from = omega arith in z) p))
