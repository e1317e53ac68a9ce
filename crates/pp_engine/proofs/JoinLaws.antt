-- The pieces of a feed, joined, are the spans of its run.
use Rattle.std.proofs.Common.{subst, ◌≡◌, ℕ, zero, suc, ◌+◌, ◌-◌, ◌≤◌, ◌<◌, List, [], ◌∷◌, Option, Some, None, Bool, true, false, cond, refl, sym, ◌∙◌, ap, arith, length, set, length-set, drop, length-drop, map, max, eqb}
use Rattle.std.specs.Prelude.{unwrap_or, nat_lt}
use Rattle.std.proofs.lemmas.Bool.{eqb-true, eqb-false, ltb-true, ltb-false, lt-ltb, le-ltb}
use Rattle.std.proofs.lemmas.List.{length-take-le}
use Rattle.pp_event.specs.declared.item.Item.TheVariants as item
use Rattle.pp_event.specs.Told.{Told}
use Rattle.pp_event.specs.Turns.{slot}
use Rattle.pp_event.specs.Joined.{begun_after, joined_from}
use Rattle.pp_event.specs.Pieces.{AskPiece, between, parts, told_ask}
use Rattle.pp_event.proofs.JoinLaws.{slot-same, slot-other}
use Rattle.pp_engine.specs.Feeds.{piece_of, parts_of}
use Rattle.pp_engine.specs.Sessions.{earlier_than, Begun}

-- an open and a close keep what has begun
pub begun_open : (begun spans : List (Option ℕ)) (o s at : ℕ) → Begun begun spans o → o ≤ at → s < length spans → slot spans s ≡ None → Begun begun (set spans s (Some at)) o
begun_open begun spans o s at b h n e = record {
  long = b.long;
  each = λ t. each t (eqb s t) refl;
}
  where
    each : (t : ℕ) → (q : Bool) → eqb s t ≡ q → slot begun t ≡ earlier_than o (slot (set spans s (Some at)) t)
    each t true q =
        let same : s ≡ t = eqb-true s t q in
        subst (λ (k : ℕ). slot begun k ≡ earlier_than o (slot (set spans s (Some at)) k)) same
        (b.each s ∙ ap (earlier_than o) e
        ∙ sym (ap (earlier_than o) (slot-same spans s (Some at) n) ∙ ap (λ (x : Bool). cond x (Some at) None) (le-ltb at o h)))
    each t false q = b.each t ∙ ap (earlier_than o) (sym (slot-other spans s t (Some at) (eqb-false s t q)))

pub begun_close : (begun spans : List (Option ℕ)) (o s : ℕ) → Begun begun spans o → s < 32 → s < length spans → Begun (set begun s None) (set spans s None) o
begun_close begun spans o s b m n = record {
  long = length-set begun s None ∙ b.long;
  each = λ t. each t (eqb s t) refl;
}
  where
    each : (t : ℕ) → (q : Bool) → eqb s t ≡ q → slot (set begun s None) t ≡ earlier_than o (slot (set spans s None) t)
    each t true q =
        let same : s ≡ t = eqb-true s t q in
        subst (λ (k : ℕ). slot (set begun s None) k ≡ earlier_than o (slot (set spans s None) k)) same
        (slot-same begun s None (omega (arith, b.long)) ∙ sym (ap (earlier_than o) (slot-same spans s None n)))
    each t false q =
        slot-other begun s t None (eqb-false s t q) ∙ b.each t ∙ ap (earlier_than o) (sym (slot-other spans s t None (eqb-false s t q)))

-- where a span began, seen from its piece
pub began : (o at : ℕ) (x : Option ℕ) → o ≤ at → unwrap_or (earlier_than o x) (max (unwrap_or x at) o) ≡ unwrap_or x at
began o at None h = omega arith
began o at (Some from) h = go (nat_lt from o) refl
  where
    go : (q : Bool) → nat_lt from o ≡ q → unwrap_or (cond q (Some from) None) (max from o) ≡ from
    go true e = refl
    go false e = (let n : o ≤ from = ltb-false from o e in omega arith)

-- a piece ends at its place
pub piece_end : (o : ℕ) (w : List ℕ) (start at : ℕ) → o ≤ start → start ≤ at → at ≤ o + length w → start + length (between o w start at) ≡ at
piece_end o w start at h k n =
    let d : length (drop (start - o) w) ≡ length w - (start - o) = length-drop (start - o) w in
    let l : length (between o w start at) ≡ at - o - (start - o) = length-take-le (at - o - (start - o)) (drop (start - o) w) (omega arith) in
    omega arith

-- a close's piece, joined, is its span
pub joined_close : (begun spans : List (Option ℕ)) (o : ℕ) (w : List ℕ) (s at : ℕ) → Begun begun spans o → o ≤ at → at ≤ o + length w → unwrap_or (slot spans s) at ≤ at →
    joined_from begun (piece_of o w s (unwrap_or (slot spans s) at) at true ∷ []) ≡ item.Span s (unwrap_or (slot spans s) at) at ∷ []
joined_close begun spans o w s at b h n f =
    let from : ℕ = unwrap_or (slot spans s) at in
    let start : unwrap_or (slot begun s) (max from o) ≡ from = ap (λ (x : Option ℕ). unwrap_or x (max (unwrap_or (slot spans s) at) o)) (b.each s) ∙ began o at (slot spans s) h in
    let stop : max from o + length (between o w (max from o) at) ≡ at = piece_end o w (max from o) at (omega arith) (omega arith) n in
    ap (λ (k : ℕ). item.Span s k (max from o + length (between o w (max from o) at)) ∷ []) start ∙ ap (λ (k : ℕ). item.Span s from k ∷ []) stop

-- the parts from an open slot on, of which the first is there or not
abbrev pub parts_if : ℕ → List ℕ → ℕ → ℕ → ℕ → List (Option ℕ) → Bool → List Told
parts_if o w at i from spans q = map (told_ask o w) (cond q (AskPiece i from (max from o) at false ∷ parts o at (suc i) spans) (parts o at (suc i) spans))

-- pieces that aren't the last of their span give no item
pub joined_parts : (o : ℕ) (w : List ℕ) (at i : ℕ) (spans begun : List (Option ℕ)) → joined_from begun (parts_of o w at i spans) ≡ []
joined_parts o w at i [] begun = refl
joined_parts o w at i (None ∷ spans) begun = joined_parts o w at (suc i) spans begun
joined_parts o w at i (Some from ∷ spans) begun = go (λ l. joined_parts o w at (suc i) spans l) (nat_lt (max from o) at)
  where
    go : ((l : List (Option ℕ)) → joined_from l (parts_of o w at (suc i) spans) ≡ []) → (q : Bool) → joined_from begun (parts_if o w at i from spans q) ≡ []
    go f true = f (set begun i (Some (unwrap_or (slot begun i) (max from o))))
    go f false = f begun

parts_below : (o : ℕ) (w : List ℕ) (at i : ℕ) (spans begun : List (Option ℕ)) (t : ℕ) → t < i → slot (begun_after begun (parts_of o w at i spans)) t ≡ slot begun t
parts_below o w at i [] begun t h = refl
parts_below o w at i (None ∷ spans) begun t h = parts_below o w at (suc i) spans begun t (omega arith)
parts_below o w at i (Some from ∷ spans) begun t h = go (λ l. parts_below o w at (suc i) spans l t (omega arith)) (nat_lt (max from o) at)
  where
    go : ((l : List (Option ℕ)) → slot (begun_after l (parts_of o w at (suc i) spans)) t ≡ slot l t) → (q : Bool) → slot (begun_after begun (parts_if o w at i from spans q)) t ≡ slot begun t
    go f true = f (set begun i (Some (unwrap_or (slot begun i) (max from o)))) ∙ slot-other begun i t _ (λ e. absurd (omega arith))
    go f false = f begun

parts_long : (o : ℕ) (w : List ℕ) (at i : ℕ) (spans begun : List (Option ℕ)) → length (begun_after begun (parts_of o w at i spans)) ≡ length begun
parts_long o w at i [] begun = refl
parts_long o w at i (None ∷ spans) begun = parts_long o w at (suc i) spans begun
parts_long o w at i (Some from ∷ spans) begun = go (λ l. parts_long o w at (suc i) spans l) (nat_lt (max from o) at)
  where
    go : ((l : List (Option ℕ)) → length (begun_after l (parts_of o w at (suc i) spans)) ≡ length l) → (q : Bool) → length (begun_after begun (parts_if o w at i from spans q)) ≡ length begun
    go f true = f (set begun i (Some (unwrap_or (slot begun i) (max from o)))) ∙ length-set begun i _
    go f false = f begun

-- without a part the same is seen from either place
same_place : (o at from : ℕ) → o ≤ at → at ≤ max from o → earlier_than o (Some from) ≡ earlier_than at (Some from)
same_place o at from h k = go (nat_lt from o) refl
  where
    go : (q : Bool) → nat_lt from o ≡ q → cond q (Some from) None ≡ cond (nat_lt from at) (Some from) None
    go true e = (let n : from < o = ltb-true from o e in ap (λ (b : Bool). cond b (Some from) None) (sym (lt-ltb from at (omega arith))))
    go false e = (let n : o ≤ from = ltb-false from o e in ap (λ (b : Bool). cond b (Some from) None) (sym (le-ltb from at (omega arith))))

module _ (o : ℕ) (w : List ℕ) (at : ℕ) (least : o ≤ at) where
  abbrev EachBegun : ℕ → ℕ → List (Option ℕ) → List (Option ℕ) → Type 0
  EachBegun place i spans begun = (k : ℕ) → slot begun (i + k) ≡ earlier_than place (slot spans k)

  later_slots : (i : ℕ) (x : Option ℕ) (spans begun : List (Option ℕ)) → EachBegun o i (x ∷ spans) begun → (v : Option ℕ) → EachBegun o (suc i) spans (set begun i v)
  later_slots i x spans begun h v k =
      slot-other begun i (suc i + k) v (λ e. absurd (omega arith))
      ∙ ap (slot begun) (let e : suc i + k ≡ i + suc k = omega arith in e) ∙ h (suc k)

  later_same : (i : ℕ) (x : Option ℕ) (spans begun : List (Option ℕ)) → EachBegun o i (x ∷ spans) begun → EachBegun o (suc i) spans begun
  later_same i x spans begun h k = ap (slot begun) (let e : suc i + k ≡ i + suc k = omega arith in e) ∙ h (suc k)

  parts_each : (spans : List (Option ℕ)) (i : ℕ) (begun : List (Option ℕ)) → i + length spans ≤ length begun → EachBegun o i spans begun → EachBegun at i spans (begun_after begun (parts_of o w at i spans))
  parts_each [] i begun n h k = h k
  parts_each (None ∷ spans) i begun n h zero =
      parts_below o w at (suc i) spans begun (i + 0) (omega arith) ∙ h 0
  parts_each (None ∷ spans) i begun n h (suc k) =
      ap (slot (begun_after begun (parts_of o w at (suc i) spans))) (let e : i + suc k ≡ suc i + k = omega arith in e) ∙ parts_each spans (suc i) begun (omega arith) (later_same i None spans begun h) k
  parts_each (Some from ∷ spans) i begun n h k = go (λ l m e. parts_each spans (suc i) l m e) (nat_lt (max from o) at) refl k
    where
      v : ℕ
      v = unwrap_or (slot begun i) (max from o)

      here : slot begun i ≡ earlier_than o (Some from)
      here = ap (slot begun) (let e : i ≡ i + 0 = omega arith in e) ∙ h 0

      starts : unwrap_or (slot begun i) (max from o) ≡ from
      starts = ap (λ (x : Option ℕ). unwrap_or x (max from o)) here ∙ began o at (Some from) least

      go : ((l : List (Option ℕ)) → suc i + length spans ≤ length l → EachBegun o (suc i) spans l → EachBegun at (suc i) spans (begun_after l (parts_of o w at (suc i) spans))) →
          (q : Bool) → nat_lt (max from o) at ≡ q → EachBegun at i (Some from ∷ spans) (begun_after begun (parts_if o w at i from spans q))
      go f true e zero =
          let m : max from o < at = ltb-true (max from o) at e in
          parts_below o w at (suc i) spans (set begun i (Some (unwrap_or (slot begun i) (max from o)))) (i + 0) (omega arith)
          ∙ ap (slot (set begun i (Some (unwrap_or (slot begun i) (max from o))))) (let z : i + 0 ≡ i = omega arith in z)
          ∙ slot-same begun i (Some (unwrap_or (slot begun i) (max from o))) (omega arith)
          ∙ ap Some starts
          ∙ ap (λ (b : Bool). cond b (Some from) None) (sym (lt-ltb from at (omega arith)))
      go f true e (suc k) =
          ap (slot (begun_after (set begun i (Some (unwrap_or (slot begun i) (max from o)))) (parts_of o w at (suc i) spans))) (let z : i + suc k ≡ suc i + k = omega arith in z)
          ∙ f (set begun i (Some (unwrap_or (slot begun i) (max from o)))) (let z = length-set begun i (Some (unwrap_or (slot begun i) (max from o))) in omega arith)
          (later_slots i (Some from) spans begun h (Some (unwrap_or (slot begun i) (max from o)))) k
      go f false e zero =
          let m : at ≤ max from o = ltb-false (max from o) at e in
          parts_below o w at (suc i) spans begun (i + 0) (omega arith) ∙ h 0 ∙ same_place o at from least m
      go f false e (suc k) =
          ap (slot (begun_after begun (parts_of o w at (suc i) spans))) (let z : i + suc k ≡ suc i + k = omega arith in z)
          ∙ f begun (omega arith) (later_same i (Some from) spans begun h) k

  -- the pieces at a feed's end begin what has a part
  pub begun_parts : (begun spans : List (Option ℕ)) → Begun begun spans o → length spans ≤ 32 → Begun (begun_after begun (parts_of o w at 0 spans)) spans at
  begun_parts begun spans b n = record {
    long = parts_long o w at 0 spans begun ∙ b.long;
    each = λ s. ap (slot (begun_after begun (parts_of o w at 0 spans))) (let z : s ≡ 0 + s = omega arith in z)
        ∙ parts_each spans 0 begun (let l = b.long in omega arith) (λ k. ap (slot begun) (let z : 0 + k ≡ k = omega arith in z) ∙ b.each k) s;
  }
