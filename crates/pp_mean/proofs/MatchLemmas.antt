-- The keys of a match node and the bytes that are left: how many bytes an edge takes.
use Rattle.std.proofs.Common.{◌≡◌, ℕ, zero, suc, ◌+◌, ◌≤◌, ◌<◌, List, [], ◌∷◌, Option, Some, None, Bool, true, false, cond, not, refl, ◌∙◌, ap, subst, arith, length, map, min, drop, eqb, ltb, zero-le, ◌&&◌, ◌||◌}
use Rattle.std.specs.Prelude.{slice_get, option_map}
use Rattle.std.proofs.lemmas.Bool.{eq-eqb, eqb-true, eqb-false, ltb-false}
use Rattle.pp_graph.specs.declared.node.Key.{Key}
use Rattle.pp_graph.specs.declared.node.Peek.{Peek}
use Rattle.pp_graph.specs.declared.node.Other.{Other}
use Rattle.pp_mean.specs.declared.matching.Edge.{Edge}
use Rattle.pp_mean.specs.Nodes.{common, reach, fits, longer, best, goes_on, waits, is_empty}
use Rattle.pp_mean.specs.Steps.{key_edge, outlasts}

-- a common prefix is no longer than the bytes
pub common-le : (key bytes : List ℕ) → common key bytes ≤ length bytes
common-le [] bytes = zero-le
common-le (x ∷ key) [] = zero-le
common-le (x ∷ key) (b ∷ bytes) = go (common-le key bytes) (eqb x b)
  where
    go : common key bytes ≤ length bytes → (t : Bool) → cond t (suc (common key bytes)) 0 ≤ suc (length bytes)
    go i true = omega arith
    go i false = zero-le

-- nor than the key
pub common-le_key : (key bytes : List ℕ) → common key bytes ≤ length key
common-le_key [] bytes = zero-le
common-le_key (x ∷ key) [] = zero-le
common-le_key (x ∷ key) (b ∷ bytes) = go (common-le_key key bytes) (eqb x b)
  where
    go : common key bytes ≤ length key → (t : Bool) → cond t (suc (common key bytes)) 0 ≤ suc (length key)
    go i true = omega arith
    go i false = zero-le

pub reach-le : (keys : List Key) (bytes : List ℕ) → reach keys bytes ≤ length bytes
reach-le [] bytes = zero-le
reach-le (k ∷ keys) bytes = (let i : reach keys bytes ≤ length bytes = reach-le keys bytes in let h : common k.bytes bytes ≤ length bytes = common-le k.bytes bytes in omega arith)

-- with no byte left of either, nothing is common
pub common-no_byte : (key : List ℕ) → common key [] ≡ 0
common-no_byte [] = refl
common-no_byte (x ∷ key) = refl

-- the longest key that fits is one of the keys, and fits
pub record IsBest (keys : List Key) (bytes : List ℕ) (k : Key) : Type 0 where
  pub place : ℕ
  pub is : slice_get keys place ≡ Some k
  pub whole : fits bytes k ≡ true

pub best-is : (keys : List Key) (bytes : List ℕ) (k : Key) → best keys bytes ≡ Some k → IsBest keys bytes k
best-is [] bytes k e = cc
best-is (x ∷ keys) bytes k e = by_fit (λ h. later (best-is keys bytes k h)) (fits bytes x) refl e
  where
    later : IsBest keys bytes k → IsBest (x ∷ keys) bytes k
    later b = record { place = suc b.place; is = b.is; whole = b.whole }

    first : fits bytes x ≡ true → x ≡ k → IsBest (x ∷ keys) bytes k
    first t h = record { place = zero; is = ap Some h; whole = subst (λ (y : Key). fits bytes y ≡ true) h t }

    by_length : (best keys bytes ≡ Some k → IsBest (x ∷ keys) bytes k) → (l : Key) → fits bytes x ≡ true → best keys bytes ≡ Some l → (b : Bool) → Some (cond b l x) ≡ Some k → IsBest (x ∷ keys) bytes k
    by_length more l t o true h = more (o ∙ h)
    by_length more l t o false h = first t cc

    by_rest : (best keys bytes ≡ Some k → IsBest (x ∷ keys) bytes k) → fits bytes x ≡ true → (o : Option Key) → best keys bytes ≡ o → Some (longer x o) ≡ Some k → IsBest (x ∷ keys) bytes k
    by_rest more t None o h = first t cc
    by_rest more t (Some l) o h = by_length more l t o (ltb (length x.bytes) (length l.bytes)) h

    by_fit : (best keys bytes ≡ Some k → IsBest (x ∷ keys) bytes k) → (b : Bool) → fits bytes x ≡ b → cond b (Some (longer x (best keys bytes))) (best keys bytes) ≡ Some k → IsBest (x ∷ keys) bytes k
    by_fit more true t h = by_rest more t (best keys bytes) refl h
    by_fit more false t h = more h

pub fits-le : (bytes : List ℕ) (k : Key) → fits bytes k ≡ true → length k.bytes ≤ length bytes
fits-le bytes k t =
    let whole : common k.bytes bytes ≡ length k.bytes = eqb-true (common k.bytes bytes) (length k.bytes) t in
    let h : common k.bytes bytes ≤ length bytes = common-le k.bytes bytes in
    omega arith

pub best-le : (keys : List Key) (bytes : List ℕ) (k : Key) → best keys bytes ≡ Some k → length k.bytes ≤ length bytes
best-le keys bytes k e = fits-le bytes k (best-is keys bytes k e).whole

pub best_edge-le : (keys : List Key) (bytes : List ℕ) (e : Edge) → option_map key_edge (best keys bytes) ≡ Some e → e.taken ≤ length bytes
best_edge-le keys bytes e h = go (best keys bytes) refl h
  where
    go : (o : Option Key) → best keys bytes ≡ o → option_map key_edge o ≡ Some e → e.taken ≤ length bytes
    go None o h = cc
    go (Some k) o h =
        let l : length k.bytes ≤ length bytes = best-le keys bytes k o in
        let same : key_edge k ≡ e = cc in
        subst (λ (f : Edge). f.taken ≤ length bytes) same l

pub no_edge : (o : Option Key) → option_map key_edge o ≡ None → o ≡ None
no_edge None h = refl
no_edge (Some k) h = cc

-- neither side of an or
pub neither : (a b : Bool) → (a || b) ≡ false → (a ≡ false) × (b ≡ false)
neither true b e = cc
neither false b e = (refl, e)

-- a key that neither fits nor outlasts the bytes has a byte of them not in common
common-short : (k : Key) (bytes : List ℕ) → fits bytes k ≡ false → outlasts bytes k ≡ false → common k.bytes bytes < length bytes
common-short k bytes f o = go (eqb (common k.bytes bytes) (length bytes)) refl o
  where
    short : common k.bytes bytes ≤ length bytes
    short = common-le k.bytes bytes

    in_key : common k.bytes bytes ≤ length k.bytes
    in_key = common-le_key k.bytes bytes

    whole : common k.bytes bytes ≡ length k.bytes → ⊥
    whole e = (let t : eqb (common k.bytes bytes) (length k.bytes) ≡ true = eq-eqb (common k.bytes bytes) (length k.bytes) e in cc)

    all : common k.bytes bytes ≡ length bytes → (t : Bool) → ltb (length bytes) (length k.bytes) ≡ t → t ≡ false → common k.bytes bytes < length bytes
    all e true t h = cc
    all e false t h = (let l : length k.bytes ≤ length bytes = ltb-false (length bytes) (length k.bytes) t in absurd (whole (omega (arith, common-le_key k.bytes bytes))))

    go : (t : Bool) → eqb (common k.bytes bytes) (length bytes) ≡ t → (t && ltb (length bytes) (length k.bytes)) ≡ false → common k.bytes bytes < length bytes
    go true t h = all (eqb-true (common k.bytes bytes) (length bytes) t) (ltb (length bytes) (length k.bytes)) refl h
    go false t h = (let ne : common k.bytes bytes ≡ length bytes → ⊥ = eqb-false (common k.bytes bytes) (length bytes) t in let most : common k.bytes bytes ≤ length bytes = common-le k.bytes bytes in grind arith)

-- where no key fits and none goes on, some byte is in common with none
pub reach-short : (keys : List Key) (bytes : List ℕ) → 0 < length bytes → goes_on keys bytes ≡ false → best keys bytes ≡ None → reach keys bytes < length bytes
reach-short [] bytes some g b = some
reach-short (k ∷ keys) bytes some g b =
    let parts = neither (outlasts bytes k) (goes_on keys bytes) g in
    by_fit parts.0 (λ h. reach-short keys bytes some parts.1 h) (fits bytes k) refl b
  where
    by_fit : outlasts bytes k ≡ false → (best keys bytes ≡ None → reach keys bytes < length bytes) → (t : Bool) → fits bytes k ≡ t → cond t (Some (longer k (best keys bytes))) (best keys bytes) ≡ None → reach (k ∷ keys) bytes < length bytes
    by_fit o more true t h = cc
    by_fit o more false t h =
        let i : reach keys bytes < length bytes = more h in
        let one : common k.bytes bytes < length bytes = common-short k bytes t o in
        omega arith

-- a skip takes a byte that is there
pub skip-within : (keys : List Key) (peeks : List Peek) (other : Other) (bytes : List ℕ) → waits keys peeks other bytes ≡ false → best keys bytes ≡ None → other.skip ≡ true →
    reach keys bytes + 1 ≤ length bytes
skip-within keys peeks other [] w b s = absurd (both (goes_on keys []) (not (is_empty keys)) (not (is_empty peeks)) other.skip s w)
  where
    both : (a x y z : Bool) → z ≡ true → (a || ((x || y) || z)) ≡ false → ⊥
    both true x y z s w = cc
    both false true y z s w = cc
    both false false true z s w = cc
    both false false false true s w = cc
    both false false false false s w = cc
skip-within keys peeks other (x ∷ bytes) w b s =
    let short : reach keys (x ∷ bytes) < length (x ∷ bytes) = reach-short keys (x ∷ bytes) (omega arith) (neither (goes_on keys (x ∷ bytes)) false w).0 b in
    omega arith

-- behind all bytes of the shorter of both nothing is common
pub common-end : (f : ℕ → ℕ) (key rest : List ℕ) (n : ℕ) → n ≡ min (length key) (length rest) → common (drop n key) (map f (drop n rest)) ≡ 0
common-end f [] rest zero h = refl
common-end f [] rest (suc n) h = refl
common-end f (x ∷ key) [] zero h = refl
common-end f (x ∷ key) [] (suc n) h = absurd (omega arith)
common-end f (x ∷ key) (b ∷ rest) zero h = absurd (omega arith)
common-end f (x ∷ key) (b ∷ rest) (suc n) h = common-end f key rest n (omega arith)

-- where no key fits an edge takes bytes that are there
pub other-within : (keys : List Key) (peeks : List Peek) (other : Other) (bytes : List ℕ) (reached taken : ℕ) → waits keys peeks other bytes ≡ false →
    option_map key_edge (best keys bytes) ≡ None → reached ≡ reach keys bytes → taken ≤ cond other.skip (reached + 1) reached → taken ≤ length bytes
other-within keys peeks other bytes reached taken w b r t = go other.skip refl t
  where
    go : (s : Bool) → other.skip ≡ s → taken ≤ cond s (reached + 1) reached → taken ≤ length bytes
    go true s h =
        let within : reach keys bytes + 1 ≤ length bytes = skip-within keys peeks other bytes w (no_edge (best keys bytes) b) s in
        omega arith
    go false s h = (let within : reach keys bytes ≤ length bytes = reach-le keys bytes in omega arith)
