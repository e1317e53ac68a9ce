-- The edge of a byte, among edges that lie in order, by the place of the first that ends at the byte or behind it.
use Rattle.std.proofs.Common.{◌≡◌, ℕ, zero, suc, ◌≤◌, ◌<◌, ◌⊎◌, inl, inr, List, [], ◌∷◌, Some, None, Bool, true, false, cond, refl, sym, ◌∙◌, ap, subst, arith, length, leb, ltb, get_or}
use Rattle.std.specs.Prelude.{slice_get, ◌&&◌}
use Rattle.std.proofs.lemmas.Bool.{le-leb, lt-leb, ltb-true, ltb-false, lt-ltb}
use Rattle.std.proofs.lemmas.Option.{slice_get-get_or, get_or_from_slice_get, slice_get_within}
use Rattle.pp_bytes.specs.Ranges.{in_pair}
use Rattle.pp_program.specs.declared.program.Edge.{Edge}
use Rattle.pp_program.specs.States.{edge_on}
use Rattle.pp_engine.specs.Spots.{InOrder}

in_pair-yes : (b : ℕ) (e : Edge) → e.lo ≤ b → b ≤ e.hi → in_pair b (e.lo, e.hi) ≡ true
in_pair-yes b e l h = ap (λ (v : Bool). v && leb b e.hi) (le-leb e.lo b l) ∙ le-leb b e.hi h

in_pair-no : (b : ℕ) (e : Edge) → (e.hi < b) ⊎ (b < e.lo) → in_pair b (e.lo, e.hi) ≡ false
in_pair-no b e (inl h) = ap (λ (v : Bool). leb e.lo b && v) (lt-leb b e.hi h) ∙ never (leb e.lo b)
  where
    never : (v : Bool) → (v && false) ≡ false
    never true = refl
    never false = refl
in_pair-no b e (inr h) = ap (λ (v : Bool). v && leb b e.hi) (lt-leb e.lo b h)

-- the edge at a place has the byte, and those before it end below
found_at : (b : ℕ) (edges : List Edge) (i : ℕ) (e : Edge) → ((k : ℕ) (f : Edge) → k < i → slice_get edges k ≡ Some f → f.hi < b) →
    slice_get edges i ≡ Some e → e.lo ≤ b → b ≤ e.hi → edge_on b edges ≡ Some e
found_at b [] i e below g l h = cc
found_at b (x ∷ edges) zero e below g l h =
    let same : x ≡ e = cc in
    ap (λ (v : Bool). cond v (Some x) (edge_on b edges)) (subst (λ (y : Edge). in_pair b (y.lo, y.hi) ≡ true) (sym same) (in_pair-yes b e l h)) ∙ ap Some same
found_at b (x ∷ edges) (suc i) e below g l h =
    ap (λ (v : Bool). cond v (Some x) (edge_on b edges)) (in_pair-no b x (inl (below 0 x (omega arith) refl)))
    ∙ found_at b edges i e (λ k f n t. below (suc k) f (omega arith) t) g l h

-- no edge has the byte
found_none : (b : ℕ) (edges : List Edge) → ((k : ℕ) (f : Edge) → slice_get edges k ≡ Some f → (f.hi < b) ⊎ (b < f.lo)) → edge_on b edges ≡ None
found_none b [] off = refl
found_none b (x ∷ edges) off =
    ap (λ (v : Bool). cond v (Some x) (edge_on b edges)) (in_pair-no b x (off 0 x refl)) ∙ found_none b edges (λ k f t. off (suc k) f t)

-- edges in order end in order
pub ends_rise : (b : ℕ) (edges : List Edge) → InOrder edges → (i j : ℕ) (d : Edge) → i ≤ j → j < length edges → ltb (get_or edges j d).hi b ≡ true → ltb (get_or edges i d).hi b ≡ true
ends_rise b edges order i j d h n t =
    let e : Edge = get_or edges i d in
    let f : Edge = get_or edges j d in
    let up : f.hi < b = ltb-true f.hi b t in
    by (ltb i j) refl up
  where
    by : (v : Bool) → ltb i j ≡ v → (get_or edges j d).hi < b → ltb (get_or edges i d).hi b ≡ true
    by true q up =
        let rises : (get_or edges i d).hi < (get_or edges j d).lo =
        order.ascend i j (get_or edges i d) (get_or edges j d) (ltb-true i j q) (slice_get-get_or edges i d (let m : i < j = ltb-true i j q in omega arith)) (slice_get-get_or edges j d n) in
        let some : (get_or edges j d).lo ≤ (get_or edges j d).hi = order.some j (get_or edges j d) (slice_get-get_or edges j d n) in
        lt-ltb (get_or edges i d).hi b (omega arith)
    by false q up =
        let same : i ≡ j = (let m : j ≤ i = ltb-false i j q in omega arith) in
        subst (λ (k : ℕ). ltb (get_or edges k d).hi b ≡ true) (sym same) t

module _ (b : ℕ) (edges : List Edge) (order : InOrder edges) (place : ℕ) (point : ((k : ℕ) (d : Edge) → 0 ≤ k → k < place → ltb (get_or edges k d).hi b ≡ true) × ((k : ℕ) (d : Edge) → place ≤ k → k < length edges → ltb (get_or edges k d).hi b ≡ false)) where
  before : (k : ℕ) (f : Edge) → k < place → slice_get edges k ≡ Some f → f.hi < b
  before k f n t = ltb-true f.hi b (subst (λ (e : Edge). ltb e.hi b ≡ true) (get_or_from_slice_get edges k f f t) (point.0 k f (omega arith) n))

  behind : (k : ℕ) (f : Edge) → place ≤ k → slice_get edges k ≡ Some f → b ≤ f.hi
  behind k f n t = ltb-false f.hi b (subst (λ (e : Edge). ltb e.hi b ≡ false) (get_or_from_slice_get edges k f f t) (point.1 k f n (slice_get_within edges k f t)))

  pub edge_here : (d : Edge) → place < length edges → (get_or edges place d).lo ≤ b → edge_on b edges ≡ Some (get_or edges place d)
  edge_here d n l =
      let t = slice_get-get_or edges place d n in
      found_at b edges place (get_or edges place d) before t l (behind place (get_or edges place d) (omega arith) t)

  off : (e : Edge) → slice_get edges place ≡ Some e → b < e.lo → (k : ℕ) (f : Edge) → slice_get edges k ≡ Some f → (v : Bool) → ltb k place ≡ v → (f.hi < b) ⊎ (b < f.lo)
  off e t l k f g true q = inl (before k f (ltb-true k place q) g)
  off e t l k f g false q = inr (above (ltb place k) refl)
    where
      above : (w : Bool) → ltb place k ≡ w → b < f.lo
      above true r =
          let rises : e.hi < f.lo = order.ascend place k e f (ltb-true place k r) t g in
          let some : e.lo ≤ e.hi = order.some place e t in
          omega arith
      above false r =
          let same : k ≡ place = (let m : place ≤ k = ltb-false k place q in let n : k ≤ place = ltb-false place k r in omega arith) in
          let here : Some f ≡ Some e = sym g ∙ ap (slice_get edges) same ∙ t in
          let one : f ≡ e = cc in
          subst (λ (x : Edge). b < x.lo) (sym one) l

  pub edge_above : (d : Edge) → place < length edges → b < (get_or edges place d).lo → edge_on b edges ≡ None
  edge_above d n l = found_none b edges (λ k f g. off (get_or edges place d) (slice_get-get_or edges place d n) l k f g (ltb k place) refl)

  pub edge_past : length edges ≤ place → edge_on b edges ≡ None
  edge_past n = found_none b edges (λ k f g. inl (before k f (let m : k < length edges = slice_get_within edges k f g in omega arith) g))
