-- Rows of free moves as lists of nodes.
use Rattle.std.proofs.Common.{◌≡◌, ℕ, zero, suc, ◌-◌, ◌<◌, List, [], ◌∷◌, length, Bool, true, false, ◌||◌, eqb, refl, sym, ap, subst, arith, true≢false, slice_index}
use Rattle.std.proofs.lemmas.Bool.{eqb-true}
use Rattle.std.specs.List.{AllByRecursion, IsDistinct, list_any}
use Rattle.pp_event.specs.Loops.{Moves, FreeMove, Reaches, by_free, FreeWay, stay, onward, LoopFree}

module _ (m : Moves) (b : ℕ) where
  -- the nodes that a way leaves, in order
  abbrev pub nodes_of : {node n end : ℕ} → FreeWay m b node n end → List ℕ
  nodes_of stay = []
  nodes_of (onward {node = node} f w) = node ∷ nodes_of w

  pub nodes-length : {node n end : ℕ} (w : FreeWay m b node n end) → length (nodes_of w) ≡ n
  nodes-length stay = refl
  nodes-length (onward f w) = ap suc (nodes-length w)

  links_behind : (node : ℕ) {next n end : ℕ} (w : FreeWay m b next n end) → FreeMove m b node next →
      ((i : ℕ) → suc i < length (nodes_of w) → FreeMove m b (slice_index (nodes_of w) i) (slice_index (nodes_of w) (suc i))) →
      (i : ℕ) → suc i < suc (length (nodes_of w)) → FreeMove m b (slice_index (node ∷ nodes_of w) i) (slice_index (node ∷ nodes_of w) (suc i))
  links_behind node stay f rest i h = absurd (omega arith)
  links_behind node (onward g w) f rest zero h = f
  links_behind node (onward g w) f rest (suc i) h = rest i (omega arith)

  -- free moves lead from each of them to the next
  links_of : {node n end : ℕ} (w : FreeWay m b node n end) (i : ℕ) → suc i < length (nodes_of w) → FreeMove m b (slice_index (nodes_of w) i) (slice_index (nodes_of w) (suc i))
  links_of stay i h = absurd (omega arith)
  links_of (onward {node = node} f w) i h = links_behind node w f (links_of w) i h

  -- and one from the last to the end
  last_of : (node : ℕ) {next n end : ℕ} → FreeMove m b node next → (w : FreeWay m b next n end) → FreeMove m b (slice_index (node ∷ nodes_of w) (length (nodes_of w))) end
  last_of node f stay = f
  last_of node f (onward {node = next} g w) = last_of next g w

  -- a row of nodes from the first, each with a free move to the next, and the last with one to the end
  pub record IsRow (node end : ℕ) (row : List ℕ) : Type 0 where
    pub some : 0 < length row
    pub first : slice_index row 0 ≡ node
    pub links : (i : ℕ) → suc i < length row → FreeMove m b (slice_index row i) (slice_index row (suc i))
    pub last : FreeMove m b (slice_index row (length row - 1)) end

  pub row_of : {node n end : ℕ} → FreeWay m b node n end → 0 < n → (row : List ℕ) × IsRow node end row
  row_of stay h = absurd (omega arith)
  row_of (onward {node = node} {end = end} f w) h = (
    node ∷ nodes_of w,
    record {
      some = omega arith;
      first = refl;
      links = links_of (onward f w);
      last = (let at : length (nodes_of w) ≡ length (node ∷ nodes_of w) - 1 = omega arith in subst (λ (k : ℕ). FreeMove m b (slice_index (node ∷ nodes_of w) k) end) at (last_of node f w));
    },
  )

  way_by : (node q : ℕ) {next : ℕ} (nodes : List ℕ) → FreeMove m b node next → (v : Bool) → eqb q node ≡ v → (v || list_any (eqb q) nodes) ≡ true →
      (list_any (eqb q) nodes ≡ true → (k : ℕ) × FreeWay m b next k q) → (k : ℕ) × FreeWay m b node k q
  way_by node q nodes f true e h rest = (0, subst (λ (x : ℕ). FreeWay m b node 0 x) (sym (eqb-true q node e)) stay)
  way_by node q nodes f false e h rest = (let way = rest h in (suc way.0, onward f way.1))

  -- a way to a node that a way leaves
  pub way_to : {node n end : ℕ} (w : FreeWay m b node n end) (q : ℕ) → list_any (eqb q) (nodes_of w) ≡ true → (k : ℕ) × FreeWay m b node k q
  way_to stay q h = absurd (true≢false (sym h))
  way_to (onward {node = node} f w) q h = way_by node q (nodes_of w) f (eqb q node) refl h (way_to w q)

  left_by : (q node : ℕ) {next : ℕ} (nodes : List ℕ) → FreeMove m b node next → (v : Bool) → eqb q node ≡ v → (v || list_any (eqb q) nodes) ≡ true →
      (list_any (eqb q) nodes ≡ true → (after : ℕ) × FreeMove m b q after) → (after : ℕ) × FreeMove m b q after
  left_by q node {next} nodes f true e h rest = (next, subst (λ (x : ℕ). FreeMove m b x next) (sym (eqb-true q node e)) f)
  left_by q node nodes f false e h rest = rest h

  -- a free move leads from it
  pub left : {node n end : ℕ} (w : FreeWay m b node n end) (q : ℕ) → list_any (eqb q) (nodes_of w) ≡ true → (after : ℕ) × FreeMove m b q after
  left stay q h = absurd (true≢false (sym h))
  left (onward {node = node} f w) q h = left_by q node (nodes_of w) f (eqb q node) refl h (left w q)

  other_than : (q x : ℕ) (v : Bool) → eqb q x ≡ v → (v ≡ true → ⊥) → eqb q x ≡ false
  other_than q x true e h = absurd (h refl)
  other_than q x false e h = e

  or_left : (v w : Bool) → v ≡ true → (v || w) ≡ true
  or_left v w e = rw e refl

  or_right : (v w : Bool) → w ≡ true → (v || w) ≡ true
  or_right true w e = refl
  or_right false w e = e

  apart_of : (q : ℕ) (xs : List ℕ) → (list_any (eqb q) xs ≡ true → ⊥) → AllByRecursion (λ y. eqb q y ≡ false) xs
  apart_of q [] h = tt
  apart_of q (x ∷ xs) h = (other_than q x (eqb q x) refl (λ e. h (or_left (eqb q x) (list_any (eqb q) xs) e)), apart_of q xs (λ e. h (or_right (eqb q x) (list_any (eqb q) xs) e)))

  -- without loops it leaves no node twice
  pub distinct_of : LoopFree m → {node n end : ℕ} → Reaches m b node → (w : FreeWay m b node n end) → IsDistinct eqb (nodes_of w)
  unfolding IsDistinct
  distinct_of free r stay = tt
  distinct_of free r (onward {node = node} {next = next} f w) = (
    apart_of node (nodes_of w) (λ twice. let way = way_to w node twice in free b node way.0 r (onward f way.1)),
    distinct_of free (by_free r f) w,
  )
