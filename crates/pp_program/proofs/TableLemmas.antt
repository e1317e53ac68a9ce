-- Tables of edges by their bytes.
use Rattle.std.proofs.Common.{subst, ◌≡◌, ℕ, zero, suc, ◌+◌, ◌-◌, ◌≤◌, ◌<◌, List, [], ◌∷◌, Option, Some, None, Bool, true, false, cond, ◌&&◌, refl, sym, ◌∙◌, ap, arith, length, set, replicate, drop, get_or, leb, inl, inr, ◌⊎◌}
use Rattle.std.specs.Prelude.{slice_get}
use Rattle.std.proofs.lemmas.Bool.{cases_lt, leb-true, leb-false}
use Rattle.std.proofs.lemmas.List.{length-set, drop_all}
use Rattle.pp_program.specs.declared.program.Edge.{Edge}
use Rattle.pp_program.specs.States.{edge_on}
use Rattle.pp_program.specs.steps.Ends.{IsEdgeTable}

get-set-same : {X : Type 0} (xs : List X) (i : ℕ) (x : X) → i < length xs → slice_get (set xs i x) i ≡ Some x
get-set-same [] i x low = absurd (omega (arith, low))
get-set-same (y ∷ xs) zero x low = refl
get-set-same (y ∷ xs) (suc i) x low = get-set-same xs i x (omega (arith, low))

get-set-other : {X : Type 0} (xs : List X) (i j : ℕ) (x : X) → (i ≡ j → ⊥) → slice_get (set xs i x) j ≡ slice_get xs j
get-set-other [] i j x other = refl
get-set-other (y ∷ xs) zero zero x other = absurd (other refl)
get-set-other (y ∷ xs) zero (suc j) x other = refl
get-set-other (y ∷ xs) (suc i) zero x other = refl
get-set-other (y ∷ xs) (suc i) (suc j) x other = get-set-other xs i j x (λ e. other (ap suc e))

-- a table in which the bytes of an edge before b have been given to it
pub record Given (before : List (Option Edge)) (e : Edge) (b : ℕ) (after : List (Option Edge)) : Type 0 where
  pub long : length after ≡ length before
  pub reach : (b ≡ e.lo) ⊎ (b ≤ e.hi + 1)
  pub given : (a : ℕ) → a < 256 → e.lo ≤ a → a < b → slice_get after a ≡ Some (Some e)
  pub below : (a : ℕ) → a < e.lo → slice_get after a ≡ slice_get before a
  pub above : (a : ℕ) → b ≤ a → slice_get after a ≡ slice_get before a

pub given-none : (table : List (Option Edge)) (e : Edge) (b : ℕ) → b ≡ e.lo → Given table e b table
given-none table e b is = record {
  long = refl;
  reach = inl is;
  given = λ a small low high. absurd (omega (arith, low, high, is));
  below = λ a low. refl;
  above = λ a low. refl;
}

pub given-more : (before : List (Option Edge)) (e : Edge) (b : ℕ) (after : List (Option Edge)) → e.lo ≤ b → b < e.hi + 1 → length before ≡ 256 → Given before e b after → Given before e (b + 1) (set after b (Some e))
given-more before e b after low high size g = record {
  long = length-set after b (Some e) ∙ g.long;
  reach = inr (omega (arith, high));
  given = λ a small from to. elim (cases_lt a b) [
    | inl less ↦ get-set-other after b a (Some e) (λ same. omega (arith, same, less)) ∙ g.given a small from less
    | inr far ↦
        let same : b ≡ a = omega (arith, far, to) in
        let long : length after ≡ length before = g.long in
        subst (λ (n : ℕ). slice_get (set after b (Some e)) n ≡ Some (Some e)) same (get-set-same after b (Some e) (omega (arith, small, same, size, long)))
  ];
  below = λ a less. get-set-other after b a (Some e) (λ same. omega (arith, same, less, low)) ∙ g.below a less;
  above = λ a far. get-set-other after b a (Some e) (λ same. omega (arith, same, far)) ∙ g.above a (omega (arith, far));
}

-- behind all bytes of the edge, the table is that of one edge more
pub given-all : (before : List (Option Edge)) (e : Edge) (b : ℕ) (after : List (Option Edge)) → e.hi + 1 ≤ b → Given before e b after →
    (edges : List Edge) → IsEdgeTable edges before → IsEdgeTable (e ∷ edges) after
given-all before e b after end g edges table a small = by (leb e.lo a) refl (leb a e.hi) refl
  where
    reached : e.lo ≤ a → e.hi < a → b ≤ a
    reached from past = elim g.reach [ inl first ↦ omega (arith, first, from) | inr most ↦ omega (arith, most, past) ]

    by : (s : Bool) → leb e.lo a ≡ s → (t : Bool) → leb a e.hi ≡ t → slice_get after a ≡ Some (cond (s && t) (Some e) (edge_on a edges))
    by true from true to =
        let lo : e.lo ≤ a = leb-true e.lo a from in
        let hi : a ≤ e.hi = leb-true a e.hi to in
        g.given a small lo (omega (arith, hi, end))
    by true from false to =
        let lo : e.lo ≤ a = leb-true e.lo a from in
        let hi : e.hi < a = leb-false a e.hi to in
        g.above a (reached lo hi) ∙ table a small
    by false from t to = (let less : a < e.lo = leb-false e.lo a from in g.below a less ∙ table a small)

-- the table of no edge
get-replicate : {X : Type 0} (n i : ℕ) (x : X) → i < n → slice_get (replicate n x) i ≡ Some x
get-replicate zero i x low = absurd (omega (arith, low))
get-replicate (suc n) zero x low = refl
get-replicate (suc n) (suc i) x low = get-replicate n i x (omega (arith, low))

pub table-none : (edges : List Edge) (count : ℕ) → length edges ≤ count → IsEdgeTable (drop count edges) (replicate 256 None)
table-none edges count all b small = get-replicate 256 b None small ∙ ap (λ (es : List Edge). Some (edge_on b es)) (sym (drop_all count edges all))

-- the edges from a place on
drop-at : (edges : List Edge) (i : ℕ) (e : Edge) → e ≡ get_or edges i e → i < length edges → drop i edges ≡ e ∷ drop (suc i) edges
drop-at [] i e is low = absurd (omega (arith, low))
drop-at (x ∷ edges) zero e is low = ap (λ (y : Edge). y ∷ edges) (sym is)
drop-at (x ∷ edges) (suc i) e is low = drop-at edges i e is (omega (arith, low))

-- with one edge more in front
pub table-more : (edges : List Edge) (i : ℕ) (e : Edge) (before after : List (Option Edge)) → i < length edges → e ≡ get_or edges (length edges - 1 - i) e →
    ((es : List Edge) → IsEdgeTable es before → IsEdgeTable (e ∷ es) after) → IsEdgeTable (drop (length edges - i) edges) before → IsEdgeTable (drop (length edges - (i + 1)) edges) after
table-more edges i e before after low is more table =
    let next : suc (length edges - 1 - i) ≡ length edges - i = omega (arith, low) in
    let here : length edges - 1 - i ≡ length edges - (i + 1) = omega arith in
    let cut : drop (length edges - (i + 1)) edges ≡ e ∷ drop (length edges - i) edges =
    ap (λ (n : ℕ). drop n edges) (sym here) ∙ (drop-at edges (length edges - 1 - i) e is (omega (arith, low)) ∙ ap (λ (n : ℕ). e ∷ drop n edges) next) in
    subst (λ (es : List Edge). IsEdgeTable es after) (sym cut) (more (drop (length edges - i) edges) table)
