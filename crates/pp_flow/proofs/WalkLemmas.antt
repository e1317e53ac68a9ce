-- What a visit of a root keeps, arm by arm.
use Rattle.std.proofs.Common.{◌≡◌, ◌≢◌, ◌↔◌, ℕ, suc, ◌+◌, ◌-◌, ◌≤◌, ◌<◌, Bool, true, false, IsTrue, List, [], ◌∷◌, ◌++◌, Some, length, get_or, set, max, subst, refl, sym, ◌∙◌, ap, arith, inl, inr, add-one}
use Rattle.std.specs.Prelude.{slice_get}
use Rattle.std.proofs.lemmas.Bool.{cases_eq}
use Rattle.std.proofs.lemmas.List.{get_or-set_same, get_or-set_other}
use Rattle.std.proofs.lemmas.Option.{slice_get-get_or}
use Rattle.pp_flow.specs.declared.moves.Move.{Move}
use Rattle.pp_flow.specs.Flow.{IsFree}
use Rattle.pp_flow.specs.steps.Search.{IsFreeAt, steps_left, unranked, Searching, IsSearched, ComesRound}
use Rattle.pp_flow.specs.steps.Bits.{Has}
use Rattle.pp_flow.specs.steps.Ranked.{RanksAt}
use Rattle.pp_flow.specs.steps.Table.{IsTable}
use Rattle.std.proofs.Common.{replicate}
use Rattle.std.proofs.lemmas.List.{length-replicate}
use Rattle.pp_flow.proofs.BitLemmas.{zeros_at}
use Rattle.pp_flow.proofs.SearchLemmas.{skips, ranks, finishes, descends, comes_round, front_at}
use Rattle.pp_flow.proofs.SpreadLemmas.{not_both}

abbrev at : List ℕ → ℕ → ℕ
at l x = get_or l x 0

pub record Walking (moves : List Move) (starts : List ℕ) (count b root : ℕ) (before color next rank path : List ℕ) : Type 0 where
  pub search : Searching moves starts count b color next rank path
  pub first : 0 < length path → at path 0 ≡ root
  pub met : 0 < at color root
  pub kept : (x : ℕ) → at before x ≡ 2 → at color x ≡ 2

-- n is the last point of the path
pub record Standing (moves : List Move) (starts : List ℕ) (count b root : ℕ) (before color next rank path : List ℕ) (n : ℕ) : Type 0 where
  pub walking : Walking moves starts count b root before color next rank path
  pub table : IsTable moves starts count
  pub some : 0 < length path
  pub top : n ≡ at path (length path - 1)

abbrev pub no_move : Move
no_move = record { from = 0; to = 0; lo = 0; hi = 0; free = false; onward = false }

pub walk_first : (moves : List Move) (starts : List ℕ) (count b root : ℕ) (color next rank path : List ℕ) → IsSearched moves starts count b color next rank → root < count → at color root ≡ 0 → path ≡ root ∷ [] →
    Walking moves starts count b root color (set color root 1) next rank path
walk_first moves starts count b root color next rank path s h white is =
    subst (λ (l : List ℕ). Walking moves starts count b root color (set color root 1) next rank l) (sym is) (record {
      search = (descends moves starts count b color next rank [] root s h white (λ i e. absurd (omega arith))).0;
      first = λ _. refl;
      met = (let e : at (set color root 1) root ≡ 1 = get_or-set_same color root 1 0 (omega (arith, s.long_color)) in omega arith);
      kept = λ x two. get_or-set_other color root x 1 0 (λ e. (let z : at color x ≡ 0 = ap (at color) e ∙ white in omega arith)) ∙ two;
    })

module _ (moves : List Move) (starts : List ℕ) (count b root : ℕ) (before color next rank path : List ℕ) (n : ℕ) (s : Standing moves starts count b root before color next rank path n) where
  pub node_in : n < count
  node_in = subst (λ (y : ℕ). y < count) (sym s.top) (s.walking.search.path_in (length path - 1) (omega (arith, s.some)))

  pub node_on_path : at color n ≡ 1
  node_on_path = subst (λ (y : ℕ). at color y ≡ 1) (sym s.top) (s.walking.search.path_color (length path - 1) (omega (arith, s.some)))

  pub more_moves : (at next n ≢ at starts (n + 1)) → at next n < at starts (suc n)
  more_moves o =
      let e : at starts (n + 1) ≡ at starts (suc n) = ap (at starts) (add-one n) in
      let u : at next n ≤ at starts (suc n) = s.walking.search.upto n node_in in
      omega (arith, o)

  pub listed : (at next n ≢ at starts (n + 1)) → (d : Move) → slice_get moves (at next n) ≡ Some (get_or moves (at next n) d)
  listed o d = slice_get-get_or moves (at next n) d (let m : at next n < at starts (suc n) = more_moves o in let l : at starts (suc n) ≤ length moves = s.table.within n node_in in omega arith)

  pub leads_from : (at next n ≢ at starts (n + 1)) → (d : Move) → (get_or moves (at next n) d).from ≡ n
  leads_from o d = s.table.own n (at next n) (get_or moves (at next n) d) node_in (s.walking.search.from n node_in) (more_moves o) (listed o d)

  pub leads_below : (at next n ≢ at starts (n + 1)) → (d : Move) → (get_or moves (at next n) d).to < count
  leads_below o d = (s.table.points (at next n) (get_or moves (at next n) d) (listed o d)).1

  pub arm_finish : at next n ≡ at starts (n + 1) → (shorter : List ℕ) → path ≡ shorter ++ at path (length path - 1) ∷ [] →
      Walking moves starts count b root before (set color n 2) next rank shorter × (steps_left starts (set color n 2) next count < steps_left starts color next count)
  arm_finish all shorter is =
      let is_n : path ≡ shorter ++ n ∷ [] = is ∙ ap (λ (y : ℕ). shorter ++ y ∷ []) (sym s.top) in
      let f = finishes moves starts count b color next rank shorter n (subst (λ (l : List ℕ). Searching moves starts count b color next rank l) is_n s.walking.search) (all ∙ ap (at starts) (add-one n)) in (
        record {
          search = f.0;
          first = λ h. sym (front_at shorter n 0 h) ∙ (ap (λ (l : List ℕ). at l 0) (sym is_n) ∙ s.walking.first s.some);
          met = elim (cases_eq root n) [
            | inl e ↦ (let w : at (set color n 2) root ≡ 2 = ap (at (set color n 2)) e ∙ now in omega arith)
            | inr o ↦ (let w : at (set color n 2) root ≡ at color root = get_or-set_other color n root 2 0 o in let g : 0 < at color root = s.walking.met in omega arith)
          ];
          kept = λ x two. elim (cases_eq x n) [
            | inl e ↦ ap (at (set color n 2)) e ∙ now
            | inr o ↦ get_or-set_other color n x 2 0 o ∙ s.walking.kept x two
          ];
        },
        f.1,
      )
    where
      now : at (set color n 2) n ≡ 2
      now = get_or-set_same color n 2 0 (omega (arith, node_in, s.walking.search.long_color))

  pub arm_skip : (at next n ≢ at starts (n + 1)) → (d : Move) (r : Bool) → (IsTrue r ↔ IsFreeAt (get_or moves (at next n) d) b) → r ≡ false →
      Walking moves starts count b root before color (set next n (at next n + 1)) rank path × (steps_left starts color (set next n (at next n + 1)) count < steps_left starts color next count)
  arm_skip o d r says no_free =
      let f = skips moves starts count b color next rank path n (get_or moves (at next n) d) s.walking.search node_in node_on_path (more_moves o) (listed o d) (λ free. not_both r (says.1 free) no_free) in
      (record { search = f.0; first = s.walking.first; met = s.walking.met; kept = s.walking.kept }, f.1)

  pub arm_rank : (at next n ≢ at starts (n + 1)) → (d : Move) (r : Bool) → (IsTrue r ↔ IsFreeAt (get_or moves (at next n) d) b) → r ≡ true →
      at color (get_or moves (at next n) d).to ≢ 0 → at color (get_or moves (at next n) d).to ≢ 1 → (v : ℕ) → v ≡ max (at rank n) (at rank (get_or moves (at next n) d).to + 1) →
      Walking moves starts count b root before color (set next n (at next n + 1)) (set rank n v) path × (steps_left starts color (set next n (at next n + 1)) count < steps_left starts color next count)
  arm_rank o d r says holds not_zero not_one v v_is =
      let two : at color (get_or moves (at next n) d).to ≡ 2 = omega (arith, s.walking.search.colors (get_or moves (at next n) d).to, not_zero, not_one) in
      let f = ranks moves starts count b color next rank path n (get_or moves (at next n) d) s.walking.search node_in node_on_path (more_moves o) (listed o d) (leads_from o d) (says.0 holds) two v v_is in
      (record { search = f.0; first = s.walking.first; met = s.walking.met; kept = s.walking.kept }, f.1)

  is_free_to : (at next n ≢ at starts (n + 1)) → (d : Move) → IsFreeAt (get_or moves (at next n) d) b → IsFree moves b n (get_or moves (at next n) d).to
  is_free_to o d f = record { place = at next n; made = get_or moves (at next n) d; listed = listed o d; from = leads_from o d; to = refl; free = f.free; low = f.low; high = f.high }

  pub arm_round : (at next n ≢ at starts (n + 1)) → (d : Move) (r : Bool) → (IsTrue r ↔ IsFreeAt (get_or moves (at next n) d) b) → r ≡ true →
      at color (get_or moves (at next n) d).to ≡ 1 → ComesRound moves b root (get_or moves (at next n) d).to
  arm_round o d r says holds one =
      comes_round moves starts count b color next rank path root n (get_or moves (at next n) d).to s.walking.search (s.walking.first s.some) (length path - 1) (omega (arith, s.some)) (sym s.top) one
      (is_free_to o d (says.0 holds))

  pub arm_descend : (at next n ≢ at starts (n + 1)) → (d : Move) (r : Bool) → (IsTrue r ↔ IsFreeAt (get_or moves (at next n) d) b) → r ≡ true →
      at color (get_or moves (at next n) d).to ≡ 0 → (longer : List ℕ) → longer ≡ path ++ (get_or moves (at next n) d).to ∷ [] →
      Walking moves starts count b root before (set color (get_or moves (at next n) d).to 1) next rank longer
      × (steps_left starts (set color (get_or moves (at next n) d).to 1) next count < steps_left starts color next count)
  arm_descend o d r says holds white longer is = arm_descend_to (get_or moves (at next n) d).to (leads_below o d) (is_free_to o d (says.0 holds)) white longer is
    where
      arm_descend_to : (t : ℕ) → t < count → IsFree moves b n t → at color t ≡ 0 → (longer : List ℕ) → longer ≡ path ++ t ∷ [] →
          Walking moves starts count b root before (set color t 1) next rank longer × (steps_left starts (set color t 1) next count < steps_left starts color next count)
      arm_descend_to t below free white longer is =
          let f = descends moves starts count b color next rank path t s.walking.search below white
          (λ i last. subst (λ (y : ℕ). IsFree moves b y t) (s.top ∙ ap (at path) (let e : length path - 1 ≡ i = omega (arith, last) in e)) free) in (
            record {
              search = subst (λ (l : List ℕ). Searching moves starts count b (set color t 1) next rank l) (sym is) f.0;
              first = λ h. ap (λ (l : List ℕ). at l 0) is ∙ (front_at path t 0 s.some ∙ s.walking.first s.some);
              met = (let w : at (set color t 1) root ≡ at color root = get_or-set_other color t root 1 0 (λ e. (let z : at color root ≡ 0 = ap (at color) e ∙ white in let g : 0 < at color root = s.walking.met in omega arith)) in let g : 0 < at color root = s.walking.met in omega arith);
              kept = λ x two. (let old : at color x ≡ 2 = s.walking.kept x two in get_or-set_other color t x 1 0 (λ e. (let z : at color x ≡ 0 = ap (at color) e ∙ white in omega arith)) ∙ old);
            },
            f.1,
          )

  -- a number above the rank of what the next move leads to is no greater than the count of points
  pub rank_fits : (x : ℕ) → at color x ≢ 0 → at color x ≢ 1 → at rank x + 1 ≤ count
  rank_fits x not_zero not_one = (
      let two : at color x ≡ 2 = omega (arith, s.walking.search.colors x, not_zero, not_one) in
      let below : suc (at rank x) + unranked color count ≤ count = s.walking.search.below x two in
      omega arith)

-- nothing is on the path: a point is new or ranked
pub new_or_ranked : (moves : List Move) (starts : List ℕ) (count b : ℕ) (color next rank : List ℕ) → IsSearched moves starts count b color next rank → (x : ℕ) → at color x ≢ 0 → at color x ≡ 2
new_or_ranked moves starts count b color next rank s x o = elim (cases_eq (at color x) 1) [
  | inl one ↦ (let q = s.on_path x one in absurd (omega (arith, q.1)))
  | inr p ↦ omega (arith, s.colors x)
]

-- every point that has a pair is ranked
pub all_ranked : (moves : List Move) (starts : List ℕ) (count b : ℕ) (words color next rank : List ℕ) → IsTable moves starts count → IsSearched moves starts count b color next rank →
    ((x : ℕ) → x < count → Has words x b → at color x ≡ 2) → RanksAt moves count words b rank
all_ranked moves starts count b words color next rank t s met = record {
  long = s.long_rank;
  falls = λ x y hx has f. (
      let place : (at starts f.made.from ≤ f.place) × (f.place < at starts (suc f.made.from)) = t.all f.place f.made f.listed in
      let lo : at starts x ≤ f.place = subst (λ (z : ℕ). at starts z ≤ f.place) f.from place.0 in
      let hi : f.place < at next x = subst (λ (z : ℕ). f.place < z) (sym (s.ranked x hx (met x hx has))) (subst (λ (z : ℕ). f.place < at starts (suc z)) f.from place.1) in
      subst (λ (z : ℕ). at rank z < at rank x) f.to (s.seen x f.place f.made hx lo hi f.listed (record { free = f.free; low = f.low; high = f.high })).1);
  tight = λ x hx pos. (let w = s.tight x hx pos in (w.0, w.1, w.3));
}

-- nothing is searched yet
pub searched_first : (moves : List Move) (starts : List ℕ) (count b : ℕ) → IsTable moves starts count → IsSearched moves starts count b (replicate count 0) starts (replicate count 0)
searched_first moves starts count b t = record {
  long_color = length-replicate {A = ℕ} count 0;
  long_next = omega (arith, t.long);
  long_rank = length-replicate {A = ℕ} count 0;
  from = λ x h. omega arith;
  upto = λ x h. t.ordered x h;
  seen = λ x k m h lo hi. absurd (omega arith);
  tight = λ x h pos. (let z : at (replicate count 0) x ≡ 0 = zeros_at count x in absurd (omega arith));
  ranked = λ x h two. (let z : at (replicate count 0) x ≡ 0 = zeros_at count x in absurd (omega arith));
  colors = λ x. (let z : at (replicate count 0) x ≡ 0 = zeros_at count x in omega arith);
  path_in = λ i h. absurd (omega arith);
  path_color = λ i h. absurd (omega arith);
  on_path = λ x one. (let z : at (replicate count 0) x ≡ 0 = zeros_at count x in absurd (omega arith));
  links = λ i h. absurd (omega arith);
  apart = λ i j h g. absurd (omega arith);
  below = λ x two. (let z : at (replicate count 0) x ≡ 0 = zeros_at count x in absurd (omega arith));
}
