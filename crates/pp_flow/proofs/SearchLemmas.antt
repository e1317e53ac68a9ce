-- The steps of a search in depth.
use Rattle.std.proofs.Common.{◌≡◌, ◌≢◌, ℕ, zero, suc, ◌+◌, ◌-◌, ◌≤◌, ◌<◌, ◌⊎◌, List, [], ◌∷◌, ◌++◌, Some, length, length-set, length-append, get_or, set, max, subst, refl, sym, ◌∙◌, ap, arith, inl, inr}
use Rattle.std.specs.Prelude.{slice_get}
use Rattle.std.proofs.lemmas.Bool.{cases_eq, cases_lt}
use Rattle.std.proofs.lemmas.List.{get_or-set_same, get_or-set_other}
use Rattle.std.proofs.Math.Seq.{get_or-append_seam}
use Rattle.std.proofs.lemmas.List.{get_or_append_left}
use Rattle.pp_flow.specs.declared.moves.Move.{Move}
use Rattle.pp_flow.specs.Flow.{IsFree, FreeWay, stay, onward}
use Rattle.pp_flow.specs.steps.Search.{IsFreeAt, steps_left, unranked, Searching, ComesRound}

abbrev pub at : List ℕ → ℕ → ℕ
at l x = get_or l x 0

-- what one point has left
abbrev left_at : (starts color next : List ℕ) → ℕ → ℕ
left_at starts color next n = (at starts (suc n) - at next n) + (2 - at color n)

-- another point was changed, and this one has fewer steps left
steps_same : (starts color next color' next' : List ℕ) (n k : ℕ) → k ≤ n →
    ((x : ℕ) → x ≢ n → at color' x ≡ at color x) → ((x : ℕ) → x ≢ n → at next' x ≡ at next x) →
    steps_left starts color' next' k ≡ steps_left starts color next k
steps_same starts color next color' next' n zero h c d = refl
steps_same starts color next color' next' n (suc k) h c d =
    let rest : steps_left starts color' next' k ≡ steps_left starts color next k = steps_same starts color next color' next' n k (omega arith) c d in
    let one : at color' k ≡ at color k = c k (omega arith) in
    let two : at next' k ≡ at next k = d k (omega arith) in
    sums (at starts (suc k)) _ _ _ _ _ _ two one rest
  where
    sums : (s a a' b b' r r' : ℕ) → a' ≡ a → b' ≡ b → r' ≡ r → (s - a') + (2 - b') + r' ≡ (s - a) + (2 - b) + r
    sums s a a' b b' r r' e f g = cc

pub steps_fall : (starts color next color' next' : List ℕ) (n k : ℕ) → n < k →
    ((x : ℕ) → x ≢ n → at color' x ≡ at color x) → ((x : ℕ) → x ≢ n → at next' x ≡ at next x) → left_at starts color' next' n < left_at starts color next n →
    steps_left starts color' next' k < steps_left starts color next k
steps_fall starts color next color' next' n zero h c d l = absurd (omega arith)
steps_fall starts color next color' next' n (suc k) h c d l = steps_fall_at starts color next color' next' n k c d l (λ o. steps_fall starts color next color' next' n k (omega arith) c d l) (cases_eq k n) h
  where
    steps_fall_at : (starts color next color' next' : List ℕ) (n k : ℕ) →
        ((x : ℕ) → x ≢ n → at color' x ≡ at color x) → ((x : ℕ) → x ≢ n → at next' x ≡ at next x) → left_at starts color' next' n < left_at starts color next n →
        (k ≢ n → steps_left starts color' next' k < steps_left starts color next k) → (k ≡ n) ⊎ (k ≢ n) → n < suc k →
        left_at starts color' next' k + steps_left starts color' next' k < left_at starts color next k + steps_left starts color next k
    steps_fall_at starts color next color' next' n k c d l rest (inl e) h =
        let same : steps_left starts color' next' k ≡ steps_left starts color next k = steps_same starts color next color' next' n k (omega arith) c d in
        subst (λ (y : ℕ). left_at starts color' next' y + steps_left starts color' next' k < left_at starts color next y + steps_left starts color next k) (sym e)
        (sums _ _ _ _ l same)
      where
        sums : (a b r r' : ℕ) → a < b → r ≡ r' → a + r < b + r'
        sums a b r r' h e = omega arith
    steps_fall_at starts color next color' next' n k c d l rest (inr o) h =
        sums (at starts (suc k)) _ _ _ _ _ _ (d k o) (c k o) (rest o)
      where
        sums : (s a a' b b' r r' : ℕ) → a' ≡ a → b' ≡ b → r' < r → (s - a') + (2 - b') + r' < (s - a) + (2 - b) + r
        sums s a a' b b' r r' e f g = rw (e, f) (omega arith)

-- no more points are not ranked than there are
pub unranked_most : (color : List ℕ) (k : ℕ) → unranked color k ≤ k
unranked_most color zero = omega arith
unranked_most color (suc k) = (let rest : unranked color k ≤ k = unranked_most color k in sums (at color k) _ k rest)
  where
    sums : (c r k : ℕ) → r ≤ k → (1 - (c - 1)) + r ≤ suc k
    sums c r k h = omega arith

-- colors changed, but of no point whether it is ranked
unranked_kept : (color color' : List ℕ) (k : ℕ) → ((x : ℕ) → 1 - (at color' x - 1) ≡ 1 - (at color x - 1)) → unranked color' k ≡ unranked color k
unranked_kept color color' zero same = refl
unranked_kept color color' (suc k) same = sums _ _ _ _ (same k) (unranked_kept color color' k same)
  where
    sums : (a b r q : ℕ) → a ≡ b → r ≡ q → a + r ≡ b + q
    sums a b r q e f = cc

-- one more point is ranked
unranked_fell : (color color' : List ℕ) (n k : ℕ) → n < k → at color n ≡ 1 → at color' n ≡ 2 → ((x : ℕ) → x ≢ n → at color' x ≡ at color x) → suc (unranked color' k) ≡ unranked color k
unranked_fell color color' n zero h one two others = absurd (omega arith)
unranked_fell color color' n (suc k) h one two others = at_last (λ lt. unranked_fell color color' n k lt one two others) (cases_eq k n)
  where
    sums : (a b r q : ℕ) → a ≡ b → r ≡ q → (1 - (a - 1)) + r ≡ (1 - (b - 1)) + q
    sums a b r q e f = cc

    same : (j : ℕ) → j ≤ n → unranked color' j ≡ unranked color j
    same zero g = refl
    same (suc j) g = sums (at color' j) (at color j) _ _ (others j (omega arith)) (same j (omega arith))

    here : (a b r q : ℕ) → a ≡ 2 → b ≡ 1 → r ≡ q → suc ((1 - (a - 1)) + r) ≡ (1 - (b - 1)) + q
    here a b r q e f g = omega arith

    there : (a b r q : ℕ) → a ≡ b → suc r ≡ q → suc ((1 - (a - 1)) + r) ≡ (1 - (b - 1)) + q
    there a b r q e f = omega arith

    at_last : (n < k → suc (unranked color' k) ≡ unranked color k) → (k ≡ n) ⊎ (k ≢ n) → suc (unranked color' (suc k)) ≡ unranked color (suc k)
    at_last rest (inl e) = here (at color' k) (at color k) _ _ (ap (at color') e ∙ two) (ap (at color) e ∙ one) (same k (omega arith))
    at_last rest (inr o) = there (at color' k) (at color k) _ _ (others k o) (rest (omega arith))

set_same_at : (l : List ℕ) (i v : ℕ) → i < length l → at (set l i v) i ≡ v
set_same_at l i v h = get_or-set_same l i v 0 h

set_other_at : (l : List ℕ) (i v x : ℕ) → x ≢ i → at (set l i v) x ≡ at l x
set_other_at l i v x o = get_or-set_other l i x v 0 o

-- what is seen of a place in a list with one item more
pub last_at : (path : List ℕ) (y : ℕ) → at (path ++ y ∷ []) (length path) ≡ y
last_at path y = get_or-append_seam path y [] 0

pub front_at : (path : List ℕ) (y i : ℕ) → i < length path → at (path ++ y ∷ []) i ≡ at path i
front_at path y i h = get_or_append_left path (y ∷ []) 0 i h

pub long_one : (path : List ℕ) (y : ℕ) → length (path ++ y ∷ []) ≡ suc (length path)
long_one path y = (let e : length (path ++ y ∷ []) ≡ length path + 1 = length-append path (y ∷ []) in omega arith)

pub some_same : (a b : Move) → Some a ≡ Some b → a ≡ b
some_same a b e = cc

-- only this place of a list was changed
abbrev pub Changes : List ℕ → List ℕ → ℕ → ℕ → Type 0
Changes old new n v = (length new ≡ length old) × (at new n ≡ v) × ((x : ℕ) → x ≢ n → at new x ≡ at old x)

pub set_changes : (l : List ℕ) (n v : ℕ) → n < length l → Changes l (set l n v) n v
set_changes l n v h = (length-set l n v, set_same_at l n v h, λ x o. set_other_at l n v x o)

module _ (moves : List Move) (starts : List ℕ) (count b : ℕ) where
  -- passing a move is a step
  pub steps_next : (color next next' : List ℕ) (n : ℕ) → n < count → at color n ≡ 1 → at next n < at starts (suc n) → Changes next next' n (at next n + 1) →
      steps_left starts color next' count < steps_left starts color next count
  steps_next color next next' n h grey more step =
      steps_fall starts color next color next' n count h (λ x o. refl) step.2 (fewer (at starts (suc n)) (at next n) (at next' n) (at color n) more step.1)
    where
      fewer : (s a a' c : ℕ) → a < s → a' ≡ a + 1 → (s - a') + (2 - c) < (s - a) + (2 - c)
      fewer s a a' c h e = omega arith

  -- the move that is seen next is passed, and the rank of its point may rise
  advances : (color next rank path next' rank' : List ℕ) (n v : ℕ) (m : Move) → Searching moves starts count b color next rank path → n < count → at color n ≡ 1 →
      at next n < at starts (suc n) → slice_get moves (at next n) ≡ Some m → Changes next next' n (at next n + 1) → Changes rank rank' n v → at rank n ≤ v →
      (IsFreeAt m b → (at color m.to ≡ 2) × (at rank m.to < v)) →
      (0 < v → (t : ℕ) × IsFree moves b n t × (at color t ≡ 2) × (v ≡ suc (at rank t))) →
      Searching moves starts count b color next' rank' path
  advances color next rank path next' rank' n v m s h grey more listed step rise up ends tight = record {
    long_color = s.long_color;
    long_next = rw step.0 s.long_next;
    long_rank = rise.0 ∙ s.long_rank;
    from = λ x hx. elim (cases_eq x n) [
      | inl e ↦ (let w : at next' x ≡ at next n + 1 = ap (at next') e ∙ step.1 in let f : at starts x ≤ at next x = s.from x hx in let g : at next x ≡ at next n = ap (at next) e in omega arith)
      | inr o ↦ subst (λ (y : ℕ). at starts x ≤ y) (sym (step.2 x o)) (s.from x hx)
    ];
    upto = λ x hx. elim (cases_eq x n) [
      | inl e ↦ (let w : at next' x ≡ at next n + 1 = ap (at next') e ∙ step.1 in let g : at starts (suc x) ≡ at starts (suc n) = ap (λ (y : ℕ). at starts (suc y)) e in omega arith)
      | inr o ↦ subst (λ (y : ℕ). y ≤ at starts (suc x)) (sym (step.2 x o)) (s.upto x hx)
    ];
    seen = λ x k m' hx lo hi l f. elim (cases_eq x n) [
      | inl e ↦ elim (cases_eq k (at next n)) [
        | inl same ↦ (
            let it : m' ≡ m = some_same m' m (sym l ∙ subst (λ (i : ℕ). slice_get moves i ≡ Some m) (sym same) listed) in
            let q = ends (subst (λ (y : Move). IsFreeAt y b) it f) in
            let to : m'.to ≡ m.to = ap (λ (y : Move). y.to) it in
            let two : at color m'.to ≡ 2 = ap (at color) to ∙ q.0 in
            let r : at rank m'.to ≡ at rank m.to = ap (at rank) to in
            let kept : at rank' m'.to ≡ at rank m'.to = rank_kept m'.to two in
            let new : at rank' x ≡ v = ap (at rank') e ∙ rise.1 in
            let lt : at rank m.to < v = q.1 in
            (two, omega arith))
        | inr o ↦ (
            let w : at next' x ≡ at next n + 1 = ap (at next') e ∙ step.1 in
            let g : at next x ≡ at next n = ap (at next) e in
            let q = s.seen x k m' hx lo (omega arith) l f in
            let lt : at rank m'.to < at rank x = q.1 in
            let kept : at rank' m'.to ≡ at rank m'.to = rank_kept m'.to q.0 in
            let new : at rank' x ≡ v = ap (at rank') e ∙ rise.1 in
            let old : at rank x ≡ at rank n = ap (at rank) e in
            (q.0, omega arith))
      ]
      | inr o ↦ (
          let q = s.seen x k m' hx lo (subst (λ (y : ℕ). k < y) (step.2 x o) hi) l f in
          let lt : at rank m'.to < at rank x = q.1 in
          let kept : at rank' m'.to ≡ at rank m'.to = rank_kept m'.to q.0 in
          let old : at rank' x ≡ at rank x = rise.2 x o in
          (q.0, omega arith))
    ];
    tight = λ x hx pos. elim (cases_eq x n) [
      | inl e ↦ (
          let new : at rank' x ≡ v = ap (at rank') e ∙ rise.1 in
          let w = tight (omega arith) in
          (w.0, subst (λ (y : ℕ). IsFree moves b y w.0) (sym e) w.1, w.2, new ∙ w.3 ∙ ap suc (sym (rank_kept w.0 w.2))))
      | inr o ↦ (
          let old : at rank' x ≡ at rank x = rise.2 x o in
          let w = s.tight x hx (omega arith) in
          (w.0, w.1, w.2, old ∙ w.3 ∙ ap suc (sym (rank_kept w.0 w.2))))
    ];
    ranked = λ x hx two. elim (cases_eq x n) [
      | inl e ↦ (let one : at color x ≡ 1 = ap (at color) e ∙ grey in absurd (omega arith))
      | inr o ↦ step.2 x o ∙ s.ranked x hx two
    ];
    colors = s.colors;
    path_in = s.path_in;
    path_color = s.path_color;
    on_path = s.on_path;
    links = s.links;
    apart = s.apart;
    below = λ x two. (
        let kept : at rank' x ≡ at rank x = rank_kept x two in
        let old : suc (at rank x) + unranked color count ≤ count = s.below x two in
        omega arith);
  }
    where
      rank_kept : (t : ℕ) → at color t ≡ 2 → at rank' t ≡ at rank t
      rank_kept t two = rise.2 t (λ e. (let one : at color t ≡ 1 = ap (at color) e ∙ grey in omega arith))

  -- the next move is not free at this byte
  pub skips : (color next rank path : List ℕ) (n : ℕ) (m : Move) → Searching moves starts count b color next rank path → n < count → at color n ≡ 1 →
      at next n < at starts (suc n) → slice_get moves (at next n) ≡ Some m → (IsFreeAt m b → ⊥) →
      Searching moves starts count b color (set next n (at next n + 1)) rank path
      × (steps_left starts color (set next n (at next n + 1)) count < steps_left starts color next count)
  skips color next rank path n m s h grey more listed not_free =
      let step : Changes next (set next n (at next n + 1)) n (at next n + 1) = set_changes next n (at next n + 1) (omega (arith, s.long_next)) in
      let fell : steps_left starts color (set next n (at next n + 1)) count < steps_left starts color next count = steps_next color next (set next n (at next n + 1)) n h grey more step in (
        advances color next rank path (set next n (at next n + 1)) rank n (at rank n) m s h grey more listed step (refl, refl, λ x o. refl) (omega arith)
            (λ f. absurd (not_free f)) (s.tight n h),
        fell,
      )

  -- the next move leads to a ranked point
  pub ranks : (color next rank path : List ℕ) (n : ℕ) (m : Move) → Searching moves starts count b color next rank path → n < count → at color n ≡ 1 →
      at next n < at starts (suc n) → slice_get moves (at next n) ≡ Some m → m.from ≡ n → IsFreeAt m b → at color m.to ≡ 2 → (v : ℕ) → v ≡ max (at rank n) (at rank m.to + 1) →
      Searching moves starts count b color (set next n (at next n + 1)) (set rank n v) path
      × (steps_left starts color (set next n (at next n + 1)) count < steps_left starts color next count)
  ranks color next rank path n m s h grey more listed from free two v v_is =
      let step : Changes next (set next n (at next n + 1)) n (at next n + 1) = set_changes next n (at next n + 1) (omega (arith, s.long_next)) in
      let rise : Changes rank (set rank n v) n v = set_changes rank n v (omega (arith, s.long_rank)) in
      let fell : steps_left starts color (set next n (at next n + 1)) count < steps_left starts color next count = steps_next color next (set next n (at next n + 1)) n h grey more step in (
        advances color next rank path (set next n (at next n + 1)) (set rank n v) n v m s h grey more listed step rise (omega arith)
            (λ f. (two, omega arith))
            (λ pos. elim (cases_lt (at rank n) (at rank m.to + 1)) [
              | inl lt ↦ (m.to, record { place = at next n; made = m; listed = listed; from = from; to = refl; free = free.free; low = free.low; high = free.high }, two, omega arith)
              | inr ge ↦ (let w = s.tight n h (omega arith) in (w.0, w.1, w.2, (let e : v ≡ at rank n = omega arith in e ∙ w.3)))
            ]),
        fell,
      )

  -- all moves of the last point of the path are seen: it is ranked
  pub finishes : (color next rank path : List ℕ) (n : ℕ) → Searching moves starts count b color next rank (path ++ n ∷ []) → at next n ≡ at starts (suc n) →
      Searching moves starts count b (set color n 2) next rank path
      × (steps_left starts (set color n 2) next count < steps_left starts color next count)
  finishes color next rank path n s all =
      let h : n < count = subst (λ (y : ℕ). y < count) (last_at path n) (s.path_in (length path) (omega (arith, long_one path n))) in
      let grey : at color n ≡ 1 = subst (λ (y : ℕ). at color y ≡ 1) (last_at path n) (s.path_color (length path) (omega (arith, long_one path n))) in
      let step : Changes color (set color n 2) n 2 = set_changes color n 2 (omega (arith, s.long_color)) in
      finishes_by color next rank path n (set color n 2) s all h grey step
      (steps_fall starts color next (set color n 2) next n count h step.2 (λ x o. refl) (fewer (at starts (suc n) - at next n) (at color n) (at (set color n 2) n) grey step.1))
    where
      fewer : (d c c' : ℕ) → c ≡ 1 → c' ≡ 2 → d + (2 - c') < d + (2 - c)
      fewer d c c' e f = omega arith

      finishes_by : (color next rank path : List ℕ) (n : ℕ) (color' : List ℕ) → Searching moves starts count b color next rank (path ++ n ∷ []) → at next n ≡ at starts (suc n) →
          n < count → at color n ≡ 1 → Changes color color' n 2 → steps_left starts color' next count < steps_left starts color next count →
          Searching moves starts count b color' next rank path × (steps_left starts color' next count < steps_left starts color next count)
      finishes_by color next rank path n color' s all h grey step fell = (
        record {
          long_color = step.0 ∙ s.long_color;
          long_next = s.long_next;
          long_rank = s.long_rank;
          from = s.from;
          upto = s.upto;
          seen = λ x k m hx lo hi l f. (let q = s.seen x k m hx lo hi l f in (still_two m.to q.0, q.1));
          tight = λ x hx pos. (let w = s.tight x hx pos in (w.0, w.1, still_two w.0 w.2, w.3));
          ranked = λ x hx two. elim (cases_eq x n) [
            | inl e ↦ ap (at next) e ∙ all ∙ ap (λ (y : ℕ). at starts (suc y)) (sym e)
            | inr o ↦ s.ranked x hx (sym (step.2 x o) ∙ two)
          ];
          colors = λ x. elim (cases_eq x n) [
            | inl e ↦ (let w : at color' x ≡ 2 = ap (at color') e ∙ step.1 in omega arith)
            | inr o ↦ (let w : at color' x ≡ at color x = step.2 x o in let g : at color x ≤ 2 = s.colors x in omega arith)
          ];
          path_in = λ i hi. subst (λ (y : ℕ). y < count) (front_at path n i hi) (s.path_in i (omega (arith, long_one path n)));
          path_color = λ i hi. (
              let was : at color (at path i) ≡ 1 = subst (λ (y : ℕ). at color y ≡ 1) (front_at path n i hi) (s.path_color i (omega (arith, long_one path n))) in
              step.2 (at path i) (other i hi) ∙ was);
          on_path = λ x one. elim (cases_eq x n) [
            | inl e ↦ (let w : at color' x ≡ 2 = ap (at color') e ∙ step.1 in absurd (omega arith))
            | inr o ↦ (
                let q = s.on_path x (sym (step.2 x o) ∙ one) in
                elim (cases_lt q.0 (length path)) [
                  | inl lt ↦ (q.0, lt, sym (front_at path n q.0 lt) ∙ q.2)
                  | inr ge ↦ (
                      let last : q.0 ≡ length path = omega (arith, q.1, long_one path n) in
                      absurd (o (sym q.2 ∙ (ap (at (path ++ n ∷ [])) last ∙ last_at path n))))
                ])
          ];
          links = λ i hi. subst (λ (y : ℕ). IsFree moves b y (at path (suc i))) (front_at path n i (omega arith))
              (subst (λ (y : ℕ). IsFree moves b (at (path ++ n ∷ []) i) y) (front_at path n (suc i) hi) (s.links i (omega (arith, long_one path n))));
          apart = λ i j lt hj e. s.apart i j lt (omega (arith, long_one path n)) (front_at path n i (omega arith) ∙ e ∙ sym (front_at path n j hj));
          below = λ x two. elim (cases_eq x n) [
            | inl e ↦ subst (λ (y : ℕ). suc (at rank y) + unranked color' count ≤ count) (sym e) new_below
            | inr o ↦ (
                let old : suc (at rank x) + unranked color count ≤ count = s.below x (sym (step.2 x o) ∙ two) in
                let fewer : suc (unranked color' count) ≡ unranked color count = one_fewer in
                omega arith)
          ];
        },
        fell,
      )
        where
          one_fewer : suc (unranked color' count) ≡ unranked color count
          one_fewer = unranked_fell color color' n count h grey step.1 step.2

          new_below : suc (at rank n) + unranked color' count ≤ count
          new_below = elim (cases_eq (at rank n) 0) [
            | inl zero' ↦ (
                let most : unranked color count ≤ count = unranked_most color count in
                let fewer : suc (unranked color' count) ≡ unranked color count = one_fewer in
                omega arith)
            | inr pos ↦ (
                let w = s.tight n h (omega arith) in
                let led : suc (at rank w.0) + unranked color count ≤ count = s.below w.0 w.2 in
                let is : at rank n ≡ suc (at rank w.0) = w.3 in
                let fewer : suc (unranked color' count) ≡ unranked color count = one_fewer in
                omega arith)
          ]

          still_two : (x : ℕ) → at color x ≡ 2 → at color' x ≡ 2
          still_two x two = step.2 x (λ e. (let one : at color x ≡ 1 = ap (at color) e ∙ grey in omega arith)) ∙ two

          other : (i : ℕ) → i < length path → at path i ≢ n
          other i hi e = s.apart i (length path) hi (omega (arith, long_one path n)) (front_at path n i hi ∙ e ∙ sym (last_at path n))

  -- a new point comes to the end of the path
  pub descends : (color next rank path : List ℕ) (t : ℕ) → Searching moves starts count b color next rank path → t < count → at color t ≡ 0 →
      ((i : ℕ) → suc i ≡ length path → IsFree moves b (at path i) t) →
      Searching moves starts count b (set color t 1) next rank (path ++ t ∷ [])
      × (steps_left starts (set color t 1) next count < steps_left starts color next count)
  descends color next rank path t s h white link =
      let step : Changes color (set color t 1) t 1 = set_changes color t 1 (omega (arith, s.long_color)) in
      descends_by color next rank path t (set color t 1) s h white link step
      (steps_fall starts color next (set color t 1) next t count h step.2 (λ x o. refl) (fewer (at starts (suc t) - at next t) (at color t) (at (set color t 1) t) white step.1))
    where
      fewer : (d c c' : ℕ) → c ≡ 0 → c' ≡ 1 → d + (2 - c') < d + (2 - c)
      fewer d c c' e f = omega arith

      descends_by : (color next rank path : List ℕ) (t : ℕ) (color' : List ℕ) → Searching moves starts count b color next rank path → t < count → at color t ≡ 0 →
          ((i : ℕ) → suc i ≡ length path → IsFree moves b (at path i) t) → Changes color color' t 1 → steps_left starts color' next count < steps_left starts color next count →
          Searching moves starts count b color' next rank (path ++ t ∷ []) × (steps_left starts color' next count < steps_left starts color next count)
      descends_by color next rank path t color' s h white link step fell = (
        record {
          long_color = step.0 ∙ s.long_color;
          long_next = s.long_next;
          long_rank = s.long_rank;
          from = s.from;
          upto = s.upto;
          seen = λ x k m hx lo hi l f. (let q = s.seen x k m hx lo hi l f in (still m.to 2 q.0 (omega arith), q.1));
          tight = λ x hx pos. (let w = s.tight x hx pos in (w.0, w.1, still w.0 2 w.2 (omega arith), w.3));
          ranked = λ x hx two. elim (cases_eq x t) [
            | inl e ↦ (let w : at color' x ≡ 1 = ap (at color') e ∙ step.1 in absurd (omega arith))
            | inr o ↦ s.ranked x hx (sym (step.2 x o) ∙ two)
          ];
          colors = λ x. elim (cases_eq x t) [
            | inl e ↦ (let w : at color' x ≡ 1 = ap (at color') e ∙ step.1 in omega arith)
            | inr o ↦ (let w : at color' x ≡ at color x = step.2 x o in let g : at color x ≤ 2 = s.colors x in omega arith)
          ];
          path_in = λ i hi. elim (cases_lt i (length path)) [
            | inl lt ↦ subst (λ (y : ℕ). y < count) (sym (front_at path t i lt)) (s.path_in i lt)
            | inr ge ↦ subst (λ (y : ℕ). y < count) (sym (last i hi ge)) h
          ];
          path_color = λ i hi. elim (cases_lt i (length path)) [
            | inl lt ↦ ap (at color') (front_at path t i lt) ∙ still (at path i) 1 (s.path_color i lt) (omega arith)
            | inr ge ↦ ap (at color') (last i hi ge) ∙ step.1
          ];
          on_path = λ x one. elim (cases_eq x t) [
            | inl e ↦ (length path, omega (arith, long_one path t), last_at path t ∙ sym e)
            | inr o ↦ (let q = s.on_path x (sym (step.2 x o) ∙ one) in (q.0, omega (arith, q.1, long_one path t), front_at path t q.0 q.1 ∙ q.2))
          ];
          links = λ i hi. elim (cases_lt (suc i) (length path)) [
            | inl lt ↦ subst (λ (y : ℕ). IsFree moves b y (at (path ++ t ∷ []) (suc i))) (sym (front_at path t i (omega arith)))
                (subst (λ (y : ℕ). IsFree moves b (at path i) y) (sym (front_at path t (suc i) lt)) (s.links i lt))
            | inr ge ↦ subst (λ (y : ℕ). IsFree moves b y (at (path ++ t ∷ []) (suc i))) (sym (front_at path t i (omega (arith, long_one path t))))
                (subst (λ (y : ℕ). IsFree moves b (at path i) y) (sym (last (suc i) hi ge)) (link i (omega (arith, long_one path t))))
          ];
          apart = λ i j lt hj. elim (cases_lt j (length path)) [
            | inl in' ↦ (λ e. s.apart i j lt in' (sym (front_at path t i (omega arith)) ∙ e ∙ front_at path t j in'))
            | inr ge ↦ (λ e. (
                let below : i < length path = omega (arith, long_one path t) in
                let one : at color (at path i) ≡ 1 = s.path_color i below in
                let same : at path i ≡ t = sym (front_at path t i below) ∙ e ∙ last j hj ge in
                let zero' : at color (at path i) ≡ 0 = ap (at color) same ∙ white in
                omega arith))
          ];
          below = λ x two. elim (cases_eq x t) [
            | inl e ↦ (let w : at color' x ≡ 1 = ap (at color') e ∙ step.1 in absurd (omega arith))
            | inr o ↦ (
                let old : suc (at rank x) + unranked color count ≤ count = s.below x (sym (step.2 x o) ∙ two) in
                let same : unranked color' count ≡ unranked color count = unranked_kept color color' count as_many in
                omega arith)
          ];
        },
        fell,
      )
        where
          as_many : (x : ℕ) → 1 - (at color' x - 1) ≡ 1 - (at color x - 1)
          as_many x = elim (cases_eq x t) [
            | inl e ↦ (
                let new : at color' x ≡ 1 = ap (at color') e ∙ step.1 in
                let was : at color x ≡ 0 = ap (at color) e ∙ white in
                omega arith)
            | inr o ↦ ap (λ (c : ℕ). 1 - (c - 1)) (step.2 x o)
          ]

          still : (x v : ℕ) → at color x ≡ v → 0 < v → at color' x ≡ v
          still x v e pos = step.2 x (λ same. (let zero' : at color x ≡ 0 = ap (at color) same ∙ white in omega arith)) ∙ e

          last : (i : ℕ) → i < length (path ++ t ∷ []) → length path ≤ i → at (path ++ t ∷ []) i ≡ t
          last i hi ge = ap (at (path ++ t ∷ [])) (let e : i ≡ length path = omega (arith, long_one path t) in e) ∙ last_at path t

  -- from a place of the path to a later one
  way_on : (color next rank path : List ℕ) → Searching moves starts count b color next rank path → (d i : ℕ) → i + d < length path → FreeWay moves b (at path i) d (at path (i + d))
  way_on color next rank path s zero i h = subst (λ (y : ℕ). FreeWay moves b (at path i) zero y) (ap (at path) (let e : i ≡ i + 0 = omega arith in e)) stay
  way_on color next rank path s (suc d) i h =
      onward {next = at path (suc i)} (s.links i (omega arith))
      (subst (λ (y : ℕ). FreeWay moves b (at path (suc i)) d y) (ap (at path) (let e : suc i + d ≡ i + suc d = omega arith in e)) (way_on color next rank path s d (suc i) (omega arith)))

  one_on : {x y z n : ℕ} → FreeWay moves b x n y → IsFree moves b y z → FreeWay moves b x (suc n) z
  one_on {z = z} stay f = onward {next = z} f stay
  one_on (onward {next = w} g rest) f = onward {next = w} g (one_on rest f)

  -- the next move of the last point leads back to the path
  pub comes_round : (color next rank path : List ℕ) (root n t : ℕ) → Searching moves starts count b color next rank path → at path 0 ≡ root → (l : ℕ) → suc l ≡ length path → at path l ≡ n →
      at color t ≡ 1 → IsFree moves b n t → ComesRound moves b root t
  comes_round color next rank path root n t s first l last_is n_is one f =
      let q = s.on_path t one in
      record {
        before = q.0;
        to = subst (λ (y : ℕ). FreeWay moves b y q.0 t) first (subst (λ (y : ℕ). FreeWay moves b (at path 0) q.0 y) (ap (at path) (let e : 0 + q.0 ≡ q.0 = omega arith in e) ∙ q.2) (way_on color next rank path s q.0 0 (omega (arith, q.1))));
        size = l - q.0;
        round = one_on (subst (λ (y : ℕ). FreeWay moves b y (l - q.0) n) q.2 (subst (λ (y : ℕ). FreeWay moves b (at path q.0) (l - q.0) y) (ap (at path) (let e : q.0 + (l - q.0) ≡ l = omega (arith, q.1) in e) ∙ n_is) (way_on color next rank path s (l - q.0) q.0 (omega (arith, q.1))))) f;
      }
