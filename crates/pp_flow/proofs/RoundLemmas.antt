-- The steps of a search for a cycle through one point.
use Rattle.std.proofs.Common.{◌≡◌, ◌≢◌, ◌↔◌, ℕ, zero, suc, ◌+◌, ◌-◌, ◌*◌, ◌≤◌, ◌<◌, Bool, true, IsTrue, List, [], ◌∷◌, ◌++◌, Some, length, get_or, set, subst, refl, sym, ◌∙◌, ap, arith, inl, inr, add-one}
use Rattle.std.specs.Prelude.{slice_get}
use Rattle.std.proofs.lemmas.Bool.{cases_eq, cases_lt}
use Rattle.std.proofs.lemmas.Option.{slice_get-get_or}
use Rattle.pp_flow.specs.declared.moves.Move.{Move}
use Rattle.pp_flow.specs.Flow.{IsFree, FreeWay, stay, onward}
use Rattle.pp_flow.specs.Loops.{IsCycle}
use Rattle.pp_flow.specs.steps.Round.{Rounding, IsOnNoCycle}
use Rattle.pp_flow.specs.steps.Search.{IsFreeAt, steps_left}
use Rattle.pp_flow.specs.steps.Table.{IsTable}
use Rattle.pp_flow.proofs.SearchLemmas.{at, Changes, set_changes, steps_fall, last_at, front_at, long_one, some_same}

-- the root is met
pub round_first : (moves : List Move) (starts : List ℕ) (count b root : ℕ) (color next path : List ℕ) → IsTable moves starts count → length color ≡ count →
    ((x : ℕ) → at color x ≡ 0) → next ≡ starts → root < count → path ≡ root ∷ [] → Rounding moves starts count b root (set color root 1) next path
round_first moves starts count b root color next path t long new start h is =
    let step : Changes color (set color root 1) root 1 = set_changes color root 1 (omega arith) in
    subst (λ (l : List ℕ). Rounding moves starts count b root (set color root 1) next l) (sym is)
    (subst (λ (l : List ℕ). Rounding moves starts count b root (set color root 1) l (root ∷ [])) (sym start) (record {
      long_color = step.0 ∙ long;
      long_next = omega (arith, t.long);
      from = λ x hx. omega arith;
      upto = λ x hx. t.ordered x hx;
      seen = λ x k m hx lo hi. absurd (omega arith);
      done = λ x hx pos. elim (cases_eq x root) [
        | inl e ↦ inl (0, omega arith, sym e)
        | inr o ↦ (let z : at (set color root 1) x ≡ 0 = step.2 x o ∙ new x in absurd (omega arith))
      ];
      path_in = λ i hi. (let z : i ≡ 0 = omega arith in subst (λ (y : ℕ). at (root ∷ []) y < count) (sym z) h);
      links = λ i hi. absurd (omega arith);
      first = λ _. refl;
      met = omega (arith, step.1);
    }))

steps_round : (starts : List ℕ) (count : ℕ) (color next next' : List ℕ) (n : ℕ) → n < count → at next n < at starts (suc n) → Changes next next' n (at next n + 1) → steps_left starts color next' count < steps_left starts color next count
steps_round starts count color next next' n h more step = steps_fall starts color next color next' n count h (λ x o. refl) step.2 (fewer (at starts (suc n)) (at next n) (at next' n) (at color n) more step.1)
  where
    fewer : (s a a' c : ℕ) → a < s → a' ≡ a + 1 → (s - a') + (2 - c) < (s - a) + (2 - c)
    fewer s a a' c h e = omega arith

-- n is the last point of the path
pub record Turning (moves : List Move) (starts : List ℕ) (count b root : ℕ) (color next path : List ℕ) (n : ℕ) : Type 0 where
  pub search : Rounding moves starts count b root color next path
  pub table : IsTable moves starts count
  pub some : 0 < length path
  pub top : n ≡ at path (length path - 1)

module _ (moves : List Move) (starts : List ℕ) (count b root : ℕ) (color next path : List ℕ) (n : ℕ) (s : Turning moves starts count b root color next path n) where
  pub node_in : n < count
  node_in = subst (λ (y : ℕ). y < count) (sym s.top) (s.search.path_in (length path - 1) (omega (arith, s.some)))

  pub more_moves : (at next n ≢ at starts (n + 1)) → at next n < at starts (suc n)
  more_moves o =
      let e : at starts (n + 1) ≡ at starts (suc n) = ap (at starts) (add-one n) in
      let u : at next n ≤ at starts (suc n) = s.search.upto n node_in in
      omega (arith, o)

  pub listed : (at next n ≢ at starts (n + 1)) → (d : Move) → slice_get moves (at next n) ≡ Some (get_or moves (at next n) d)
  listed o d = slice_get-get_or moves (at next n) d (let m : at next n < at starts (suc n) = more_moves o in let l : at starts (suc n) ≤ length moves = s.table.within n node_in in omega arith)

  pub leads_from : (at next n ≢ at starts (n + 1)) → (d : Move) → (get_or moves (at next n) d).from ≡ n
  leads_from o d = s.table.own n (at next n) (get_or moves (at next n) d) node_in (s.search.from n node_in) (more_moves o) (listed o d)

  pub leads_below : (at next n ≢ at starts (n + 1)) → (d : Move) → (get_or moves (at next n) d).to < count
  leads_below o d = (s.table.points (at next n) (get_or moves (at next n) d) (listed o d)).1

  is_free_to : (at next n ≢ at starts (n + 1)) → (d : Move) → IsFreeAt (get_or moves (at next n) d) b → IsFree moves b n (get_or moves (at next n) d).to
  is_free_to o d f = record { place = at next n; made = get_or moves (at next n) d; listed = listed o d; from = leads_from o d; to = refl; free = f.free; low = f.low; high = f.high }

  -- all moves of the last point are seen
  pub arm_back : at next n ≡ at starts (n + 1) → (shorter : List ℕ) → path ≡ shorter ++ at path (length path - 1) ∷ [] → Rounding moves starts count b root color next shorter × (length path ≡ suc (length shorter))
  arm_back all shorter is =
      let is_n : path ≡ shorter ++ n ∷ [] = is ∙ ap (λ (y : ℕ). shorter ++ y ∷ []) (sym s.top) in
      (back shorter (subst (λ (l : List ℕ). Rounding moves starts count b root color next l) is_n s.search) (all ∙ ap (at starts) (add-one n)), ap length is_n ∙ long_one shorter n)
    where
      back : (shorter : List ℕ) → Rounding moves starts count b root color next (shorter ++ n ∷ []) → at next n ≡ at starts (suc n) → Rounding moves starts count b root color next shorter
      back shorter r all = record {
        long_color = r.long_color;
        long_next = r.long_next;
        from = r.from;
        upto = r.upto;
        seen = r.seen;
        done = λ x hx pos. elim (r.done x hx pos) [
          | inl q ↦ elim (cases_lt q.0 (length shorter)) [
            | inl lt ↦ inl (q.0, lt, sym (front_at shorter n q.0 lt) ∙ q.2)
            | inr ge ↦ (
                let last : q.0 ≡ length shorter = omega (arith, q.1, long_one shorter n) in
                let same : x ≡ n = sym q.2 ∙ (ap (at (shorter ++ n ∷ [])) last ∙ last_at shorter n) in
                inr (ap (at next) same ∙ all ∙ ap (λ (y : ℕ). at starts (suc y)) (sym same)))
          ]
          | inr e ↦ inr e
        ];
        path_in = λ i hi. subst (λ (y : ℕ). y < count) (front_at shorter n i hi) (r.path_in i (omega (arith, long_one shorter n)));
        links = λ i hi. subst (λ (y : ℕ). IsFree moves b y (at shorter (suc i))) (front_at shorter n i (omega arith))
            (subst (λ (y : ℕ). IsFree moves b (at (shorter ++ n ∷ []) i) y) (front_at shorter n (suc i) hi) (r.links i (omega (arith, long_one shorter n))));
        first = λ h. sym (front_at shorter n 0 h) ∙ r.first (omega (arith, long_one shorter n));
        met = r.met;
      }

  -- the next move leads nowhere new
  pub arm_pass : (at next n ≢ at starts (n + 1)) → (d : Move) → (IsFreeAt (get_or moves (at next n) d) b → (0 < at color (get_or moves (at next n) d).to) × ((get_or moves (at next n) d).to ≢ root)) →
      Rounding moves starts count b root color (set next n (at next n + 1)) path × (steps_left starts color (set next n (at next n + 1)) count < steps_left starts color next count)
  arm_pass o d ends = pass (get_or moves (at next n) d) (listed o d) (more_moves o) ends (set next n (at next n + 1)) (set_changes next n (at next n + 1) (omega (arith, node_in, s.search.long_next)))
    where
      pass : (m : Move) → slice_get moves (at next n) ≡ Some m → at next n < at starts (suc n) → (IsFreeAt m b → (0 < at color m.to) × (m.to ≢ root)) → (next' : List ℕ) → Changes next next' n (at next n + 1) →
          Rounding moves starts count b root color next' path × (steps_left starts color next' count < steps_left starts color next count)
      pass m l more ends next' step = (
        record {
          long_color = s.search.long_color;
          long_next = rw step.0 s.search.long_next;
          from = λ x hx. elim (cases_eq x n) [
            | inl e ↦ (let w : at next' x ≡ at next n + 1 = ap (at next') e ∙ step.1 in let f : at starts x ≤ at next x = s.search.from x hx in let g : at next x ≡ at next n = ap (at next) e in omega arith)
            | inr p ↦ subst (λ (y : ℕ). at starts x ≤ y) (sym (step.2 x p)) (s.search.from x hx)
          ];
          upto = λ x hx. elim (cases_eq x n) [
            | inl e ↦ (let w : at next' x ≡ at next n + 1 = ap (at next') e ∙ step.1 in let g : at starts (suc x) ≡ at starts (suc n) = ap (λ (y : ℕ). at starts (suc y)) e in omega arith)
            | inr p ↦ subst (λ (y : ℕ). y ≤ at starts (suc x)) (sym (step.2 x p)) (s.search.upto x hx)
          ];
          seen = λ x k m' hx lo hi l' f. elim (cases_eq x n) [
            | inl e ↦ elim (cases_eq k (at next n)) [
              | inl same ↦ (
                  let it : m ≡ m' = some_same m m' (sym (subst (λ (i : ℕ). slice_get moves i ≡ Some m) (sym same) l) ∙ l') in
                  subst (λ (y : Move). (0 < at color y.to) × (y.to ≢ root)) it (ends (subst (λ (y : Move). IsFreeAt y b) (sym it) f)))
              | inr p ↦ (
                  let w : at next' x ≡ at next n + 1 = ap (at next') e ∙ step.1 in
                  let g : at next x ≡ at next n = ap (at next) e in
                  s.search.seen x k m' hx lo (omega arith) l' f)
            ]
            | inr p ↦ s.search.seen x k m' hx lo (subst (λ (y : ℕ). k < y) (step.2 x p) hi) l' f
          ];
          done = λ x hx pos. elim (s.search.done x hx pos) [
            | inl q ↦ inl q
            | inr e ↦ inr (step.2 x (λ same. (let g : at next x ≡ at next n = ap (at next) same in let w : at starts (suc x) ≡ at starts (suc n) = ap (λ (y : ℕ). at starts (suc y)) same in omega arith)) ∙ e)
          ];
          path_in = s.search.path_in;
          links = s.search.links;
          first = s.search.first;
          met = s.search.met;
        },
        steps_round starts count color next next' n node_in more step,
      )

  -- the next move leads to a point that was not met
  pub arm_meet : (at next n ≢ at starts (n + 1)) → (d : Move) (r : Bool) → (IsTrue r ↔ IsFreeAt (get_or moves (at next n) d) b) → r ≡ true → at color (get_or moves (at next n) d).to ≡ 0 →
      (longer : List ℕ) → longer ≡ path ++ (get_or moves (at next n) d).to ∷ [] →
      Rounding moves starts count b root (set color (get_or moves (at next n) d).to 1) next longer
      × (steps_left starts (set color (get_or moves (at next n) d).to 1) next count < steps_left starts color next count) × (length longer ≡ suc (length path))
  arm_meet o d r says holds white longer is =
      meet (get_or moves (at next n) d).to (leads_below o d) (is_free_to o d (says.0 holds)) white longer is (set color (get_or moves (at next n) d).to 1)
      (set_changes color (get_or moves (at next n) d).to 1 (omega (arith, leads_below o d, s.search.long_color)))
    where
      meet : (t : ℕ) → t < count → IsFree moves b n t → at color t ≡ 0 → (longer : List ℕ) → longer ≡ path ++ t ∷ [] → (color' : List ℕ) → Changes color color' t 1 →
          Rounding moves starts count b root color' next longer × (steps_left starts color' next count < steps_left starts color next count) × (length longer ≡ suc (length path))
      meet t below free white longer is color' step = (
        subst (λ (l : List ℕ). Rounding moves starts count b root color' next l) (sym is) (record {
          long_color = step.0 ∙ s.search.long_color;
          long_next = s.search.long_next;
          from = s.search.from;
          upto = s.search.upto;
          seen = λ x k m hx lo hi l f. (let q = s.search.seen x k m hx lo hi l f in (still m.to q.0, q.1));
          done = λ x hx pos. elim (cases_eq x t) [
            | inl e ↦ inl (length path, omega (arith, long_one path t), last_at path t ∙ sym e)
            | inr p ↦ elim (s.search.done x hx (subst (λ (y : ℕ). 0 < y) (step.2 x p) pos)) [
              | inl q ↦ inl (q.0, omega (arith, q.1, long_one path t), front_at path t q.0 q.1 ∙ q.2)
              | inr e ↦ inr e
            ]
          ];
          path_in = λ i hi. elim (cases_lt i (length path)) [
            | inl lt ↦ subst (λ (y : ℕ). y < count) (sym (front_at path t i lt)) (s.search.path_in i lt)
            | inr ge ↦ subst (λ (y : ℕ). y < count) (sym (last i hi ge)) below
          ];
          links = λ i hi. elim (cases_lt (suc i) (length path)) [
            | inl lt ↦ subst (λ (y : ℕ). IsFree moves b y (at (path ++ t ∷ []) (suc i))) (sym (front_at path t i (omega arith)))
                (subst (λ (y : ℕ). IsFree moves b (at path i) y) (sym (front_at path t (suc i) lt)) (s.search.links i lt))
            | inr ge ↦ (
                let at_top : length path - 1 ≡ i = omega (arith, long_one path t) in
                subst (λ (y : ℕ). IsFree moves b y (at (path ++ t ∷ []) (suc i))) (sym (front_at path t i (omega (arith, long_one path t))))
                (subst (λ (y : ℕ). IsFree moves b (at path i) y) (sym (last (suc i) hi ge)) (subst (λ (y : ℕ). IsFree moves b y t) (s.top ∙ ap (at path) at_top) free)))
          ];
          first = λ h. front_at path t 0 s.some ∙ s.search.first s.some;
          met = still root s.search.met;
        }),
        steps_fall starts color next color' next t count below step.2 (λ x o. refl) (fewer (at starts (suc t) - at next t) (at color t) (at color' t) white step.1),
        ap length is ∙ long_one path t,
      )
        where
          still : (x : ℕ) → 0 < at color x → 0 < at color' x
          still x pos = subst (λ (y : ℕ). 0 < y) (sym (step.2 x (λ same. (let z : at color x ≡ 0 = ap (at color) same ∙ white in omega arith)))) pos

          last : (i : ℕ) → i < length (path ++ t ∷ []) → length path ≤ i → at (path ++ t ∷ []) i ≡ t
          last i hi ge = ap (at (path ++ t ∷ [])) (let e : i ≡ length path = omega (arith, long_one path t) in e) ∙ last_at path t

          fewer : (d c c' : ℕ) → c ≡ 0 → c' ≡ 1 → d + (2 - c') < d + (2 - c)
          fewer d c c' e f = omega arith

  -- the next move leads to the root: the path is a cycle
  pub arm_close : (at next n ≢ at starts (n + 1)) → (d : Move) (r : Bool) → (IsTrue r ↔ IsFreeAt (get_or moves (at next n) d) b) → r ≡ true → (get_or moves (at next n) d).to ≡ root → IsCycle moves b path
  arm_close o d r says holds back = record {
    some = s.some;
    links = s.search.links;
    closes = subst (λ (y : ℕ). IsFree moves b (at path (length path - 1)) y) (back ∙ sym (s.search.first s.some)) (subst (λ (y : ℕ). IsFree moves b y (get_or moves (at next n) d).to) s.top (is_free_to o d (says.0 holds)));
  }

-- nothing is on the path: no way leads back
pub no_way_back : (moves : List Move) (starts : List ℕ) (count b root : ℕ) (color next : List ℕ) → IsTable moves starts count → Rounding moves starts count b root color next [] → IsOnNoCycle moves b root
no_way_back moves starts count b root color next t r n w = no_way n root (in_range w) r.met w
  where
    in_range : {x y k : ℕ} → FreeWay moves b x (suc k) y → x < count
    in_range {x} (onward f rest) = subst (λ (z : ℕ). z < count) f.from (t.points f.place f.made f.listed).0

    ends_of : (x y : ℕ) → x < count → 0 < at color x → IsFree moves b x y → (0 < at color y) × (y ≢ root)
    ends_of x y hx pos f =
        let all : at next x ≡ at starts (suc x) = elim (r.done x hx pos) [ inl q ↦ absurd (omega (arith, q.1)) | inr e ↦ e ] in
        let place : (at starts f.made.from ≤ f.place) × (f.place < at starts (suc f.made.from)) = t.all f.place f.made f.listed in
        subst (λ (z : ℕ). (0 < at color z) × (z ≢ root)) f.to
        (r.seen x f.place f.made hx (subst (λ (z : ℕ). at starts z ≤ f.place) f.from place.0) (subst (λ (z : ℕ). f.place < z) (sym all) (subst (λ (z : ℕ). f.place < at starts (suc z)) f.from place.1)) f.listed
        (record { free = f.free; low = f.low; high = f.high }))

    no_way : (k x : ℕ) → x < count → 0 < at color x → FreeWay moves b x (suc k) root → ⊥
    no_way zero x hx pos (onward {next = y} f stay) = (ends_of x y hx pos f).1 refl
    no_way (suc k) x hx pos (onward {next = y} f rest) = no_way k y (in_range rest) (ends_of x y hx pos f).0 rest

pub less_twice : (a b l : ℕ) → a < b → a * 2 + l < b * 2 + l
less_twice a b l h = omega arith

pub less_more : (a b l k : ℕ) → a < b → l ≡ suc k → a * 2 + l < b * 2 + k
less_more a b l k h e = omega arith
