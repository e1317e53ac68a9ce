-- The pairs found so far, and the points whose pairs have still to spread.
use Rattle.std.proofs.Common.{◌≡◌, ◌≢◌, ℕ, zero, suc, ◌+◌, ◌*◌, ◌/◌, ◌%◌, ◌≤◌, ◌<◌, ◌⊎◌, Bool, true, false, IsTrue, List, [], ◌∷◌, ◌++◌, Some, length, get_or, set, subst, refl, sym, ◌∙◌, ap, arith, inl, inr}
use Rattle.std.specs.Prelude.{slice_get}
use Rattle.std.specs.List.{All, Contains}
use Rattle.std.proofs.lemmas.Bool.{cases_eq}
use Rattle.std.proofs.lemmas.List.{get_or-set_same, get_or-set_other}
use Rattle.std.proofs.Common.{length-set, length-append}
use Rattle.std.proofs.lemmas.List.Elements.{All-append, All-pop, Contains-append_left, Contains-append_right, Contains-append_cases}
use Rattle.pp_flow.specs.declared.moves.Move.{Move}
use Rattle.pp_flow.specs.steps.Bits.{has_pair, Has}
use Rattle.pp_flow.specs.Flow.{IsReachable, at_entry, by_free, by_onward}
use Rattle.pp_flow.specs.steps.Reach.{IsReachTable}
use Rattle.pp_flow.specs.steps.Spread.{Grows, Spreads, Steps}
use Rattle.pp_flow.specs.steps.Table.{IsTable}
use Rattle.pp_flow.proofs.RankingLemmas.{is_byte}
use Rattle.pp_flow.proofs.SpreadLemmas.{not_both, true_or_false}

abbrev pub missing : Bool → ℕ
missing true = 0
missing false = 1

-- how many of the first p pairs are missing
abbrev pub unset : List ℕ → ℕ → ℕ
unset words zero = 0
unset words (suc p) = missing (has_pair words (p / 256) (p % 256)) + unset words p

abbrev pub Keeps : List ℕ → List ℕ → Type 0
Keeps old new = (x b : ℕ) → b < 256 → Has old x b → Has new x b

missing_le : (a b : Bool) → (a ≡ true → b ≡ true) → missing b ≤ missing a
missing_le true b h = subst (λ (t : Bool). missing t ≤ 0) (sym (h refl)) (omega arith)
missing_le false true h = omega arith
missing_le false false h = omega arith

here_le : (old new : List ℕ) (p : ℕ) → Keeps old new → missing (has_pair new (p / 256) (p % 256)) ≤ missing (has_pair old (p / 256) (p % 256))
here_le old new p h = missing_le _ _ (h (p / 256) (p % 256) (omega arith))

sum_le : (a b x y : ℕ) → a ≤ b → x ≤ y → a + x ≤ b + y
sum_le a b x y h k = omega arith

sum_lt : (a b x y : ℕ) → a ≤ b → x < y → a + x < b + y
sum_lt a b x y h k = omega arith

sum_lt_first : (a b x y : ℕ) → a ≡ 0 → b ≡ 1 → x ≤ y → a + x < b + y
sum_lt_first a b x y h k l = omega arith

pub unset-le : (old new : List ℕ) (p : ℕ) → Keeps old new → unset new p ≤ unset old p
unset-le old new zero h = omega arith
unset-le old new (suc p) h = sum_le _ _ _ _ (here_le old new p h) (unset-le old new p h)

unset-lt_at : (old new : List ℕ) (p q : ℕ) → Keeps old new → has_pair old (q / 256) (q % 256) ≡ false → Has new (q / 256) (q % 256) → (q ≢ p → unset new p < unset old p) →
    (q ≡ p) ⊎ (q ≢ p) → missing (has_pair new (p / 256) (p % 256)) + unset new p < missing (has_pair old (p / 256) (p % 256)) + unset old p
unset-lt_at old new p q h m here rest (inl e) =
    sum_lt_first _ _ _ _
    (ap missing (subst (λ (r : ℕ). Has new (r / 256) (r % 256)) e here))
    (ap missing (subst (λ (r : ℕ). has_pair old (r / 256) (r % 256) ≡ false) e m))
    (unset-le old new p h)
unset-lt_at old new p q h m here rest (inr e) = sum_lt _ _ _ _ (here_le old new p h) (rest e)

pub unset-lt : (old new : List ℕ) (p q : ℕ) → Keeps old new → q < p → has_pair old (q / 256) (q % 256) ≡ false → Has new (q / 256) (q % 256) → unset new p < unset old p
unset-lt old new zero q h n m here = absurd (omega arith)
unset-lt old new (suc p) q h n m here = unset-lt_at old new p q h m here (λ o. unset-lt old new p q h (omega arith) m here) (cases_eq q p)

-- where pairs of a point were added, fewer are missing
pub unset_falls : (count to : ℕ) (old new : List ℕ) → to < count → Grows to old new true → unset new (count * 256) < unset old (count * 256)
unset_falls count to old new h g =
    let p = g.more refl in
    let row : (to * 256 + p.0) / 256 ≡ to = omega (arith, p.1) in
    let byte : (to * 256 + p.0) % 256 ≡ p.0 = omega (arith, p.1) in
    unset-lt old new (count * 256) (to * 256 + p.0) g.keeps (omega (arith, p.1))
    (subst (λ (x : ℕ). has_pair old x ((to * 256 + p.0) % 256) ≡ false) (sym row) (subst (λ (x : ℕ). has_pair old to x ≡ false) (sym byte) p.3))
    (subst (λ (x : ℕ). Has new x ((to * 256 + p.0) % 256)) (sym row) (subst (λ (x : ℕ). Has new to x) (sym byte) p.2))

-- what a move leads to from its pairs is there
pub record Passed (words : List ℕ) (m : Move) : Type 0 where
  pub free : IsTrue m.free → (b : ℕ) → b < 256 → m.lo ≤ b → b ≤ m.hi → Has words m.from b → Has words m.to b
  pub onward : IsTrue m.onward → (a : ℕ) → a < 256 → m.lo ≤ a → a ≤ m.hi → Has words m.from a → (b : ℕ) → b < 256 → Has words m.to b

abbrev pub Settled : List Move → List ℕ → ℕ → Type 0
Settled moves words x = (k : ℕ) (m : Move) → slice_get moves k ≡ Some m → m.from ≡ x → Passed words m

abbrev pub waits_at : List Bool → ℕ → Bool
waits_at waiting x = get_or waiting x false

pub record Work (moves : List Move) (entry count : ℕ) (words : List ℕ) (waiting : List Bool) (stack : List ℕ) : Type 0 where
  pub long : length words ≡ count * 4
  pub flags : length waiting ≡ count
  pub sound : (x b : ℕ) → b < 256 → Has words x b → IsReachable moves entry b x
  pub start : (b : ℕ) → b < 256 → Has words entry b
  pub settled : (x : ℕ) → waits_at waiting x ≡ false → Settled moves words x
  pub waits : (x : ℕ) → waits_at waiting x ≡ true → Contains stack x
  pub within : All (λ x. x < count) stack

-- the same while the pairs of n spread, which have spread along its moves before place k
pub record Settling (moves : List Move) (starts : List ℕ) (entry count n k : ℕ) (words : List ℕ) (waiting : List Bool) (stack : List ℕ) : Type 0 where
  pub long : length words ≡ count * 4
  pub flags : length waiting ≡ count
  pub sound : (x b : ℕ) → b < 256 → Has words x b → IsReachable moves entry b x
  pub start : (b : ℕ) → b < 256 → Has words entry b
  pub settled : (x : ℕ) → x ≢ n → waits_at waiting x ≡ false → Settled moves words x
  pub here : waits_at waiting n ≡ false → (j : ℕ) (m : Move) → get_or starts n 0 ≤ j → j < k → slice_get moves j ≡ Some m → m.from ≡ n → Passed words m
  pub waits : (x : ℕ) → waits_at waiting x ≡ true → Contains stack x
  pub within : All (λ x. x < count) stack

pub Contains-one : {X : Type 0} (x y : X) → Contains (x ∷ []) y → y ≡ x
Contains-one x y c = at c.0 c.1 c.2
  where
    at : (k : ℕ) → k < 1 → get_or (x ∷ []) k y ≡ y → y ≡ x
    at zero h e = sym e
    at (suc k) h e = absurd (omega arith)

pub All-one : (x count : ℕ) → x < count → All (λ y. y < count) (x ∷ [])
All-one x count h zero d n = h
All-one x count h (suc k) d n = absurd (omega arith)

-- at first the entry waits
pub work_first : (moves : List Move) (entry count : ℕ) (old words : List ℕ) (waiting : List Bool) (changed : Bool) →
    ((x b : ℕ) → has_pair old x b ≡ false) → ((x : ℕ) → waits_at waiting x ≡ false) → length old ≡ count * 4 → length waiting ≡ count → entry < count →
    Grows entry old words changed → ((b : ℕ) → b < 256 → Has words entry b) →
    Work moves entry count words (set waiting entry true) (entry ∷ [])
work_first moves entry count old words waiting changed none down long flags h g all = record {
  long = g.long ∙ long;
  flags = rw length-set flags;
  sound = λ x b n p. elim (cases_eq x entry) [
    | inl e ↦ subst (λ (y : ℕ). IsReachable moves entry b y) (sym e) (at_entry n)
    | inr o ↦ absurd (not_both _ (g.others x b n o p) (none x b))
  ];
  start = all;
  settled = λ x f k m l e. record {
    free = λ t b n lo hi p. absurd (not_both _ (g.others m.from b n (apart m x f e) p) (none m.from b));
    onward = λ t a n lo hi p. absurd (not_both _ (g.others m.from a n (apart m x f e) p) (none m.from a));
  };
  waits = λ x f. elim (cases_eq x entry) [
    | inl e ↦ (0, omega arith, sym e)
    | inr o ↦ absurd (not_both _ f (get_or-set_other waiting entry x true false o ∙ down x))
  ];
  within = All-one entry count h;
}
  where
    apart : (m : Move) (x : ℕ) → waits_at (set waiting entry true) x ≡ false → m.from ≡ x → m.from ≢ entry
    apart m x f e same = not_both _ (get_or-set_same waiting entry true false (rw flags h)) (ap (λ (y : ℕ). waits_at (set waiting entry true) y) (sym same ∙ e) ∙ f)

-- n was taken from the stack
pub settling_first : (moves : List Move) (starts : List ℕ) (entry count n : ℕ) (words : List ℕ) (waiting : List Bool) (stack : List ℕ) →
    n < count → Work moves entry count words waiting (stack ++ n ∷ []) → All (λ x. x < count) stack →
    Settling moves starts entry count n (get_or starts n 0) words (set waiting n false) stack
settling_first moves starts entry count n words waiting stack h w within = record {
  long = w.long;
  flags = rw length-set w.flags;
  sound = w.sound;
  start = w.start;
  settled = λ x o f. w.settled x (sym (get_or-set_other waiting n x false false o) ∙ f);
  here = λ f j m lo hi. absurd (omega arith);
  waits = λ x f. elim (cases_eq x n) [
    | inl e ↦ absurd (not_both _ f (ap (λ (y : ℕ). get_or (set waiting n false) y false) e ∙ get_or-set_same waiting n false false (rw w.flags h)))
    | inr o ↦ elim (Contains-append_cases stack (n ∷ []) x (w.waits x (sym (get_or-set_other waiting n x false false o) ∙ f))) [
      | inl a ↦ a
      | inr b ↦ absurd (o (Contains-one n x b))
    ]
  ];
  within = within;
}

-- flags that are down were down, and the pairs there are those that were there
abbrev Quiet : List ℕ → List ℕ → List Bool → List Bool → Type 0
Quiet old new waiting later =
    (x : ℕ) → waits_at later x ≡ false → (waits_at waiting x ≡ false) × ((b : ℕ) → b < 256 → Has new x b → Has old x b)

still_passed : (old new : List ℕ) (m : Move) → Keeps old new → ((b : ℕ) → b < 256 → Has new m.from b → Has old m.from b) → Passed old m → Passed new m
still_passed old new m keeps back p = record {
  free = λ t b h lo hi here. keeps m.to b h (p.free t b h lo hi (back b h here));
  onward = λ t a h lo hi here b hb. keeps m.to b hb (p.onward t a h lo hi (back a h here) b hb);
}

-- the pairs of n spread along its move at place k
settling_step : (moves : List Move) (starts : List ℕ) (entry count n k : ℕ) (m : Move) (old new : List ℕ) (waiting later : List Bool) (stack more : List ℕ) (changed : Bool) →
    Settling moves starts entry count n k old waiting stack → slice_get moves k ≡ Some m → m.from ≡ n →
    Grows m.to old new changed → Spreads m old new → Quiet old new waiting later →
    length later ≡ count → ((x : ℕ) → waits_at later x ≡ true → Contains more x) → All (λ x. x < count) more →
    Settling moves starts entry count n (k + 1) new later more
settling_step moves starts entry count n k m old new waiting later stack more changed s listed from g spreads quiet flags waits within = record {
  long = g.long ∙ s.long;
  flags = flags;
  sound = λ x b h p. sound x b h p (cases_eq x m.to);
  start = λ b h. g.keeps entry b h (s.start b h);
  settled = λ x o f j m' l e. still_passed old new m' g.keeps (λ b h p. subst (λ (y : ℕ). Has old y b) (sym e) ((quiet x f).1 b h (subst (λ (y : ℕ). Has new y b) e p))) (s.settled x o (quiet x f).0 j m' l e);
  here = λ f j m' lo hi l e. elim (cases_eq j k) [
    | inl same ↦ (
        let it : m ≡ m' = some_same m m' (sym listed ∙ subst (λ (i : ℕ). slice_get moves i ≡ Some m') same l) in
        subst (λ (y : Move). Passed new y) it (passed_now f))
    | inr other ↦ still_passed old new m' g.keeps (λ b h p. subst (λ (y : ℕ). Has old y b) (sym e) ((quiet n f).1 b h (subst (λ (y : ℕ). Has new y b) e p))) (s.here (quiet n f).0 j m' lo (omega arith) l e)
  ];
  waits = waits;
  within = within;
}
  where
    some_same : (a b : Move) → Some a ≡ Some b → a ≡ b
    some_same a b e = cc

    back : waits_at later n ≡ false → (b : ℕ) → b < 256 → Has new m.from b → Has old m.from b
    back f b h p = subst (λ (y : ℕ). Has old y b) (sym from) ((quiet n f).1 b h (subst (λ (y : ℕ). Has new y b) from p))

    passed_now : waits_at later n ≡ false → Passed new m
    passed_now f = record {
      free = λ t b h lo hi p. spreads.free t b lo hi (back f b h p);
      onward = λ t a h lo hi p b hb. spreads.onward t a lo hi (back f a h p) b hb;
    }

    sound : (x b : ℕ) → b < 256 → Has new x b → (x ≡ m.to) ⊎ (x ≢ m.to) → IsReachable moves entry b x
    sound x b h p (inr o) = s.sound x b h (g.others x b h o p)
    sound x b h p (inl e) = subst (λ (y : ℕ). IsReachable moves entry b y) (sym e) (elim (spreads.source b h (subst (λ (y : ℕ). Has new y b) e p)) [
      | inl old' ↦ s.sound m.to b h old'
      | inr made ↦ elim made [
        | inl f ↦ by_free (s.sound m.from b h f.3) (record { place = k; made = m; listed = listed; from = refl; to = refl; free = f.0; low = f.1; high = f.2 })
        | inr o ↦ by_onward h (s.sound m.from o.1 o.2 o.5) (record { place = k; made = m; listed = listed; from = refl; to = refl; onward = o.0; low = o.3; high = o.4 })
      ]
    ])

-- nothing new, or its end waits already
pub settling_kept : (moves : List Move) (starts : List ℕ) (entry count n k : ℕ) (m : Move) (old new : List ℕ) (waiting : List Bool) (stack : List ℕ) (changed : Bool) →
    Settling moves starts entry count n k old waiting stack → slice_get moves k ≡ Some m → m.from ≡ n →
    Grows m.to old new changed → Spreads m old new → (changed ≡ false) ⊎ (waits_at waiting m.to ≡ true) →
    Settling moves starts entry count n (k + 1) new waiting stack
settling_kept moves starts entry count n k m old new waiting stack changed s listed from g spreads why =
    settling_step moves starts entry count n k m old new waiting waiting stack stack changed s listed from g spreads
    (λ x f. (
      f,
      λ b h p. elim why [
        | inl same ↦ g.same same x b h p
        | inr there ↦ g.others x b h (λ e. not_both _ there (ap (λ (y : ℕ). waits_at waiting y) (sym e) ∙ f)) p
      ],
    ))
    s.flags s.waits s.within

-- its end waits from now on
pub settling_pushed : (moves : List Move) (starts : List ℕ) (entry count n k : ℕ) (m : Move) (old new : List ℕ) (waiting : List Bool) (stack : List ℕ) (changed : Bool) →
    Settling moves starts entry count n k old waiting stack → slice_get moves k ≡ Some m → m.from ≡ n →
    Grows m.to old new changed → Spreads m old new → m.to < count → All (λ x. x < count) (stack ++ m.to ∷ []) →
    Settling moves starts entry count n (k + 1) new (set waiting m.to true) (stack ++ m.to ∷ [])
settling_pushed moves starts entry count n k m old new waiting stack changed s listed from g spreads below within =
    settling_step moves starts entry count n k m old new waiting (set waiting m.to true) stack (stack ++ m.to ∷ []) changed s listed from g spreads
    (λ x f. (let o : x ≢ m.to = not_there x f in (sym (get_or-set_other waiting m.to x true false o) ∙ f, λ b h p. g.others x b h o p)))
    (rw length-set s.flags)
    (λ x f. elim (cases_eq x m.to) [
      | inl e ↦ Contains-append_right stack (m.to ∷ []) x (0, omega arith, sym e)
      | inr o ↦ Contains-append_left stack (m.to ∷ []) x (s.waits x (sym (get_or-set_other waiting m.to x true false o) ∙ f))
    ])
    within
  where
    not_there : (x : ℕ) → waits_at (set waiting m.to true) x ≡ false → x ≢ m.to
    not_there x f e = not_both _ (get_or-set_same waiting m.to true false (rw s.flags below)) (ap (λ (y : ℕ). waits_at (set waiting m.to true) y) (sym e) ∙ f)

-- the pairs of n have spread along all of its moves
pub settling_last : (moves : List Move) (starts : List ℕ) (entry count n : ℕ) (words : List ℕ) (waiting : List Bool) (stack : List ℕ) →
    IsTable moves starts count → Settling moves starts entry count n (get_or starts (suc n) 0) words waiting stack →
    Work moves entry count words waiting stack
settling_last moves starts entry count n words waiting stack t s = record {
  long = s.long;
  flags = s.flags;
  sound = s.sound;
  start = s.start;
  settled = λ x f k m l e. elim (cases_eq x n) [
    | inl same ↦ (
        let from : m.from ≡ n = e ∙ same in
        let at : (get_or starts m.from 0 ≤ k) × (k < get_or starts (suc m.from) 0) = t.all k m l in
        s.here (subst (λ (y : ℕ). waits_at waiting y ≡ false) same f) k m
        (subst (λ (y : ℕ). get_or starts y 0 ≤ k) from at.0) (subst (λ (y : ℕ). k < get_or starts (suc y) 0) from at.1) l from)
    | inr o ↦ s.settled x o f k m l e
  ];
  waits = s.waits;
  within = s.within;
}

pub Contains-none : {X : Type 0} (x : X) → Contains [] x → ⊥
Contains-none x c = at c.0 c.1
  where
    at : (k : ℕ) → k < 0 → ⊥
    at k h = absurd (omega arith)

-- no point waits
pub work_done : (moves : List Move) (entry count : ℕ) (words : List ℕ) (waiting : List Bool) → Work moves entry count words waiting [] → IsReachTable moves entry count words
work_done moves entry count words waiting w = record {
  long = w.long;
  exact = λ node b h. (w.sound node b h, λ r. found r);
}
  where
    down : (x : ℕ) → waits_at waiting x ≡ false
    down x = elim (true_or_false (waits_at waiting x)) [ inl t ↦ absurd (Contains-none x (w.waits x t)) | inr f ↦ f ]

    found : {b x : ℕ} → IsReachable moves entry b x → Has words x b
    found {b} (at_entry h) = w.start b h
    found {b} {x} (by_free {node = node} r f) =
        subst (λ (y : ℕ). Has words y b) f.to ((w.settled f.made.from (down f.made.from) f.place f.made f.listed refl).free f.free b (is_byte moves entry b node r) f.low f.high (subst (λ (y : ℕ). Has words y b) (sym f.from) (found r)))
    found {b} {x} (by_onward {a = a} {node = node} h r f) =
        subst (λ (y : ℕ). Has words y b) f.to ((w.settled f.made.from (down f.made.from) f.place f.made f.listed refl).onward f.onward a (is_byte moves entry a node r) f.low f.high (subst (λ (y : ℕ). Has words y a) (sym f.from) (found r)) b h)

-- a move's end is a point
pub step_settles : (moves : List Move) (starts : List ℕ) (entry count n k : ℕ) (m : Move) (old new : List ℕ) (waiting later : List Bool) (stack more : List ℕ) →
    IsTable moves starts count → Settling moves starts entry count n k old waiting stack → slice_get moves k ≡ Some m → m.from ≡ n →
    Steps m old new waiting later stack more →
    Settling moves starts entry count n (k + 1) new later more
step_settles moves starts entry count n k m old new waiting later stack more t s listed from st = elim st.rest [
  | inl kept ↦ subst (λ (l : List Bool). Settling moves starts entry count n (k + 1) new l more) (sym kept.1)
      (subst (λ (l : List ℕ). Settling moves starts entry count n (k + 1) new waiting l) (sym kept.2)
      (settling_kept moves starts entry count n k m old new waiting stack st.changed s listed from st.grows st.spreads kept.0))
  | inr pushed ↦ subst (λ (l : List Bool). Settling moves starts entry count n (k + 1) new l more) (sym pushed.1)
      (subst (λ (l : List ℕ). Settling moves starts entry count n (k + 1) new (set waiting m.to true) l) (sym pushed.2)
      (settling_pushed moves starts entry count n k m old new waiting stack st.changed s listed from st.grows st.spreads (t.points k m listed).1
      (All-append (λ x. x < count) stack (m.to ∷ []) s.within (All-one m.to count (t.points k m listed).1))))
]

-- and what is left to do does not grow
pub step_less : (count : ℕ) (m : Move) (old new : List ℕ) (waiting later : List Bool) (stack more : List ℕ) → m.to < count →
    Steps m old new waiting later stack more → unset new (count * 256) * 2 + length more ≤ unset old (count * 256) * 2 + length stack
step_less count m old new waiting later stack more h st = elim st.rest [
  | inl kept ↦ (
      let le : unset new (count * 256) ≤ unset old (count * 256) = unset-le old new (count * 256) st.grows.keeps in
      let same : length more ≡ length stack = ap length kept.2 in
      omega arith)
  | inr pushed ↦ (
      let lt : unset new (count * 256) < unset old (count * 256) = unset_falls count m.to old new h (subst (λ (b : Bool). Grows m.to old new b) pushed.0 st.grows) in
      let same : length more ≡ length stack + 1 = ap length pushed.2 ∙ length-append stack (m.to ∷ []) in
      omega arith)
]

pub All-append_left : (count : ℕ) (xs : List ℕ) (y : ℕ) → All (λ x. x < count) (xs ++ y ∷ []) → All (λ x. x < count) xs × (y < count)
All-append_left count xs y h =
    let both = All-pop (λ (x : ℕ). x < count) (xs ++ y ∷ []) xs (Some y) refl h in
    (both.0, both.1)

pub same_end : (k end next : ℕ) → end ≡ next → k ≤ end → end ≤ k → k ≡ next
same_end k end next e h g = omega arith

pub nothing : {X : Type 0} (xs : List X) → length xs ≡ 0 → xs ≡ []
nothing [] e = refl
nothing (x ∷ xs) e = absurd (omega arith)
