-- The standings of spans found so far, and the points whose standings have still to be passed on.
use Rattle.std.proofs.Common.{◌≡◌, ◌≢◌, ℕ, suc, ◌+◌, ◌*◌, ◌/◌, ◌≤◌, ◌<◌, ◌⊎◌, Bool, true, false, cond, eqb, List, [], ◌∷◌, ◌++◌, Some, length, get_or, set, subst, refl, sym, ◌∙◌, ap, arith, inl, inr, length-set, length-append}
use Rattle.std.specs.Prelude.{slice_get}
use Rattle.std.specs.List.{All, Contains}
use Rattle.std.proofs.lemmas.Bool.{cases_eq, eqb-true, eq-eqb}
use Rattle.std.specs.Int.{bit_at}
use Rattle.std.proofs.lemmas.List.{get_or-set_same, get_or-set_other}
use Rattle.std.proofs.lemmas.List.Elements.{All-append, Contains-append_left, Contains-append_right, Contains-append_cases}
use Rattle.pp_flow.specs.declared.moves.Move.{Move}
use Rattle.pp_flow.specs.declared.moves.Act.{Act}
use Rattle.pp_flow.specs.declared.moves.Act.TheVariants.{Goes, Opens, Closes, Fails}
use Rattle.pp_flow.specs.steps.Bits.{Has, has_low, has_pair}
use Rattle.pp_flow.specs.Spans.{leads, act_at, MayStand, at_entry, along, HaveSpans, TellsOpen}
use Rattle.pp_flow.specs.steps.Spans.{IsSpanTable, PassesOn, SpanSteps, TellsMasks}
use Rattle.pp_flow.specs.steps.Spread.{Grows}
use Rattle.pp_flow.specs.steps.Table.{IsTable}
use Rattle.pp_flow.proofs.SearchLemmas.{long_one, last_at, front_at}
use Rattle.pp_flow.proofs.SpreadLemmas.{not_both, true_or_false}
use Rattle.pp_flow.proofs.WorkLemmas.{Keeps, waits_at, unset, unset-le, unset_falls, Contains-one, Contains-none, All-one}

-- what a point makes of a standing is one
leads_small : (act : Act) (b : ℕ) → ((s : ℕ) → (act ≡ Opens s) ⊎ (act ≡ Closes s) → s < 32) → b < 64 → leads act b < 64
leads_small Goes b h n = n
leads_small (Opens s) b h n = pick (eqb (b / 2) s) (h s (inl refl))
  where
    pick : (t : Bool) → s < 32 → cond t (s * 2 + 1) b < 64
    pick true l = omega arith
    pick false l = n
leads_small (Closes s) b h n = pick (eqb (b / 2) s) (h s (inr refl))
  where
    pick : (t : Bool) → s < 32 → cond t (s * 2) b < 64
    pick true l = omega arith
    pick false l = n
leads_small Fails b h n = n

pub act_small : (acts : List Act) (x b : ℕ) → HaveSpans acts → b < 64 → leads (act_at acts x) b < 64
act_small acts x b h n = leads_small (act_at acts x) b (h x) n

-- the standings at the beginning of an edge are passed on
pub record Carried (acts : List Act) (words : List ℕ) (m : Move) : Type 0 where
  pub all : (a : ℕ) → a < 64 → Has words m.from a → Has words m.to (leads (act_at acts m.from) a)

abbrev pub Carries : List Move → List Act → List ℕ → ℕ → Type 0
Carries moves acts words x = (k : ℕ) (m : Move) → slice_get moves k ≡ Some m → m.from ≡ x → Carried acts words m

pub record SpanWork (moves : List Move) (acts : List Act) (entry count : ℕ) (words : List ℕ) (waiting : List Bool) (stack : List ℕ) : Type 0 where
  pub long : length words ≡ count * 4
  pub flags : length waiting ≡ count
  pub sound : (x b : ℕ) → b < 256 → Has words x b → MayStand moves acts entry b x
  pub start : (s : ℕ) → s < 32 → Has words entry (s * 2)
  pub settled : (x : ℕ) → waits_at waiting x ≡ false → Carries moves acts words x
  pub waits : (x : ℕ) → waits_at waiting x ≡ true → Contains stack x
  pub within : All (λ x. x < count) stack

-- the same while the standings of n are passed on, which is done along its moves before place k
pub record SpanSettling (moves : List Move) (acts : List Act) (starts : List ℕ) (entry count n k : ℕ) (words : List ℕ) (waiting : List Bool) (stack : List ℕ) : Type 0 where
  pub long : length words ≡ count * 4
  pub flags : length waiting ≡ count
  pub sound : (x b : ℕ) → b < 256 → Has words x b → MayStand moves acts entry b x
  pub start : (s : ℕ) → s < 32 → Has words entry (s * 2)
  pub settled : (x : ℕ) → x ≢ n → waits_at waiting x ≡ false → Carries moves acts words x
  pub here : waits_at waiting n ≡ false → (j : ℕ) (m : Move) → get_or starts n 0 ≤ j → j < k → slice_get moves j ≡ Some m → m.from ≡ n → Carried acts words m
  pub waits : (x : ℕ) → waits_at waiting x ≡ true → Contains stack x
  pub within : All (λ x. x < count) stack

-- at first the entry waits
pub span_work_first : (moves : List Move) (acts : List Act) (entry count : ℕ) (old words : List ℕ) (waiting : List Bool) →
    ((x : ℕ) → waits_at waiting x ≡ false) → length old ≡ count * 4 → length waiting ≡ count → entry < count → length words ≡ length old →
    ((x b : ℕ) → b < 256 → Has words x b → (x ≡ entry) × ((s : ℕ) × (s < 32) × (b ≡ s * 2))) → ((s : ℕ) → s < 32 → Has words entry (s * 2)) →
    SpanWork moves acts entry count words (set waiting entry true) (entry ∷ [])
span_work_first moves acts entry count old words waiting down long flags h same only all = record {
  long = same ∙ long;
  flags = rw length-set flags;
  sound = λ x b n p. (let q = only x b n p in subst (λ (y : ℕ). MayStand moves acts entry b y) (sym q.0) (subst (λ (y : ℕ). MayStand moves acts entry y entry) (sym q.1.2) (at_entry q.1.1)));
  start = all;
  settled = λ x f k m l e. record { all = λ a n p. absurd (apart m x f e (only m.from a (omega arith) p).0) };
  waits = λ x f. elim (cases_eq x entry) [
    | inl e ↦ (0, omega arith, sym e)
    | inr o ↦ absurd (not_both _ f (get_or-set_other waiting entry x true false o ∙ down x))
  ];
  within = All-one entry count h;
}
  where
    apart : (m : Move) (x : ℕ) → waits_at (set waiting entry true) x ≡ false → m.from ≡ x → m.from ≢ entry
    apart m x f e same = not_both _ (get_or-set_same waiting entry true false (rw flags h)) (ap (λ (y : ℕ). waits_at (set waiting entry true) y) (sym same ∙ e) ∙ f)

-- n was taken from the stack
pub span_settling_first : (moves : List Move) (acts : List Act) (starts : List ℕ) (entry count n : ℕ) (words : List ℕ) (waiting : List Bool) (stack : List ℕ) →
    n < count → SpanWork moves acts entry count words waiting (stack ++ n ∷ []) → All (λ x. x < count) stack →
    SpanSettling moves acts starts entry count n (get_or starts n 0) words (set waiting n false) stack
span_settling_first moves acts starts entry count n words waiting stack h w within = record {
  long = w.long;
  flags = rw length-set w.flags;
  sound = w.sound;
  start = w.start;
  settled = λ x o f. w.settled x (sym (get_or-set_other waiting n x false false o) ∙ f);
  here = λ f j m lo hi. absurd (omega arith);
  waits = λ x f. elim (cases_eq x n) [
    | inl e ↦ absurd (not_both _ f (ap (λ (y : ℕ). get_or (set waiting n false) y false) e ∙ get_or-set_same waiting n false false (rw w.flags h)))
    | inr o ↦ elim (Contains-append_cases stack (n ∷ []) x (w.waits x (sym (get_or-set_other waiting n x false false o) ∙ f))) [
      | inl a ↦ a
      | inr b ↦ absurd (o (Contains-one n x b))
    ]
  ];
  within = within;
}

-- flags that are down were down, and the pairs there are those that were there
abbrev Quiet : List ℕ → List ℕ → List Bool → List Bool → Type 0
Quiet old new waiting later =
    (x : ℕ) → waits_at later x ≡ false → (waits_at waiting x ≡ false) × ((b : ℕ) → b < 256 → Has new x b → Has old x b)

still_passed : (acts : List Act) (old new : List ℕ) (m : Move) → HaveSpans acts → Keeps old new → ((b : ℕ) → b < 256 → Has new m.from b → Has old m.from b) → Carried acts old m → Carried acts new m
still_passed acts old new m small keeps back p = record {
  all = λ a h here. (let n : leads (act_at acts m.from) a < 64 = act_small acts m.from a small h in keeps m.to (leads (act_at acts m.from) a) (omega arith) (p.all a h (back a (omega arith) here)));
}

-- the pairs of n spread along its move at place k
span_settling_step : (moves : List Move) (acts : List Act) (starts : List ℕ) (entry count n k : ℕ) (m : Move) (old new : List ℕ) (waiting later : List Bool) (stack more : List ℕ) (changed : Bool) → HaveSpans acts →
    SpanSettling moves acts starts entry count n k old waiting stack → slice_get moves k ≡ Some m → m.from ≡ n →
    Grows m.to old new changed → PassesOn (act_at acts m.from) m.from m.to old new → Quiet old new waiting later →
    length later ≡ count → ((x : ℕ) → waits_at later x ≡ true → Contains more x) → All (λ x. x < count) more →
    SpanSettling moves acts starts entry count n (k + 1) new later more
span_settling_step moves acts starts entry count n k m old new waiting later stack more changed small s listed from g spreads quiet flags waits within = record {
  long = g.long ∙ s.long;
  flags = flags;
  sound = λ x b h p. sound x b h p (cases_eq x m.to);
  start = λ s' h. g.keeps entry (s' * 2) (omega arith) (s.start s' h);
  settled = λ x o f j m' l e. still_passed acts old new m' small g.keeps (λ b h p. subst (λ (y : ℕ). Has old y b) (sym e) ((quiet x f).1 b h (subst (λ (y : ℕ). Has new y b) e p))) (s.settled x o (quiet x f).0 j m' l e);
  here = λ f j m' lo hi l e. elim (cases_eq j k) [
    | inl same ↦ (
        let it : m ≡ m' = some_same m m' (sym listed ∙ subst (λ (i : ℕ). slice_get moves i ≡ Some m') same l) in
        subst (λ (y : Move). Carried acts new y) it (passed_now f))
    | inr other ↦ still_passed acts old new m' small g.keeps (λ b h p. subst (λ (y : ℕ). Has old y b) (sym e) ((quiet n f).1 b h (subst (λ (y : ℕ). Has new y b) e p))) (s.here (quiet n f).0 j m' lo (omega arith) l e)
  ];
  waits = waits;
  within = within;
}
  where
    some_same : (a b : Move) → Some a ≡ Some b → a ≡ b
    some_same a b e = cc

    back : waits_at later n ≡ false → (b : ℕ) → b < 256 → Has new m.from b → Has old m.from b
    back f b h p = subst (λ (y : ℕ). Has old y b) (sym from) ((quiet n f).1 b h (subst (λ (y : ℕ). Has new y b) from p))

    passed_now : waits_at later n ≡ false → Carried acts new m
    passed_now f = record { all = λ a h p. spreads.all a h (back f a (omega arith) p) }

    sound : (x b : ℕ) → b < 256 → Has new x b → (x ≡ m.to) ⊎ (x ≢ m.to) → MayStand moves acts entry b x
    sound x b h p (inr o) = s.sound x b h (g.others x b h o p)
    sound x b h p (inl e) = subst (λ (y : ℕ). MayStand moves acts entry b y) (sym e) (elim (spreads.source b h (subst (λ (y : ℕ). Has new y b) e p)) [
      | inl old' ↦ s.sound m.to b h old'
      | inr q ↦ subst (λ (y : ℕ). MayStand moves acts entry y m.to) q.3 (along (s.sound m.from q.0 (omega (arith, q.1)) q.2) (record { place = k; made = m; listed = listed; from = refl; to = refl }))
    ])

-- nothing new, or its end waits already
pub span_settling_kept : (moves : List Move) (acts : List Act) (starts : List ℕ) (entry count n k : ℕ) (m : Move) (old new : List ℕ) (waiting : List Bool) (stack : List ℕ) (changed : Bool) → HaveSpans acts →
    SpanSettling moves acts starts entry count n k old waiting stack → slice_get moves k ≡ Some m → m.from ≡ n →
    Grows m.to old new changed → PassesOn (act_at acts m.from) m.from m.to old new → (changed ≡ false) ⊎ (waits_at waiting m.to ≡ true) →
    SpanSettling moves acts starts entry count n (k + 1) new waiting stack
span_settling_kept moves acts starts entry count n k m old new waiting stack changed small s listed from g spreads why =
    span_settling_step moves acts starts entry count n k m old new waiting waiting stack stack changed small s listed from g spreads
    (λ x f. (
      f,
      λ b h p. elim why [
        | inl same ↦ g.same same x b h p
        | inr there ↦ g.others x b h (λ e. not_both _ there (ap (λ (y : ℕ). waits_at waiting y) (sym e) ∙ f)) p
      ],
    ))
    s.flags s.waits s.within

-- its end waits from now on
pub span_settling_pushed : (moves : List Move) (acts : List Act) (starts : List ℕ) (entry count n k : ℕ) (m : Move) (old new : List ℕ) (waiting : List Bool) (stack : List ℕ) (changed : Bool) → HaveSpans acts →
    SpanSettling moves acts starts entry count n k old waiting stack → slice_get moves k ≡ Some m → m.from ≡ n →
    Grows m.to old new changed → PassesOn (act_at acts m.from) m.from m.to old new → m.to < count → All (λ x. x < count) (stack ++ m.to ∷ []) →
    SpanSettling moves acts starts entry count n (k + 1) new (set waiting m.to true) (stack ++ m.to ∷ [])
span_settling_pushed moves acts starts entry count n k m old new waiting stack changed small s listed from g spreads below within =
    span_settling_step moves acts starts entry count n k m old new waiting (set waiting m.to true) stack (stack ++ m.to ∷ []) changed small s listed from g spreads
    (λ x f. (let o : x ≢ m.to = not_there x f in (sym (get_or-set_other waiting m.to x true false o) ∙ f, λ b h p. g.others x b h o p)))
    (rw length-set s.flags)
    (λ x f. elim (cases_eq x m.to) [
      | inl e ↦ Contains-append_right stack (m.to ∷ []) x (0, omega arith, sym e)
      | inr o ↦ Contains-append_left stack (m.to ∷ []) x (s.waits x (sym (get_or-set_other waiting m.to x true false o) ∙ f))
    ])
    within
  where
    not_there : (x : ℕ) → waits_at (set waiting m.to true) x ≡ false → x ≢ m.to
    not_there x f e = not_both _ (get_or-set_same waiting m.to true false (rw s.flags below)) (ap (λ (y : ℕ). waits_at (set waiting m.to true) y) (sym e) ∙ f)

-- the pairs of n have spread along all of its moves
pub span_settling_last : (moves : List Move) (acts : List Act) (starts : List ℕ) (entry count n : ℕ) (words : List ℕ) (waiting : List Bool) (stack : List ℕ) →
    IsTable moves starts count → SpanSettling moves acts starts entry count n (get_or starts (suc n) 0) words waiting stack →
    SpanWork moves acts entry count words waiting stack
span_settling_last moves acts starts entry count n words waiting stack t s = record {
  long = s.long;
  flags = s.flags;
  sound = s.sound;
  start = s.start;
  settled = λ x f k m l e. elim (cases_eq x n) [
    | inl same ↦ (
        let from : m.from ≡ n = e ∙ same in
        let at : (get_or starts m.from 0 ≤ k) × (k < get_or starts (suc m.from) 0) = t.all k m l in
        s.here (subst (λ (y : ℕ). waits_at waiting y ≡ false) same f) k m
        (subst (λ (y : ℕ). get_or starts y 0 ≤ k) from at.0) (subst (λ (y : ℕ). k < get_or starts (suc y) 0) from at.1) l from)
    | inr o ↦ s.settled x o f k m l e
  ];
  waits = s.waits;
  within = s.within;
}

-- a move's end is a point
pub span_step_settles : (moves : List Move) (acts : List Act) (starts : List ℕ) (entry count n k : ℕ) (m : Move) (old new : List ℕ) (waiting later : List Bool) (stack more : List ℕ) →
    IsTable moves starts count → HaveSpans acts → SpanSettling moves acts starts entry count n k old waiting stack → slice_get moves k ≡ Some m → m.from ≡ n →
    SpanSteps (act_at acts m.from) m.from m.to old new waiting later stack more →
    SpanSettling moves acts starts entry count n (k + 1) new later more
span_step_settles moves acts starts entry count n k m old new waiting later stack more t small s listed from st = elim st.rest [
  | inl kept ↦ subst (λ (l : List Bool). SpanSettling moves acts starts entry count n (k + 1) new l more) (sym kept.1)
      (subst (λ (l : List ℕ). SpanSettling moves acts starts entry count n (k + 1) new waiting l) (sym kept.2)
      (span_settling_kept moves acts starts entry count n k m old new waiting stack st.changed small s listed from st.grows st.passes kept.0))
  | inr pushed ↦ subst (λ (l : List Bool). SpanSettling moves acts starts entry count n (k + 1) new l more) (sym pushed.1)
      (subst (λ (l : List ℕ). SpanSettling moves acts starts entry count n (k + 1) new (set waiting m.to true) l) (sym pushed.2)
      (span_settling_pushed moves acts starts entry count n k m old new waiting stack st.changed small s listed from st.grows st.passes (t.points k m listed).1
      (All-append (λ x. x < count) stack (m.to ∷ []) s.within (All-one m.to count (t.points k m listed).1))))
]

-- and what is left to do does not grow
pub span_step_less : (count : ℕ) (act : Act) (m : Move) (old new : List ℕ) (waiting later : List Bool) (stack more : List ℕ) → m.to < count →
    SpanSteps act m.from m.to old new waiting later stack more → unset new (count * 256) * 2 + length more ≤ unset old (count * 256) * 2 + length stack
span_step_less count act m old new waiting later stack more h st = elim st.rest [
  | inl kept ↦ (
      let le : unset new (count * 256) ≤ unset old (count * 256) = unset-le old new (count * 256) st.grows.keeps in
      let same : length more ≡ length stack = ap length kept.2 in
      omega arith)
  | inr pushed ↦ (
      let lt : unset new (count * 256) < unset old (count * 256) = unset_falls count m.to old new h (subst (λ (b : Bool). Grows m.to old new b) pushed.0 st.grows) in
      let same : length more ≡ length stack + 1 = ap length pushed.2 ∙ length-append stack (m.to ∷ []) in
      omega arith)
]

-- no point waits
pub span_work_done : (moves : List Move) (acts : List Act) (entry count : ℕ) (words : List ℕ) (waiting : List Bool) → HaveSpans acts → SpanWork moves acts entry count words waiting [] → IsSpanTable moves acts entry count words
span_work_done moves acts entry count words waiting small w = record {
  long = w.long;
  exact = λ node b h. (w.sound node b (omega arith), λ r. (found r).1);
}
  where
    down : (x : ℕ) → waits_at waiting x ≡ false
    down x = elim (true_or_false (waits_at waiting x)) [ inl t ↦ absurd (Contains-none x (w.waits x t)) | inr f ↦ f ]

    found : {b x : ℕ} → MayStand moves acts entry b x → (b < 64) × Has words x b
    found (at_entry {s = s} h) = (omega arith, w.start s h)
    found (along {b = b} {node = node} {next = next} r f) =
        (let q = found r in (
          act_small acts node b small q.0,
          subst (λ (y : ℕ). Has words y (leads (act_at acts node) b)) f.to
              (subst (λ (y : ℕ). Has words f.made.to (leads (act_at acts y) b)) f.from
              ((w.settled f.made.from (down f.made.from) f.place f.made f.listed refl).all b q.0 (subst (λ (y : ℕ). Has words y b) (sym f.from) q.1))),
        ))

-- no mask is told yet
pub masks_first : (words : List ℕ) → TellsMasks words 0 []
masks_first words = record { long = refl; exact = λ x s h. absurd (omega arith) }

-- the mask of one more point
pub masks_more : (words : List ℕ) (n bits : ℕ) (masks : List ℕ) → TellsMasks words n masks →
    ((s : ℕ) → s < 32 → has_low bits s ≡ has_pair words n (s * 2 + 1)) → TellsMasks words (n + 1) (masks ++ bits ∷ [])
masks_more words n bits masks t told = record {
  long = (let l : length (masks ++ bits ∷ []) ≡ suc (length masks) = long_one masks bits in omega (arith, t.long));
  exact = λ x s h hs. elim (cases_eq x n) [
    | inl e ↦ (
        let place : get_or (masks ++ bits ∷ []) x 0 ≡ bits = ap (λ (i : ℕ). get_or (masks ++ bits ∷ []) i 0) (e ∙ sym t.long) ∙ last_at masks bits in
        ap (λ (w : ℕ). has_low w s) place ∙ told s hs ∙ ap (λ (y : ℕ). has_pair words y (s * 2 + 1)) (sym e))
    | inr o ↦ ap (λ (w : ℕ). has_low w s) (front_at masks bits x (omega (arith, t.long))) ∙ t.exact x s (omega arith) hs
  ];
}

-- a word's bit as a number and as a test
is_low : (w s : ℕ) → bit_at w s ≡ 1 → has_low w s ≡ true
unfolding has_low
is_low w s e = eq-eqb (bit_at w s) 1 e

low_is : (w s : ℕ) → has_low w s ≡ true → bit_at w s ≡ 1
unfolding has_low
low_is w s e = eqb-true (bit_at w s) 1 e

-- the masks of a table with exactly the standings that there may be
pub masks_tell : (moves : List Move) (acts : List Act) (entry count : ℕ) (words masks : List ℕ) → IsSpanTable moves acts entry count words → TellsMasks words count masks → TellsOpen moves acts entry count masks
masks_tell moves acts entry count words masks table t = record {
  long = t.long;
  exact = λ x s h hs. (
    (λ e. (table.exact x (s * 2 + 1) (omega arith)).0 (sym (t.exact x s h hs) ∙ is_low _ s e)),
    (λ r. low_is _ s (t.exact x s h hs ∙ (table.exact x (s * 2 + 1) (omega arith)).1 r)),
  );
}
