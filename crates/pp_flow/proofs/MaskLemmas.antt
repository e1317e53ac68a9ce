-- Bits a word at a time.
use Rattle.std.proofs.Common.{◌≡◌, ◌≢◌, ◌↔◌, ℕ, zero, suc, ◌+◌, ◌-◌, ◌*◌, ◌/◌, ◌%◌, ◌^◌, ◌<◌, ◌≤◌, ◌⊎◌, ◌||◌, Bool, true, false, List, length, length-set, get_or, set, bit_and, bit_or, min, max, subst, refl, sym, ◌∙◌, ap, arith, nat_eq, eq-eqb, w64, inl, inr}
use Rattle.std.proofs.lemmas.Bool.{cases_eq, cases_lt, eqb-true, false≢true}
use Rattle.std.proofs.lemmas.List.{get_or-set_same, get_or-set_other}
use Rattle.std.proofs.lemmas.Nat.{one_shl}
use Rattle.std.proofs.Math.Nat.{pow-le-pow_right, div-eq_of_lt}
use Rattle.std.proofs.lemmas.Nat.Bits.{bit_at_and, bit_at_or, bit_at-lt, bit_at-zero, bit_at_mask_below, bit_at_mask_inside, bit_at_mask_above, bit_at_ones, same_from_bits, bit_at-trailing_zeros}
use Rattle.std.specs.Int.{bit_at}
use Rattle.pp_flow.specs.steps.Bits.{has_pair, Has, has_low}
use Rattle.pp_flow.specs.steps.Spread.{Grows}
use Rattle.pp_flow.proofs.SpreadLemmas.{grows_first, grows_twice, true_or_false}

-- a bit is set where it is 1
pub is_low : (w i : ℕ) → bit_at w i ≡ 1 → has_low w i ≡ true
unfolding has_low
is_low w i e = eq-eqb (bit_at w i) 1 e

pub low_is : (w i : ℕ) → has_low w i ≡ true → bit_at w i ≡ 1
unfolding has_low
low_is w i e = eqb-true (bit_at w i) 1 e

-- the bits of a run of ones
pub ones_tell : (first end i : ℕ) → (has_low (2 ^ end - 2 ^ first) i ≡ true) ↔ ((first ≤ i) × (i < end))
ones_tell first end i = (
  (λ e. elim (cases_lt i first) [
    | inl lt ↦ (let z : bit_at (2 ^ end - 2 ^ first) i ≡ 0 = bit_at_mask_below first end i lt in let o : bit_at (2 ^ end - 2 ^ first) i ≡ 1 = low_is _ i e in absurd (omega arith))
    | inr ge ↦ elim (cases_lt i end) [
      | inl lt ↦ (ge, lt)
      | inr past ↦ (let z : bit_at (2 ^ end - 2 ^ first) i ≡ 0 = bit_at_mask_above first end i past in let o : bit_at (2 ^ end - 2 ^ first) i ≡ 1 = low_is _ i e in absurd (omega arith))
    ]
  ]),
  (λ p. is_low _ i (bit_at_mask_inside first end i p.0 p.1)),
)

-- that run as two shifts give it
pub ones_shifted : (first end : ℕ) → first ≤ end → end ≤ 64 → (1 * 2 ^ end % 2 ^ 128) - (1 * 2 ^ first % 2 ^ 128) ≡ 2 ^ end - 2 ^ first
ones_shifted first end h g = both _ _ _ _ (one_shl end 128 (omega arith)) (one_shl first 128 (omega arith))
  where
    both : (a b c d : ℕ) → a ≡ b → c ≡ d → a - c ≡ b - d
    both a b c d e f = cc

pub shifts_rise : (first end : ℕ) → first ≤ end → end ≤ 64 → 1 * 2 ^ first % 2 ^ 128 ≤ 1 * 2 ^ end % 2 ^ 128
shifts_rise first end h g = both _ _ _ _ (one_shl first 128 (omega arith)) (one_shl end 128 (omega arith)) (pow-le-pow_right {n = 2} (omega arith) h)
  where
    both : (a b c d : ℕ) → a ≡ b → c ≡ d → b ≤ d → a ≤ c
    both a b c d e f g = omega arith

-- the bits that two words share
pub and_tells : (a c i : ℕ) → (has_low (bit_and a c) i ≡ true) ↔ ((has_low a i ≡ true) × (has_low c i ≡ true))
and_tells a c i = (
  (λ e. (
      let o : bit_at (bit_and a c) i ≡ 1 = low_is _ i e in
      let m : bit_at (bit_and a c) i ≡ min (bit_at a i) (bit_at c i) = bit_at_and a c i in
      let x : bit_at a i < 2 = bit_at-lt a i in
      let y : bit_at c i < 2 = bit_at-lt c i in
      (is_low a i (omega arith), is_low c i (omega arith)))),
  (λ p. (
      let m : bit_at (bit_and a c) i ≡ min (bit_at a i) (bit_at c i) = bit_at_and a c i in
      let x : bit_at a i ≡ 1 = low_is a i p.0 in
      let y : bit_at c i ≡ 1 = low_is c i p.1 in
      is_low _ i (omega arith))),
)

-- the bits of either word
pub or_from : (a c i : ℕ) → has_low (bit_or a c) i ≡ true → (has_low a i ≡ true) ⊎ (has_low c i ≡ true)
or_from a c i e = elim (cases_eq (bit_at a i) 1) [
  | inl one ↦ inl (is_low a i one)
  | inr o ↦ (
      let is : bit_at (bit_or a c) i ≡ 1 = low_is _ i e in
      let m : bit_at (bit_or a c) i ≡ max (bit_at a i) (bit_at c i) = bit_at_or a c i in
      let x : bit_at a i < 2 = bit_at-lt a i in
      inr (is_low c i (omega arith)))
]

pub or_left : (a c i : ℕ) → has_low a i ≡ true → has_low (bit_or a c) i ≡ true
or_left a c i e = (
    let m : bit_at (bit_or a c) i ≡ max (bit_at a i) (bit_at c i) = bit_at_or a c i in
    let x : bit_at a i ≡ 1 = low_is a i e in
    let y : bit_at c i < 2 = bit_at-lt c i in
    is_low _ i (omega arith))

pub or_right : (a c i : ℕ) → has_low c i ≡ true → has_low (bit_or a c) i ≡ true
or_right a c i e = (
    let m : bit_at (bit_or a c) i ≡ max (bit_at a i) (bit_at c i) = bit_at_or a c i in
    let x : bit_at c i ≡ 1 = low_is c i e in
    let y : bit_at a i < 2 = bit_at-lt a i in
    is_low _ i (omega arith))

-- a number that is not 0 has a bit
pub some_low : (n : ℕ) → n ≢ 0 → n < 2 ^ 64 → (i : ℕ) × (i < 64) × (has_low n i ≡ true)
some_low n o h = (let t = bit_at-trailing_zeros w64 n (omega (arith, o)) h in (_, t.0, is_low n _ t.1))

-- all bits are set
pub all_ones : (i : ℕ) → i < 64 → has_low (2 ^ 64 - 1) i ≡ true
all_ones i h = is_low _ i (bit_at_ones 64 i h)

-- above its 64 bits a word has none
bit_above : (n i : ℕ) → n < 2 ^ 64 → 64 ≤ i → bit_at n i ≡ 0
bit_above n i h past =
    let wide : n < 2 ^ i = lt-le n (2 ^ 64) (2 ^ i) h (pow-le-pow_right {n = 2} (omega arith) past) in
    ap (λ (q : ℕ). q % 2) (div-eq_of_lt wide)
  where
    lt-le : (a b c : ℕ) → a < b → b ≤ c → a < c
    lt-le a b c h g = omega arith

-- two words that differ do so at a bit
differ : (a c k : ℕ) → ((i : ℕ) → i < k → bit_at a i ≡ bit_at c i) ⊎ ((i : ℕ) × (i < k) × (bit_at a i ≢ bit_at c i))
differ a c zero = inl (λ i h. absurd (omega arith))
differ a c (suc k) = elim (differ a c k) [
  | inr d ↦ inr (d.0, omega (arith, d.1), d.2)
  | inl same ↦ elim (cases_eq (bit_at a k) (bit_at c k)) [
    | inr o ↦ inr (k, omega arith, o)
    | inl e ↦ inl (λ i h. elim (cases_eq i k) [
      | inl at_k ↦ subst (λ (j : ℕ). bit_at a j ≡ bit_at c j) (sym at_k) e
      | inr other ↦ same i (omega arith)
    ])
  ]
]

-- the bit of a pair is one of its quarter's word
pub pair_in : (words : List ℕ) (node q b : ℕ) → b / 64 ≡ q → has_pair words node b ≡ has_low (get_or words (node * 4 + q) 0) (b % 64)
unfolding has_pair has_low
pair_in words node q b e = ap (λ (p : ℕ). nat_eq (bit_at (get_or words (node * 4 + p) 0) (b % 64)) 1) e

module _ (words : List ℕ) (to q bits : ℕ) (room : to * 4 + 4 ≤ length words) (quarter : q < 4) where
  -- the table after bits were added to a quarter
  abbrev pub merged : List ℕ
  merged = set words (to * 4 + q) (bit_or (get_or words (to * 4 + q) 0) bits)

  here : (b : ℕ) → b / 64 ≡ q → has_pair merged to b ≡ has_low (bit_or (get_or words (to * 4 + q) 0) bits) (b % 64)
  here b e = pair_in merged to q b e ∙ ap (λ (w : ℕ). has_low w (b % 64)) (get_or-set_same words (to * 4 + q) _ 0 (omega arith))

  elsewhere : (x b : ℕ) → b < 256 → (x ≢ to) ⊎ (b / 64 ≢ q) → has_pair merged x b ≡ has_pair words x b
  elsewhere x b h o = pair_in merged x (b / 64) b refl ∙ ap (λ (w : ℕ). has_low w (b % 64)) (get_or-set_other words (to * 4 + q) (x * 4 + b / 64) _ 0 apart) ∙ sym (pair_in words x (b / 64) b refl)
    where
      apart : x * 4 + b / 64 ≢ to * 4 + q
      apart e = elim o [ inl p ↦ p (omega arith) | inr p ↦ p (omega arith) ]

  pub merged_source : (b : ℕ) → b < 256 → Has merged to b → Has words to b ⊎ ((b / 64 ≡ q) × (has_low bits (b % 64) ≡ true))
  merged_source b h p = elim (cases_eq (b / 64) q) [
    | inl e ↦ elim (or_from _ bits (b % 64) (sym (here b e) ∙ p)) [
      | inl old ↦ inl (pair_in words to q b e ∙ old)
      | inr new ↦ inr (e, new)
    ]
    | inr o ↦ inl (sym (elsewhere to b h (inr o)) ∙ p)
  ]

  pub merged_all : (b : ℕ) → b / 64 ≡ q → has_low bits (b % 64) ≡ true → Has merged to b
  merged_all b e low = here b e ∙ or_right _ bits (b % 64) low

  keeps_all : (x b : ℕ) → b < 256 → Has words x b → Has merged x b
  keeps_all x b h p = elim (cases_eq x to) [
    | inl at_to ↦ subst (λ (y : ℕ). Has merged y b) (sym at_to) (keeps_here b h (subst (λ (y : ℕ). Has words y b) at_to p))
    | inr o ↦ elsewhere x b h (inl o) ∙ p
  ]
    where
      keeps_here : (b : ℕ) → b < 256 → Has words to b → Has merged to b
      keeps_here b h p = elim (cases_eq (b / 64) q) [
        | inl e ↦ here b e ∙ or_left _ bits (b % 64) (sym (pair_in words to q b e) ∙ p)
        | inr o ↦ elsewhere to b h (inr o) ∙ p
      ]

  -- a bit was missing
  pub merged_grows : bits < 2 ^ 64 → bit_or (get_or words (to * 4 + q) 0) bits ≢ get_or words (to * 4 + q) 0 → Grows to words merged true
  merged_grows h o = record {
    long = length-set words (to * 4 + q) _;
    keeps = keeps_all;
    others = λ x b n other p. sym (elsewhere x b n (inl other)) ∙ p;
    same = λ e. absurd (false≢true (sym e));
    more = λ _. elim (differ (bit_or (get_or words (to * 4 + q) 0) bits) (get_or words (to * 4 + q) 0) 64) [
      | inl same ↦ absurd (o (same_from_bits _ _ (λ i. elim (cases_lt i 64) [ inl lt ↦ same i lt | inr past ↦ above i past ])))
      | inr d ↦ new_bit d.0 d.1 d.2
    ];
  }
    where
      above : (i : ℕ) → 64 ≤ i → bit_at (bit_or (get_or words (to * 4 + q) 0) bits) i ≡ bit_at (get_or words (to * 4 + q) 0) i
      above i past =
          let m : bit_at (bit_or (get_or words (to * 4 + q) 0) bits) i ≡ max (bit_at (get_or words (to * 4 + q) 0) i) (bit_at bits i) = bit_at_or _ bits i in
          let z : bit_at bits i ≡ 0 = bit_above bits i h past in
          omega arith

      new_bit : (i : ℕ) → i < 64 → bit_at (bit_or (get_or words (to * 4 + q) 0) bits) i ≢ bit_at (get_or words (to * 4 + q) 0) i → (b : ℕ) × (b < 256) × Has merged to b × (has_pair words to b ≡ false)
      new_bit i lt apart =
          let in_quarter : (q * 64 + i) / 64 ≡ q = omega arith in
          let in_word : (q * 64 + i) % 64 ≡ i = omega arith in
          let m : bit_at (bit_or (get_or words (to * 4 + q) 0) bits) i ≡ max (bit_at (get_or words (to * 4 + q) 0) i) (bit_at bits i) = bit_at_or _ bits i in
          let x : bit_at (get_or words (to * 4 + q) 0) i < 2 = bit_at-lt _ i in
          let y : bit_at bits i < 2 = bit_at-lt _ i in
          let zero' : bit_at (get_or words (to * 4 + q) 0) i ≡ 0 = omega (arith, apart) in
          let one' : bit_at (bit_or (get_or words (to * 4 + q) 0) bits) i ≡ 1 = omega (arith, apart) in (
            q * 64 + i,
            omega arith,
            here (q * 64 + i) in_quarter ∙ ap (has_low _) in_word ∙ is_low _ i one',
            pair_in words to q (q * 64 + i) in_quarter ∙ ap (has_low _) in_word ∙ not_low _ i zero',
          )
        where
          not_low : (w i : ℕ) → bit_at w i ≡ 0 → has_low w i ≡ false
          not_low w i e = elim (true_or_false (has_low w i)) [
            | inl t ↦ (let one : bit_at w i ≡ 1 = low_is w i t in absurd (omega arith))
            | inr f ↦ f
          ]

-- nothing was missing
pub merged_same : (words : List ℕ) (to q bits : ℕ) → bit_or (get_or words (to * 4 + q) 0) bits ≡ get_or words (to * 4 + q) 0 → (b : ℕ) → b / 64 ≡ q → has_low bits (b % 64) ≡ true → Has words to b
merged_same words to q bits is b e low = pair_in words to q b e ∙ ap (λ (w : ℕ). has_low w (b % 64)) (sym is) ∙ or_right _ bits (b % 64) low

-- what the bits of a quarter tell of a point and a range of bytes
abbrev pub TellsQuarter : List ℕ → ℕ → ℕ → ℕ → ℕ → ℕ → Type 0
TellsQuarter words node lo hi q bits = (b : ℕ) → b / 64 ≡ q → (has_low bits (b % 64) ≡ true) ↔ (Has words node b × (lo ≤ b) × (b ≤ hi))

pub quarter_some : (words : List ℕ) (node lo hi q bits : ℕ) → q < 4 → bits ≢ 0 → bits < 2 ^ 64 → TellsQuarter words node lo hi q bits →
    (a : ℕ) × (a < 256) × (lo ≤ a) × (a ≤ hi) × Has words node a
quarter_some words node lo hi q bits quarter some h tells = (let t = some_low bits some h in at_bit t.0 t.1 t.2)
  where
    at_bit : (i : ℕ) → i < 64 → has_low bits i ≡ true → (a : ℕ) × (a < 256) × (lo ≤ a) × (a ≤ hi) × Has words node a
    at_bit i lt low =
        let in_quarter : (q * 64 + i) / 64 ≡ q = omega arith in
        let in_word : (q * 64 + i) % 64 ≡ i = omega arith in
        let p = (tells (q * 64 + i) in_quarter).0 (ap (has_low bits) in_word ∙ low) in
        (q * 64 + i, omega arith, p.1, p.2, p.0)

pub quarter_none : (words : List ℕ) (node lo hi q bits : ℕ) → bits ≡ 0 → TellsQuarter words node lo hi q bits → (b : ℕ) → b / 64 ≡ q → lo ≤ b → b ≤ hi → Has words node b → ⊥
quarter_none words node lo hi q bits none tells b e low high p =
    let one : bit_at bits (b % 64) ≡ 1 = low_is bits (b % 64) ((tells b e).1 (p, low, high)) in
    let z : bit_at bits (b % 64) ≡ 0 = ap (λ (w : ℕ). bit_at w (b % 64)) none ∙ bit_at-zero (b % 64) in
    omega arith

-- the first quarters of a range were passed from a point to another
pub record Passing (from to lo hi q : ℕ) (old new : List ℕ) (changed : Bool) : Type 0 where
  pub grows : Grows to old new changed
  pub source : (b : ℕ) → b < 256 → Has new to b → Has old to b ⊎ ((lo ≤ b) × (b ≤ hi) × Has old from b)
  pub from_kept : (b : ℕ) → b < 256 → Has new from b → Has old from b
  pub all : (b : ℕ) → b / 64 < q → lo ≤ b → b ≤ hi → Has old from b → Has new to b

pub passing_first : (from to lo hi : ℕ) (words : List ℕ) → Passing from to lo hi 0 words words false
passing_first from to lo hi words = record {
  grows = grows_first to words;
  source = λ b h p. inl p;
  from_kept = λ b h p. p;
  all = λ b h. absurd (omega arith);
}

-- one more quarter
pub passing_on : (from to lo hi q bits : ℕ) (old mid new : List ℕ) (changed more : Bool) → hi < 256 → Passing from to lo hi q old mid changed →
    ((b : ℕ) → b / 64 ≡ q → (has_low bits (b % 64) ≡ true) ↔ (Has mid from b × (lo ≤ b) × (b ≤ hi))) → Grows to mid new more →
    ((b : ℕ) → b < 256 → Has new to b → Has mid to b ⊎ ((b / 64 ≡ q) × (has_low bits (b % 64) ≡ true))) →
    ((b : ℕ) → b / 64 ≡ q → has_low bits (b % 64) ≡ true → Has new to b) → Passing from to lo hi (q + 1) old new (changed || more)
passing_on from to lo hi q bits old mid new changed more top p tells grows source all = record {
  grows = grows_twice to old mid new changed more p.grows grows;
  source = λ b h has. elim (source b h has) [
    | inl was ↦ p.source b h was
    | inr t ↦ (let m = (tells b t.0).0 t.1 in inr (m.1, m.2, p.from_kept b h m.0))
  ];
  from_kept = λ b h has. elim (cases_eq from to) [
    | inl e ↦ elim (source b h (subst (λ (y : ℕ). Has new y b) e has)) [
      | inl was ↦ p.from_kept b h (subst (λ (y : ℕ). Has mid y b) (sym e) was)
      | inr t ↦ p.from_kept b h ((tells b t.0).0 t.1).0
    ]
    | inr o ↦ p.from_kept b h (grows.others from b h o has)
  ];
  all = λ b lt low high has. elim (cases_eq (b / 64) q) [
    | inl e ↦ all b e ((tells b e).1 (p.grows.keeps from b (omega arith) has, low, high))
    | inr o ↦ grows.keeps to b (omega arith) (p.all b (omega arith) low high has)
  ];
}
