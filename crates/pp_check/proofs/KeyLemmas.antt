-- Sets of bytes that are gathered from a list, an element at a time.
use Rattle.std.proofs.Common.{subst, ◌≡◌, ◌↔◌, ℕ, ◌+◌, ◌≤◌, ◌<◌, ◌⊎◌, List, Bool, true, false, ◌||◌, ◌≢◌, eq-eqb, sym, ap, ◌∙◌, arith, length, take, get_or, inl, inr}
use Rattle.std.specs.List.{Any}
use Rattle.std.specs.FinSet as set
use Rattle.std.specs.Ordering.{nat_cmp, eq_by_cmp}
use Rattle.std.specs.Cmp.{unsigned_tied}
use Rattle.std.proofs.lemmas.Bool.{cases_eq, ne_eqb}
use Rattle.std.proofs.lemmas.Bool.Decides.{nat_tests}
use Rattle.std.proofs.lemmas.Cmp.{nat_cmp_total}
use Rattle.std.proofs.lemmas.List.{get_or_default, take_all}
use Rattle.pp_bytes.specs.Fold.{folded}
use Rattle.pp_bytes.specs.declared.fold.Fold.{Fold}
use Rattle.pp_bytes.specs.declared.fold.Fold.TheVariants.{Same, Lower}
use Rattle.pp_flow.proofs.ListLemmas.{any-more, any-none}

-- equal numbers compare as equal, and others do not
tied : (q b : ℕ) → q ≡ b → eq_by_cmp nat_cmp q b ≡ true
tied q b e = unsigned_tied q b ∙ eq-eqb q b e

untied : (q b : ℕ) → q ≢ b → eq_by_cmp nat_cmp q b ≡ false
untied q b other = unsigned_tied q b ∙ ne_eqb q b other

before-or-at : (k i : ℕ) → k < i + 1 → (k < i) ⊎ (k ≡ i)
before-or-at k i h = grind arith

-- a set with one byte more has that byte and those that it had
pub has-more : (s : set.FinSet nat_cmp) (b q : ℕ) → (set.contains (set.insert s b) q ≡ true) ↔ ((set.contains s q ≡ true) ⊎ (b ≡ q))
has-more s b q =
    let here = set.contains-insert nat_cmp_total s b q in
    elim (cases_eq q b) [
      | inl same ↦ ((λ _. inr (sym same)), (λ _. here ∙ ap (λ (t : Bool). t || set.contains s q) (tied q b same)))
      | inr other ↦
          let kept : set.contains (set.insert s b) q ≡ set.contains s q = here ∙ ap (λ (t : Bool). t || set.contains s q) (untied q b other) in (
            (λ h. inl (sym kept ∙ h)),
            (λ e. elim e [
              | inl old ↦ kept ∙ old
              | inr new ↦ absurd (other (sym new))
            ]),
          )
    ]

-- the empty set has none
pub has-none : (s : set.FinSet nat_cmp) (q : ℕ) → s ≡ set.empty → set.contains s q ≡ true → ⊥
has-none s q is has = let none = set.contains-empty nat_cmp q in cc (ap (λ (t : set.FinSet nat_cmp). set.contains t q) is)

module _ {X : Type 0} where
  -- the set has exactly the bytes of the elements
  abbrev pub Holds : (P : X → ℕ → Type 0) → set.FinSet nat_cmp → List X → Type 0
  Holds P s xs = (c : ℕ) → c < 256 → (set.contains s c ≡ true) ↔ Any (λ (x : X). P x c) xs

  -- so before the first element
  pub holds-none : (P : X → ℕ → Type 0) (s : set.FinSet nat_cmp) (xs : List X) → s ≡ set.empty → Holds P s (take 0 xs)
  holds-none P s xs is c small = ((λ h. absurd (has-none s c is h)), (λ a. absurd (any-none (λ (x : X). P x c) a)))

  -- behind the last one
  pub holds-all : (P : X → ℕ → Type 0) (s : set.FinSet nat_cmp) (xs : List X) (n : ℕ) → length xs ≤ n → Holds P s (take n xs) → Holds P s xs
  holds-all P s xs n all held = subst (λ (ys : List X). Holds P s ys) (take_all n xs all) held

  -- and with one element more
  pub holds-more : (P : X → ℕ → Type 0) (s t : set.FinSet nat_cmp) (xs : List X) (i : ℕ) (d : X) → i < length xs
      → ((c : ℕ) → c < 256 → (set.contains t c ≡ true) ↔ ((set.contains s c ≡ true) ⊎ P (get_or xs i d) c))
      → Holds P s (take i xs) → Holds P t (take (i + 1) xs)
  holds-more P s t xs i d low step held c small =
      let more = any-more (λ (y : X). P y c) xs i (get_or xs i d) low (get_or_default xs i d (get_or xs i d) low) in (
        (λ h. more.1 (elim ((step c small).0 h) [
          | inl old ↦ inl ((held c small).0 old)
          | inr new ↦ inr new
        ])),
        (λ a. (step c small).1 (elim (more.0 a) [
          | inl old ↦ inl ((held c small).1 old)
          | inr new ↦ inr new
        ])),
      )

  -- that has one byte, which joins the set
  pub holds-added : (P : X → ℕ → Type 0) (s t : set.FinSet nat_cmp) (b : ℕ) (xs : List X) (i : ℕ) (d : X) → t ≡ set.insert s b → i < length xs
      → ((c : ℕ) → P (get_or xs i d) c ↔ (b ≡ c)) → Holds P s (take i xs) → Holds P t (take (i + 1) xs)
  holds-added P s t b xs i d is low only = holds-more P s t xs i d low (λ c small.
      let same : set.contains t c ≡ set.contains (set.insert s b) c = ap (λ (u : set.FinSet nat_cmp). set.contains u c) is in (
        (λ h. elim ((has-more s b c).0 (sym same ∙ h)) [
          | inl old ↦ inl old
          | inr new ↦ inr ((only c).1 new)
        ]),
        (λ e. same ∙ (has-more s b c).1 (elim e [
          | inl old ↦ inl old
          | inr new ↦ inr ((only c).0 new)
        ])),
      ))

  -- that has only bytes of the set
  pub holds-kept : (P : X → ℕ → Type 0) (s t : set.FinSet nat_cmp) (xs : List X) (i : ℕ) (d : X) → t ≡ s → i < length xs
      → ((c : ℕ) → P (get_or xs i d) c → set.contains s c ≡ true) → Holds P s (take i xs) → Holds P t (take (i + 1) xs)
  holds-kept P s t xs i d is low had = holds-more P s t xs i d low (λ c small.
      let same : set.contains t c ≡ set.contains s c = ap (λ (u : set.FinSet nat_cmp). set.contains u c) is in (
        (λ h. inl (sym same ∙ h)),
        (λ e. elim e [
          | inl old ↦ same ∙ old
          | inr new ↦ same ∙ had c new
        ]),
      ))

  -- no element has it, and with one element more that has it not, none has it still
  pub none-more : (P : X → Type 0) (xs : List X) (i : ℕ) (d : X) → i < length xs
      → (P (get_or xs i d) → ⊥) → (Any P (take i xs) → ⊥) → Any P (take (i + 1) xs) → ⊥
  none-more P xs i d low differs none a =
      elim ((any-more P xs i (get_or xs i d) low (get_or_default xs i d (get_or xs i d) low)).0 a) [
        | inl old ↦ none old
        | inr new ↦ differs new
      ]

  -- so behind the last
  pub none-all : (P : X → Type 0) (xs : List X) (n : ℕ) → length xs ≤ n → (Any P (take n xs) → ⊥) → Any P xs → ⊥
  none-all P xs n all none a = none (subst (λ (ys : List X). Any P ys) (sym (take_all n xs all)) a)

-- the set has exactly the bytes below n with a property
abbrev pub HoldsBelow : (P : ℕ → Type 0) → set.FinSet nat_cmp → ℕ → Type 0
HoldsBelow P s n = (c : ℕ) → c < 256 → (set.contains s c ≡ true) ↔ ((c < n) × P c)

-- none is below 0
pub below-none : (P : ℕ → Type 0) (s : set.FinSet nat_cmp) → s ≡ set.empty → HoldsBelow P s 0
below-none P s is c small = ((λ h. absurd (has-none s c is h)), (λ h. absurd (omega (arith, h.0))))

-- the byte at n joins the set where it has the property
pub below-more : (P : ℕ → Type 0) (s t : set.FinSet nat_cmp) (n : ℕ)
    → ((P n × (t ≡ set.insert s n)) ⊎ ((P n → ⊥) × (t ≡ s))) → HoldsBelow P s n → HoldsBelow P t (n + 1)
below-more P s t n (inl (has, is)) held c small =
    let same : set.contains t c ≡ set.contains (set.insert s n) c = ap (λ (u : set.FinSet nat_cmp). set.contains u c) is in (
      (λ h. elim ((has-more s n c).0 (sym same ∙ h)) [
        | inl old ↦ let below = (held c small).0 old in (omega (arith, below.0), below.1)
        | inr new ↦ (omega (arith, new), subst P new has)
      ]),
      (λ h. same ∙ (has-more s n c).1 (elim (before-or-at c n h.0) [
        | inl before ↦ inl ((held c small).1 (before, h.1))
        | inr at ↦ inr (sym at)
      ])),
    )
below-more P s t n (inr (lacks, is)) held c small =
    let same : set.contains t c ≡ set.contains s c = ap (λ (u : set.FinSet nat_cmp). set.contains u c) is in (
      (λ h. let below = (held c small).0 (sym same ∙ h) in (omega (arith, below.0), below.1)),
      (λ h. elim (before-or-at c n h.0) [
        | inl before ↦ same ∙ (held c small).1 (before, h.1)
        | inr at ↦ absurd (lacks (subst P at h.1))
      ]),
    )

-- behind the last byte they are all
pub below-all : (P : ℕ → Type 0) (s : set.FinSet nat_cmp) (n : ℕ) → 256 ≤ n → HoldsBelow P s n → (c : ℕ) → c < 256 → (set.contains s c ≡ true) ↔ P c
below-all P s n all held c small = ((λ h. ((held c small).0 h).1), (λ p. (held c small).1 (omega (arith, all, small), p)))

-- a byte is compared as a byte
pub folded-byte : (fold : Fold) (b : ℕ) → b < 256 → folded fold b < 256
folded-byte Same b small = small
folded-byte Lower b small = lower-byte b small
  where
    lower-byte : (b : ℕ) → b < 256 → folded Lower b < 256
    lower-byte b small = grind (arith, nat_tests)
