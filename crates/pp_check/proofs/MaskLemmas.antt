-- Masks that tell facts of numbers.
use Rattle.std.proofs.Common.{◌≡◌, ◌≢◌, ◌↔◌, ℕ, zero, suc, ◌^◌, ◌≤◌, ◌<◌, max, ◌⊎◌, inl, inr, List, [], ◌∷◌, length, refl, sym, ap, subst, ◌∙◌, arith, slice_index, bit_or}
use Rattle.std.proofs.lemmas.Bool.{cases_eq}
use Rattle.std.proofs.lemmas.Nat.Bits.{bit_at_or, bit_at-pow_same, bit_at-pow_other, bit_at-zero}
use Rattle.std.specs.Int.{bit_at}
use Rattle.pp_check.proofs.AbsurdLemmas.{either}

-- the lowest n bits of the mask tell of which numbers the fact holds, and no other is 1
record Masks (P : ℕ → Type 0) (n mask : ℕ) : Type 0 where
  exact : (s : ℕ) → s < n → (bit_at mask s ≡ 1) ↔ P s
  above : (s : ℕ) → n ≤ s → bit_at mask s ≡ 0

with_bit : (mask n : ℕ) → bit_at (bit_or mask (2 ^ n)) n ≡ max (bit_at mask n) 1
with_bit mask n = bit_at_or mask (2 ^ n) n ∙ ap (λ (x : ℕ). max (bit_at mask n) x) (bit_at-pow_same n)

without_bit : (mask n s : ℕ) → s ≢ n → bit_at (bit_or mask (2 ^ n)) s ≡ bit_at mask s
without_bit mask n s other = bit_at_or mask (2 ^ n) s ∙ ap (λ (x : ℕ). max (bit_at mask s) x) (bit_at-pow_other n s other) ∙ max_zero (bit_at mask s)
  where
    max_zero : (x : ℕ) → max x 0 ≡ x
    max_zero x = omega arith

more_at : (P : ℕ → Type 0) (n mask s : ℕ) → Masks P n mask → P n → s < suc n → ((s ≡ n) ⊎ (s ≢ n)) → (bit_at (bit_or mask (2 ^ n)) s ≡ 1) ↔ P s
more_at P n mask s is p low (inl same) =
    let one : bit_at (bit_or mask (2 ^ n)) n ≡ 1 = with_bit mask n ∙ ap (λ (x : ℕ). max x 1) (is.above n (omega arith)) in (
      (λ e. subst P (sym same) p),
      (λ q. subst (λ (k : ℕ). bit_at (bit_or mask (2 ^ n)) k ≡ 1) (sym same) one),
    )
more_at P n mask s is p low (inr other) =
    let same = without_bit mask n s other in
    let old = is.exact s (omega arith) in (
      (λ e. old.0 (sym same ∙ e)),
      (λ q. same ∙ old.1 q),
    )

less_at : (P : ℕ → Type 0) (n mask s : ℕ) → Masks P n mask → ¬ (P n) → s < suc n → ((s ≡ n) ⊎ (s ≢ n)) → (bit_at mask s ≡ 1) ↔ P s
less_at P n mask s is fails low (inl same) = (
  (λ e. absurd (zero_one (bit_at mask s) (is.above s (omega arith)) e)),
  (λ q. absurd (fails (subst P same q))),
)
  where
    zero_one : (x : ℕ) → x ≡ 0 → x ≡ 1 → ⊥
    zero_one x e f = omega arith
less_at P n mask s is fails low (inr other) = is.exact s (omega arith)

mask_more : (P : ℕ → Type 0) (n mask : ℕ) → Masks P n mask → P n ⊎ ¬ (P n) → (m : ℕ) × Masks P (suc n) m
mask_more P n mask is (inl p) = (
  bit_or mask (2 ^ n),
  record {
    exact = λ s low. more_at P n mask s is p low (cases_eq s n);
    above = λ s high. without_bit mask n s (λ e. omega arith) ∙ is.above s (omega arith);
  },
)
mask_more P n mask is (inr fails) = (
  mask,
  record {
    exact = λ s low. less_at P n mask s is fails low (cases_eq s n);
    above = λ s high. is.above s (omega arith);
  },
)

mask_of : (P : ℕ → Type 0) (n : ℕ) → ¬ (¬ ((mask : ℕ) × Masks P n mask))
mask_of P zero none = none (0, record { exact = λ s low. absurd (omega arith); above = λ s high. bit_at-zero s })
mask_of P (suc n) none = mask_of P n (λ low. either (P n) (λ d. none (mask_more P n low.0 low.1 d)))

-- a mask for each node, whose bit s tells the fact of the node and s
abbrev pub AreMasks : (ℕ → ℕ → Type 0) → ℕ → List ℕ → Type 0
AreMasks P n masks = (length masks ≡ n) × ((node s : ℕ) → node < n → s < 32 → (bit_at (slice_index masks node) s ≡ 1) ↔ P node s)

behind : (P : ℕ → ℕ → Type 0) (n mask : ℕ) (masks : List ℕ) → Masks (P 0) 32 mask → AreMasks (λ node. P (suc node)) n masks →
    (node s : ℕ) → node < suc n → s < 32 → (bit_at (slice_index (mask ∷ masks) node) s ≡ 1) ↔ P node s
behind P n mask masks first rest zero s below low = first.exact s low
behind P n mask masks first rest (suc node) s below low = rest.1 node s (omega arith) low

pub masks_some : (P : ℕ → ℕ → Type 0) (n : ℕ) → ¬ (¬ ((masks : List ℕ) × AreMasks P n masks))
masks_some P zero none = none ([], (refl, λ node s below low. absurd (omega arith)))
masks_some P (suc n) none = mask_of (P 0) 32 (λ first.
    masks_some (λ node. P (suc node)) n (λ rest. none (first.0 ∷ rest.0, (ap suc rest.1.0, behind P n first.0 rest.0 first.1 rest.1))))
