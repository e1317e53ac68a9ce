-- What cannot fail: where no test decides, that something is not there can still be absurd.
use Rattle.std.proofs.Common.{◌≡◌, ℕ, zero, suc, ◌≤◌, ◌<◌, ◌⊎◌, inl, inr, subst, arith}
use Rattle.std.proofs.lemmas.Bool.{cases_lt}
use Rattle.pp_check.specs.Spans.{IsLeast}

-- that a fact neither holds nor fails is absurd
pub either : (A : Type 0) → ¬ (¬ (A ⊎ ¬ A))
either A none = none (inr (λ a. none (inl a)))

-- a fact that holds first of no number holds of none below a bound
none_below : (P : ℕ → Type 0) → ¬ ((m : ℕ) × IsLeast P m) → (n k : ℕ) → k < n → P k → ⊥
none_below P no_first zero k below p = absurd (omega arith)
none_below P no_first (suc n) k below p = no_first (k, (p, λ j less. none_below P no_first n j (omega arith)))

-- that it holds of a number and of no least one is absurd
pub least : (P : ℕ → Type 0) (n : ℕ) → P n → ¬ (¬ ((m : ℕ) × IsLeast P m))
least P n p no_first = none_below P no_first (suc n) n (omega arith) p

-- the greatest number of which a fact holds
abbrev pub IsMost : (ℕ → Type 0) → ℕ → Type 0
IsMost P m = P m × ((k : ℕ) → P k → k ≤ m)

lower : (P : ℕ → Type 0) (n k : ℕ) → ¬ (P (suc n)) → P k → k ≤ suc n → ((k < suc n) ⊎ (suc n ≤ k)) → k ≤ n
lower P n k last p within (inl below) = omega arith
lower P n k last p within (inr above) = (let same : k ≡ suc n = omega arith in absurd (last (subst P same p)))

most_by : (P : ℕ → Type 0) (n : ℕ) → ((k : ℕ) → P k → k ≤ suc n) → P (suc n) ⊎ ¬ (P (suc n)) → (((k : ℕ) → P k → k ≤ n) → ¬ (¬ ((m : ℕ) × IsMost P m))) →
    ¬ (¬ ((m : ℕ) × IsMost P m))
most_by P n bound (inl p) go none = none (suc n, (p, bound))
most_by P n bound (inr last) go none = go (λ k p. lower P n k last p (bound k p) (cases_lt k (suc n))) none

-- that a fact with a bound holds of 0 and of no greatest number is absurd
pub most : (P : ℕ → Type 0) (n : ℕ) → P 0 → ((k : ℕ) → P k → k ≤ n) → ¬ (¬ ((m : ℕ) × IsMost P m))
most P zero first bound none = none (0, (first, bound))
most P (suc n) first bound none = either (P (suc n)) (λ d. most_by P n bound d (most P n first) none)
