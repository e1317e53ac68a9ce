-- The least number of which a fact holds: of none, of one more, of either of two facts, of what an ordered function gives.
use Rattle.std.proofs.Common.{◌≡◌, ℕ, ◌≤◌, ◌⊎◌, inl, inr, min, Option, Some, option_map, subst, arith}
use Rattle.std.specs.Prelude.{None as none}
use Rattle.std.proofs.lemmas.Bool.{cases_lt}
use Rattle.pp_rules.specs.steps.Least.{IsLeast, lesser}

-- it holds of none
pub IsLeast-none : (P : ℕ → Type 0) → ((j : ℕ) → P j → ⊥) → IsLeast P none
IsLeast-none P h = record { holds = tt; least = h }

-- it holds of this one, and of no other below
pub IsLeast-some : (P : ℕ → Type 0) (i : ℕ) → P i → ((j : ℕ) → P j → i ≤ j) → IsLeast P (Some i)
IsLeast-some P i p h = record { holds = p; least = h }

-- the same fact in other words
pub IsLeast-same : (P Q : ℕ → Type 0) (found : Option ℕ) → ((j : ℕ) → P j → Q j) → ((j : ℕ) → Q j → P j) → IsLeast P found → IsLeast Q found
IsLeast-same P Q none f g s = IsLeast-none Q (λ j q. s.least j (g j q))
IsLeast-same P Q (Some i) f g s = IsLeast-some Q i (f i s.holds) (λ j q. s.least j (g j q))

min-holds : (R : ℕ → Type 0) (i j : ℕ) → R i → R j → R (min i j)
min-holds R i j p q =
    elim (cases_lt i j) [ inl h ↦ (let e : i ≡ min i j = omega arith in subst R e p) | inr h ↦ (let e : j ≡ min i j = omega arith in subst R e q) ]

-- either of two facts
pub IsLeast-lesser : (P Q R : ℕ → Type 0) (a b : Option ℕ) → ((j : ℕ) → P j → R j) → ((j : ℕ) → Q j → R j) → ((j : ℕ) → R j → P j ⊎ Q j) → IsLeast P a → IsLeast Q b → IsLeast R (lesser a b)
IsLeast-lesser P Q R none none f g split s t =
    IsLeast-none R (λ j r. elim (split j r) [ inl p ↦ s.least j p | inr q ↦ t.least j q ])
IsLeast-lesser P Q R none (Some k) f g split s t =
    IsLeast-some R k (g k t.holds) (λ j r. elim (split j r) [ inl p ↦ absurd (s.least j p) | inr q ↦ t.least j q ])
IsLeast-lesser P Q R (Some i) none f g split s t =
    IsLeast-some R i (f i s.holds) (λ j r. elim (split j r) [ inl p ↦ s.least j p | inr q ↦ absurd (t.least j q) ])
IsLeast-lesser P Q R (Some i) (Some k) f g split s t =
    IsLeast-some R (min i k) (min-holds R i k (f i s.holds) (g k t.holds)) (λ j r. elim (split j r) [
      | inl p ↦ (let h : i ≤ j = s.least j p in omega arith)
      | inr q ↦ (let h : k ≤ j = t.least j q in omega arith)
    ])

-- what an ordered function gives
pub IsLeast-image : (P Q : ℕ → Type 0) (f : ℕ → ℕ) (found : Option ℕ) → ((i j : ℕ) → i ≤ j → f i ≤ f j) → ((i : ℕ) → P i → Q (f i)) → ((j : ℕ) → Q j → (i : ℕ) × P i × (j ≡ f i)) → IsLeast P found → IsLeast Q (option_map f found)
IsLeast-image P Q f none up to from s = IsLeast-none Q (λ j q. let p = from j q in s.least p.0 p.1)
IsLeast-image P Q f (Some i) up to from s =
    IsLeast-some Q (f i) (to i s.holds) (λ j q. let p = from j q in let h : f i ≤ f p.0 = up i p.0 (s.least p.0 p.1) in let e : j ≡ f p.0 = p.2 in omega arith)
