-- What an adapter of std's readers and writers stands for.
use Rattle.std.specs.Prelude.{ℕ, refl}
use Rattle.std.specs.Coded.{Coded, code_by, coded×, coded_ℕ}

-- a reader or a writer of std, and how many of its calls have failed
pub record Counted (T : Type 0) : Type 0 where
  pub inner : T
  pub faults : ℕ

-- it is coded as the pair of the two
abbrev pub counted_code : {T : Type 0} → Coded T → Coded (Counted T)
counted_code {T} code =
    code_by (T × ℕ) (coded× code coded_ℕ) (λ c. (c.inner, c.faults)) (λ p. record { inner = p.0; faults = p.1 }) (λ _. refl)
