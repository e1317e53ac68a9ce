-- The least number of which a fact holds.
use Rattle.std.specs.Prelude.{◌≡◌, ℕ, ◌+◌, ◌≤◌, min, Option, Some, IfSome, IsSomeAnd}
use Rattle.std.specs.Prelude.{None as none}

-- the least number of which the fact holds, or none where it holds of no number
pub record IsLeast (P : ℕ → Type 0) (found : Option ℕ) : Type 0 where
  pub holds : IfSome found P
  pub least : (j : ℕ) → P j → IsSomeAnd found (λ i. i ≤ j)

-- the lesser of two numbers, of those that are there
abbrev pub lesser : Option ℕ → Option ℕ → Option ℕ
lesser none b = b
lesser (Some i) none = Some i
lesser (Some i) (Some j) = Some (min i j)

-- a fact of numbers that count from this start
abbrev pub IsFrom : (ℕ → Type 0) → ℕ → ℕ → Type 0
IsFrom P start m = (j : ℕ) × P j × (m ≡ start + j)
