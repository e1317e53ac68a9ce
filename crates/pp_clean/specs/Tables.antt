-- Tables of places, and places on from others by empty states.
use Rattle.std.specs.Prelude.{◌≡◌, ℕ, zero, suc, ◌<◌, List, Option, Some, None, length, slice_index}
use Rattle.pp_program.specs.declared.program.State.{State}
use Rattle.pp_clean.specs.Skip.{past}

-- the table has the values of f, for so many places
pub record Tells (f : ℕ → ℕ) (size : ℕ) (table : List ℕ) : Type 0 where
  pub long : length table ≡ size
  pub at : (n : ℕ) → n < size → slice_index table n ≡ f n

-- n, or on from where its empty state leads
abbrev pub goes_on : (ℕ → ℕ) → ℕ → Option ℕ → ℕ
goes_on go n None = n
goes_on go n (Some t) = go t

-- so many empty states on from n, or as far as they go
abbrev pub far : List State → ℕ → ℕ → ℕ
far states zero n = n
far states (suc k) n = goes_on (far states k) n (past states n)

-- m, or n where an empty state stands at m
abbrev pub settled_on : ℕ → ℕ → Option ℕ → ℕ
settled_on n m None = m
settled_on n m (Some t) = n

abbrev pub settled : List State → ℕ → ℕ → ℕ
settled states n m = settled_on n m (past states m)
