-- Counts of faults. A count never falls, and once it is the greatest u64 it stays there.
use Rattle.std.specs.Prelude.{ℕ, ◌+◌, ◌-◌, ◌^◌, ◌<◌, ◌≤◌, ◌⊎◌, min, Result, Ok, Err}

-- a count rose: it is greater than before, or stands at its last value
abbrev pub Rose : ℕ → ℕ → Type 0
Rose old new = (old < new) ⊎ (2 ^ 64 - 1 ≤ new)

-- one more, or the last value that a u64 can have
abbrev pub one_more : ℕ → ℕ
one_more count = min (count + 1) (2 ^ 64 - 1)

-- the count of faults after an answer: one more where that is an error
abbrev pub count_after : {T E : Type 0} → ℕ → Result T E → ℕ
count_after count (Ok _) = count
count_after count (Err _) = one_more count
