-- How many moves of a run take bytes.
use Rattle.std.specs.Prelude.{ℕ, zero, suc, ◌+◌, length, nat_lt, if◌then◌else◌}
use Rattle.pp_event.specs.Chain.{Move, On, Over}
use Rattle.pp_event.specs.Run.{Stage, RunResult}

-- 1 where a move leads to fewer bytes than n, else 0
abbrev pub takes_at : ℕ → Move Stage RunResult → ℕ
takes_at n (On d) = if nat_lt (length d.rest) n then 1 else 0
takes_at n (Over r) = 0

-- the count from what a move led to
abbrev pub then_count : (Stage → ℕ) → Move Stage RunResult → ℕ
then_count go (On d) = go d
then_count go (Over r) = 0

-- how many of the first n moves take bytes
abbrev pub taking_moves : (Stage → Move Stage RunResult) → ℕ → Stage → ℕ
taking_moves move zero s = 0
taking_moves move (suc n) s = takes_at (length s.rest) (move s) + then_count (taking_moves move n) (move s)
