-- The runs of a set that are found from the least byte on.
use Rattle.std.specs.Prelude.{◌≡◌, ℕ, ◌+◌, ◌<◌, ◌≤◌, true, false, List, length, take, count_by}
use Rattle.std.specs.List.{All}
use Rattle.std.specs.Ordering.{nat_cmp}
use Rattle.std.specs.FinSet.{FinSet, contains}
use Rattle.pp_bytes.specs.Bytes.{all_bytes}
use Rattle.pp_bytes.specs.Ranges.{in_ranges}
use Rattle.pp_bytes.specs.Runs.{begins_run}

-- the bytes from lo to hi, both included, are in the set, and the byte above them, if there is one, is not
pub record EndsRun (bytes : FinSet nat_cmp) (lo hi : ℕ) : Type 0 where
  pub ordered : lo ≤ hi
  pub byte : hi < 256
  pub held : (b : ℕ) → lo ≤ b → b ≤ hi → contains bytes b ≡ true
  pub ends : hi < 255 → contains bytes (hi + 1) ≡ false

-- the pairs are the runs of the set that begin below b, and have all its bytes below b
pub record HasRunsBelow (bytes : FinSet nat_cmp) (pairs : List (ℕ × ℕ)) (b : ℕ) : Type 0 where
  pub few : length pairs ≤ 8
  pub count : length pairs ≡ count_by (begins_run bytes) (take b all_bytes)
  pub each : All (λ pair. EndsRun bytes pair.0 pair.1 × (pair.0 < b)) pairs
  pub covers : (x : ℕ) → x < b → contains bytes x ≡ true → in_ranges pairs x ≡ true
