-- Pairs (lo, hi) of bytes, each of which stands for the bytes from lo to hi, both included.
use Rattle.std.specs.Prelude.{ℕ, ◌+◌, ◌<◌, ◌≤◌, Bool, ◌&&◌, nat_le, List, length}
use Rattle.std.specs.List.{All, AllPairs, list_any}

-- whether a byte is one of a pair's
abbrev pub in_pair : ℕ → ℕ × ℕ → Bool
in_pair b pair = nat_le pair.0 b && nat_le b pair.1

-- whether a byte is in one of the pairs
abbrev pub in_ranges : List (ℕ × ℕ) → ℕ → Bool
in_ranges pairs b = list_any (in_pair b) pairs

-- At most 8 pairs of bytes, ascending, disjoint and not adjacent: between a pair and each later one there is a byte
pub record IsRanges (pairs : List (ℕ × ℕ)) : Type 0 where
  pub few : length pairs ≤ 8
  pub bytes : All (λ pair. pair.1 < 256) pairs
  pub ordered : All (λ pair. pair.0 ≤ pair.1) pairs
  pub apart : AllPairs (λ pair later. pair.1 + 1 < later.0) pairs

-- one more pair may stand after the pairs: there is room, and it begins above the byte that follows each of them
pub record CanFollow (pairs : List (ℕ × ℕ)) (lo hi : ℕ) : Type 0 where
  pub room : length pairs < 8
  pub ordered : lo ≤ hi
  pub apart : All (λ pair. pair.1 + 1 < lo) pairs
