-- The keys of a match node: prefixes and gaps.
use Rattle.std.specs.Prelude.{ℕ, suc, ◌-◌, List, Bool, ◌&&◌, not, length, take, nat_lt, nat_le, nat_eq, bytes_eq}
use Rattle.std.specs.List.{list_any, starts_with, range_with_len}

-- one of the keys has these bytes
abbrev pub is_key : List (List ℕ) → List ℕ → Bool
is_key keys bytes = list_any (λ k. bytes_eq k bytes) keys

-- the first is a proper prefix of the second, and some longer proper prefix of the second is none of the keys
abbrev pub has_gap : List (List ℕ) → List ℕ → List ℕ → Bool
has_gap keys short long =
    starts_with nat_eq long short && nat_lt (length short) (length long)
    && list_any (λ n. not (is_key keys (take n long))) (range_with_len (suc (length short)) (length long - suc (length short)))

-- a byte from A to Z
abbrev pub is_upper_case : ℕ → Bool
is_upper_case b = nat_le 65 b && nat_le b 90
