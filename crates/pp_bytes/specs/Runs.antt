-- The runs of a set of bytes.
use Rattle.std.specs.Prelude.{ℕ, zero, suc, Bool, ◌&&◌, not, count_by}
use Rattle.std.specs.Ordering.{nat_cmp}
use Rattle.std.specs.FinSet.{FinSet, contains}
use Rattle.pp_bytes.specs.Bytes.{all_bytes}

-- whether a run of the set begins at a byte: the byte is in the set, and the byte below, if there is one, is not
abbrev pub begins_run : FinSet nat_cmp → ℕ → Bool
begins_run bytes zero = contains bytes 0
begins_run bytes (suc b) = contains bytes (suc b) && not (contains bytes b)

-- how many runs of neighbouring bytes the set has
abbrev pub runs_of : FinSet nat_cmp → ℕ
runs_of bytes = count_by (begins_run bytes) all_bytes
