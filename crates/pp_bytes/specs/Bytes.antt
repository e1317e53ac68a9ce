-- Sets of bytes, and how a table of 256 bits holds one.
use Rattle.std.specs.Prelude.{ℕ, ◌/◌, ◌%◌, Bool, ◌==◌, List, slice_index, filter, take}
use Rattle.std.specs.Int.{bit_at}
use Rattle.std.specs.List.{range_with_len}
use Rattle.std.specs.Ordering.{nat_cmp}
use Rattle.std.specs.FinSet.{FinSet, from_list, contains}

-- every byte, ascending
unfoldable pub all_bytes : List ℕ
all_bytes = range_with_len 0 256

-- whether the table, four words of 64 bits, has the bit of a byte
abbrev pub has_bit : List ℕ → ℕ → Bool
has_bit words b = bit_at (slice_index words (b / 64)) (b % 64) == 1

-- the bytes whose bits the table has
abbrev pub set_of_table : List ℕ → FinSet nat_cmp
set_of_table words = from_list (filter (has_bit words) all_bytes)

-- the bytes of a set, ascending
abbrev pub bytes_of : FinSet nat_cmp → List ℕ
bytes_of bytes = filter (contains bytes) all_bytes

-- those of them that are below a number
abbrev pub bytes_below : FinSet nat_cmp → ℕ → List ℕ
bytes_below bytes n = filter (contains bytes) (take n all_bytes)
