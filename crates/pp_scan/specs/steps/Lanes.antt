-- What the bits of a number say of a block of bytes.
use Rattle.std.specs.Prelude.{ℕ, Bool, List, map}
use Rattle.std.specs.Simd.Lanes.{mask_l}

-- the number whose bit k, counted from the lowest, tells whether byte k of the block passes the test
abbrev pub bits_of : (ℕ → Bool) → List ℕ → ℕ
bits_of test block = mask_l (map test block)
