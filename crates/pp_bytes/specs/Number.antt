-- Numbers as texts write them.
use Rattle.std.specs.Prelude.{◌≡◌, ◌≢◌, ℕ, ◌<◌, ◌^◌, List}
use Rattle.std.specs.Fmt.{decimal}

-- the bytes are what is printed of the number, which is below 2 ^ 64
abbrev pub IsNumber : List ℕ → ℕ → Type 0
IsNumber bytes n = (n < 2 ^ 64) × (bytes ≡ decimal n)

-- the bytes are not what is printed of any number below 2 ^ 64
abbrev pub IsNoNumber : List ℕ → Type 0
IsNoNumber bytes = (n : ℕ) → n < 2 ^ 64 → bytes ≢ decimal n
