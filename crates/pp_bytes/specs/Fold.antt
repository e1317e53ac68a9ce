-- What a fold makes of a byte.
use Rattle.std.specs.Prelude.{ℕ, ◌+◌, Bool, ◌&&◌, if◌then◌else◌, nat_le}
use Rattle.pp_bytes.specs.declared.fold.Fold.{Fold}
use Rattle.pp_bytes.specs.declared.fold.Fold.TheVariants.{Same, Lower}

-- the letters A (65) to Z (90)
abbrev pub is_capital : ℕ → Bool
is_capital b = nat_le 65 b && nat_le b 90

-- Same keeps every byte. Lower maps A to Z to a to z, which stand 32 above, and keeps all others
abbrev pub folded : Fold → ℕ → ℕ
folded Same b = b
folded Lower b = if is_capital b then b + 32 else b
