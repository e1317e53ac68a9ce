-- The widths of properties.
use Rattle.std.specs.Prelude.{ℕ, ◌-◌, ◌^◌}
use Rattle.pp_rules.specs.declared.declaration.Width.{Width}
use Rattle.pp_rules.specs.declared.declaration.Width.TheVariants.{W8, W16, W32, W64}

-- the greatest value of a property of this width
abbrev pub greatest : Width → ℕ
greatest W8 = 2 ^ 8 - 1
greatest W16 = 2 ^ 16 - 1
greatest W32 = 2 ^ 32 - 1
greatest W64 = 2 ^ 64 - 1
