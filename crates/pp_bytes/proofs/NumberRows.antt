-- What is printed of a few numbers, and so what is read as them.
use Rattle.std.proofs.Common.{◌≡◌, refl}
use Rattle.std.specs.Prelude.{codes}
use Rattle.std.specs.Fmt.{decimal, digits}

pub zero_row : decimal 0 ≡ codes "0"
unfolding digits
zero_row = refl

pub seven_row : decimal 7 ≡ codes "7"
unfolding digits
seven_row = refl

pub hundred_row : decimal 100 ≡ codes "100"
unfolding digits
hundred_row = refl

pub greatest_row : decimal 18446744073709551615 ≡ codes "18446744073709551615"
unfolding digits
greatest_row = refl
