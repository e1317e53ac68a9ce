use Rattle.std.proofs.Common.{◌≡◌, ◌<◌, ◌^◌, take}
use Rattle.std.specs.Str.Parse.{AllDigits, digits_value}
use Rattle.pp_frame.proofs.numbers.length_in.Given as goal

abbrev pub invariant-loop-byte : goal.invariant-loop-byte
invariant-loop-byte l = record {
  digits : AllDigits 10 (take l.byte-index l.value);
  number : l.number ≡ digits_value 10 (take l.byte-index l.value);
  small : l.number < 2 ^ 64;
}
