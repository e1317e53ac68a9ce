-- What is printed so far and the bytes left give all bytes.
use Rattle.std.proofs.Common.{◌≡◌, ◌++◌, drop, flat_map}
use Rattle.pp_text.specs.Printed.{printed_byte}
use Rattle.pp_text.proofs.printing.keys.push_key_bytes.Given as goal

abbrev pub invariant-loop-byte : goal.invariant-loop-byte
invariant-loop-byte l =
    l.out.items ++ flat_map printed_byte (drop l.byte-index l.bytes) ≡ l.fn.out.items ++ flat_map printed_byte l.bytes
