use Rattle.std.proofs.Common.{◌≡◌, ◌++◌, map}
use Rattle.pp_bytes.specs.Bytes.{bytes_below}
use Rattle.pp_rules.specs.Sets.{byte_call}
use Rattle.pp_rules.proofs.kept.push_bytes.Given as goal

abbrev pub invariant-loop-byte : goal.invariant-loop-byte
invariant-loop-byte l = l.all.items ≡ l.fn.all.items ++ map (byte_call l.how l.target) (bytes_below l.bytes l.byte)
