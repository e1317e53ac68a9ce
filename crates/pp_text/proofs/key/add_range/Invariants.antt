use Rattle.std.proofs.Common.{◌≡◌, ◌<◌}
use Rattle.pp_text.proofs.SetLemmas.{HasBelow}
use Rattle.pp_text.proofs.key.add_range.Given as goal

abbrev pub invariant-loop-byte : goal.invariant-loop-byte
invariant-loop-byte l = record {
  has : HasBelow l.initial.bytes l.bytes l.first l.byte;
  empty : l.last < l.first → l.byte ≡ l.first;
}
