use Rattle.std.proofs.Common.{sym}
use Rattle.pp_bytes.proofs.CountLemmas.{bytes_by_words}
use Rattle.pp_bytes.proofs.byte_set.set_bits.Goals as goal

pub returns : goal.returns
returns c = sym (bytes_by_words c.args.words.now (λ k. (c.type_inv.words k).fits))
