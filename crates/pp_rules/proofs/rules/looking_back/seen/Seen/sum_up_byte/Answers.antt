use Rattle.std.proofs.Common.{refl}
use Rattle.pp_rules.specs.Sets.{byte_call, byte_edge}
use Rattle.pp_rules.proofs.SeenLemmas.{push-edge}
use Rattle.pp_rules.proofs.rules.looking_back.seen.Seen.sum_up_byte.Goals as goal

pub returns-clause-sums : goal.returns-clause-sums
returns-clause-sums c before target h =
    let edge = byte_call c.args.how target c.args.byte in
    push-edge c.args.self.now _ before edge (byte_edge c.args.how c.args.byte) target refl c.add_byte.ensures.added (c.after_byte-self.ensures before c.args.how target c.args.byte h.room) h
