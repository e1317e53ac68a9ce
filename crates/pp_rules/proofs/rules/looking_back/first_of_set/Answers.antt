use Rattle.std.proofs.Common.{◌+◌, ◌++◌, map, sym, ◌∙◌, arith}
use Rattle.pp_bytes.specs.Bytes.{bytes_below}
use Rattle.pp_bytes.proofs.ByteLemmas.{few_bytes, few_bytes_below}
use Rattle.pp_rules.specs.Sets.{byte_call}
use Rattle.pp_rules.proofs.LookingBackLemmas.{AreBelow, below-first, below-out, below-kept, below-fails, below-last}
use Rattle.pp_rules.proofs.rules.looking_back.first_of_set.Goals as goal
use Rattle.pp_rules.proofs.rules.looking_back.first_of_set.Goals.{then-has+else-add_byte, else-has}

pub loop-byte-init : goal.loop-byte-init
loop-byte-init c = below-first c.args.rule c.args.how c.args.bytes.now c.args.seen.now

pub returns-then-add_byte-clause-fails : goal.returns-then-add_byte-clause-fails
returns-then-add_byte-clause-fails c before target s =
    let below = c.loop-byte.invariant in
    let few = map (byte_call c.args.how target) (bytes_below c.args.bytes.now c.loop-byte.byte) in
    below-fails c.args.rule c.args.how c.args.bytes.now c.args.seen.now c.loop-byte.seen c.loop-byte.byte c.loop-byte.rank before target (omega arith) (sym c.has.ensures ∙ c.if-has.true) below s (sym (c.add_byte.ensures.fails (before ++ few) target (below.taken before target s)) ∙ c.if-add_byte.true)

pub overflow_add-rank : goal.overflow_add-rank
overflow_add-rank c = omega (arith, c.loop-byte.invariant.counted, few_bytes c.args.bytes.now, few_bytes_below c.args.bytes.now c.loop-byte.byte)

pub loop-byte-preserved : goal.loop-byte-preserved
loop-byte-preserved c = elim c.if-has.branch [
  | then-has+else-add_byte w ↦ below-kept c.args.rule c.args.how c.args.bytes.now c.args.seen.now c.loop-byte.seen c.if-has.seen c.loop-byte.byte c.loop-byte.rank c.if-has.rank (omega arith) (sym c.has.ensures ∙ w.if-has.true) c.loop-byte.invariant (λ before target s. sym (w.add_byte.ensures.fails before target s) ∙ w.if-add_byte.false) (rw w.seen-is w.add_byte.ensures.taken) w.rank-is
  | else-has w ↦ below-out c.args.rule c.args.how c.args.bytes.now c.args.seen.now c.loop-byte.seen c.if-has.seen c.loop-byte.byte c.loop-byte.rank c.if-has.rank (omega arith) (sym c.has.ensures ∙ w.if-has.false) c.loop-byte.invariant w.seen-is w.rank-is
]

last : (c : goal.Else-byte-lt255) → AreBelow c.args.rule c.args.how c.args.bytes.now c.args.seen.now c.if-has.seen (c.loop-byte.byte + 1) c.if-has.rank
last c = elim c.if-has.branch [
  | then-has+else-add_byte w ↦ below-kept c.args.rule c.args.how c.args.bytes.now c.args.seen.now c.loop-byte.seen c.if-has.seen c.loop-byte.byte c.loop-byte.rank c.if-has.rank (omega arith) (sym c.has.ensures ∙ w.if-has.true) c.loop-byte.invariant (λ before target s. sym (w.add_byte.ensures.fails before target s) ∙ w.if-add_byte.false) (rw w.seen-is w.add_byte.ensures.taken) w.rank-is
  | else-has w ↦ below-out c.args.rule c.args.how c.args.bytes.now c.args.seen.now c.loop-byte.seen c.if-has.seen c.loop-byte.byte c.loop-byte.rank c.if-has.rank (omega arith) (sym c.has.ensures ∙ w.if-has.false) c.loop-byte.invariant w.seen-is w.rank-is
]

pub returns-after-has-clause-fails : goal.returns-after-has-clause-fails
returns-after-has-clause-fails c before target s =
    (below-last c.args.rule c.args.how c.args.bytes.now c.args.seen.now c.if-has.seen (c.loop-byte.byte + 1) c.if-has.rank before target (omega arith) (last c) s).0

pub returns-after-has-clause-taken : goal.returns-after-has-clause-taken
returns-after-has-clause-taken c none before target s =
    (below-last c.args.rule c.args.how c.args.bytes.now c.args.seen.now c.if-has.seen (c.loop-byte.byte + 1) c.if-has.rank before target (omega arith) (last c) s).1
