use Rattle.std.proofs.Common.{arith, refl}
use Rattle.pp_mean.specs.Plain.{IsPlainKey}
use Rattle.pp_mean.proofs.EachLemmas.{holds_more, holds_each}
use Rattle.pp_mean.proofs.plain.are_plain_keys.Goals as goal

pub loop-key-preserved : goal.loop-key-preserved
loop-key-preserved c = holds_more IsPlainKey c.args.keys.now c.loop-key.key-index c.key-item.result c.loop-key.invariant c.key-item.is (c.is_plain_key.ensures.0 c.if-not-is_plain_key.false)

pub returns : goal.returns
returns c = ((λ _. holds_each IsPlainKey c.args.keys.now c.loop-key.key-index c.loop-key.invariant (omega arith)), (λ _. refl))
