-- One mask more.
use Rattle.std.proofs.Common.{◌≡◌, ◌≤◌, ◌<◌, ℕ, max, arith}
use Rattle.pp_tool.proofs.CheckLemmas.{most_more}
use Rattle.pp_tool.proofs.check.most_open.Goals.{then-most-bits, else-most-bits}
use Rattle.pp_tool.proofs.check.most_open.Goals as goal

most_then : (old before new bits b after : ℕ) → old ≡ before → bits ≡ b → after ≡ max before b → old < bits → new ≡ bits → new ≡ after
most_then old before new bits b after e f g h i = omega (arith, e, f, g, h, i)

most_else : (old before new bits b after : ℕ) → old ≡ before → bits ≡ b → after ≡ max before b → bits ≤ old → new ≡ old → new ≡ after
most_else old before new bits b after e f g h i = omega (arith, e, f, g, h, i)

pub loop-mask-preserved : goal.loop-mask-preserved
loop-mask-preserved c =
    let masks = c.args.masks.now in
    let i = c.loop-mask.mask-index in
    let more = most_more masks i 0 c.loop-mask-test.true in
    elim c.if-most-bits.branch [
      | then-most-bits w ↦ most_then _ _ _ _ _ _ c.loop-mask.invariant c.bits_of-bits.ensures more w.if-most-bits.true w.most-is
      | else-most-bits w ↦ most_else _ _ _ _ _ _ c.loop-mask.invariant c.bits_of-bits.ensures more w.if-most-bits.false w.most-is
    ]
