use Rattle.std.proofs.Common.{arith}
use Rattle.pp_flow.proofs.MaskLemmas.{passing_first, passing_on}
use Rattle.pp_flow.proofs.spread.pass.Goals as goal

pub loop-quarter-init : goal.loop-quarter-init
loop-quarter-init c = passing_first c.args.from c.args.to c.args.lo c.args.hi c.args.words.now

pub loop-quarter-preserved : goal.loop-quarter-preserved
loop-quarter-preserved c =
    passing_on c.args.from c.args.to c.args.lo c.args.hi c.loop-quarter.quarter c.chosen-bits.result c.args.words.now c.loop-quarter.words c.merge-changed.new.words c.loop-quarter.changed c.merge-changed.result (omega arith)
    c.loop-quarter.invariant c.chosen-bits.ensures c.merge-changed.ensures.grows c.merge-changed.ensures.source c.merge-changed.ensures.all
