use Rattle.std.proofs.Common.{arith}
use Rattle.pp_program.proofs.NameLemmas.{reason-found, reason-more, reason-all, reason-start}
use Rattle.pp_program.proofs.names.first_wrong_reason.Goals as goal

pub returns-then-is_wrong_reason : goal.returns-then-is_wrong_reason
returns-then-is_wrong_reason c =
    reason-found c.args.states.now c.loop-i.i c.loop-i.count c.index-states-i.result c.is_wrong_reason.result c.index-states-i.is c.loop-i-test.true c.loop-i.invariant.0 c.is_wrong_reason.ensures c.if-is_wrong_reason.true

pub loop-i-preserved : goal.loop-i-preserved
loop-i-preserved c = (
  reason-more c.args.states.now c.loop-i.i c.loop-i.count c.count_reasons-count.result c.index-states-i.result c.is_wrong_reason.result c.index-states-i.is c.loop-i-test.true c.loop-i.invariant.0
      c.is_wrong_reason.ensures c.if-is_wrong_reason.false c.count_reasons-count.ensures.value,
  omega (arith, c.loop-i.invariant.1, c.count_reasons-count.ensures.most),
)

pub loop-i-init : goal.loop-i-init
loop-i-init c = (reason-start c.args.states.now, omega arith)

pub returns : goal.returns
returns c = reason-all c.args.states.now c.loop-i.i c.loop-i.count c.loop-i-test.false c.loop-i.invariant.0
