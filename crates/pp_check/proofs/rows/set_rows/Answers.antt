use Rattle.std.proofs.Common.{ap, arith, ℕ, ◌+◌}
use Rattle.pp_check.proofs.RowLemmas.{set-none, set-more, set-skip, set-all}
use Rattle.pp_check.proofs.rows.set_rows.Goals as goal

pub loop-b-init : goal.loop-b-init
loop-b-init c = (set-none c.args.bytes.now c.args.from c.args.to c.args.free c.args.onward _ _ c.in_ok-push.ensures.items, omega arith)

pub loop-b-preserved-then-has : goal.loop-b-preserved-then-has
loop-b-preserved-then-has c = (
  set-more c.args.bytes.now c.args.from c.args.to c.args.free c.args.onward _ _ _ c.loop-b.b c.run_end-hi.result _ c.run_end-hi.ensures.above
      (ap (λ (n : ℕ). n + 1) c.from-b.ensures) c.run_end-hi.ensures.within c.loop-b.invariant.0 c.in_ok-push-2.ensures.items,
  omega (arith, c.from-b.ensures),
)

pub loop-b-preserved : goal.loop-b-preserved
loop-b-preserved c = (
  set-skip c.args.bytes.now c.args.from c.args.to c.args.free c.args.onward _ _ c.loop-b.b c.has.result c.has.ensures c.if-has.false c.loop-b.invariant.0,
  omega arith,
)

pub returns : goal.returns
returns c = set-all c.args.bytes.now c.args.from c.args.to c.args.free c.args.onward _ _ c.loop-b.b c.loop-b-test.false c.loop-b.invariant.0
