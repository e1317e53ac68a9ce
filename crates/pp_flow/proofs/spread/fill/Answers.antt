use Rattle.std.proofs.Common.{◌/◌, ◌%◌, arith, inl, inr}
use Rattle.std.proofs.lemmas.Bool.{cases_eq}
use Rattle.pp_flow.proofs.MaskLemmas.{all_ones}
use Rattle.pp_flow.proofs.SpreadLemmas.{grows_twice}
use Rattle.pp_flow.proofs.spread.fill.Goals as goal

pub loop-quarter-preserved : goal.loop-quarter-preserved
loop-quarter-preserved c = record {
  grows = grows_twice c.args.to c.args.words.now c.loop-quarter.words c.merge-changed.new.words c.loop-quarter.changed c.merge-changed.result c.loop-quarter.invariant.grows c.merge-changed.ensures.grows;
  all = λ b lt. elim (cases_eq (b / 64) c.loop-quarter.quarter) [
    | inl e ↦ c.merge-changed.ensures.all b e (all_ones (b % 64) (omega arith))
    | inr o ↦ c.merge-changed.ensures.grows.keeps c.args.to b (omega (arith, c.loop-quarter-test.true)) (c.loop-quarter.invariant.all b (omega arith))
  ];
}
