use Rattle.std.proofs.Common.{◌/◌, arith, refl, inl, inr}
use Rattle.std.proofs.lemmas.Bool.{cases_eq}
use Rattle.pp_flow.proofs.MaskLemmas.{quarter_some, quarter_none}
use Rattle.pp_flow.proofs.spread.any_of.Goals as goal

pub returns-then-chosen-ne0 : goal.returns-then-chosen-ne0
returns-then-chosen-ne0 c = (
  (λ _. quarter_some c.args.words.now c.args.from c.args.lo c.args.hi c.loop-quarter.quarter c.chosen.result c.loop-quarter-test.true c.if-chosen-ne0.true c.chosen.type_inv c.chosen.ensures),
  (λ _. refl),
)

pub loop-quarter-preserved : goal.loop-quarter-preserved
loop-quarter-preserved c b lt low high has = elim (cases_eq (b / 64) c.loop-quarter.quarter) [
  | inl e ↦ quarter_none c.args.words.now c.args.from c.args.lo c.args.hi c.loop-quarter.quarter c.chosen.result c.if-chosen-ne0.false c.chosen.ensures b e low high has
  | inr o ↦ c.loop-quarter.invariant b (omega arith) low high has
]
