use Rattle.std.proofs.Common.{◌<◌, length, refl, sym, ◌∙◌, arith}
use Rattle.std.proofs.lemmas.Bool.{false≢true}
use Rattle.std.proofs.lemmas.Option.{slice_get_within, slice_get-get_or}
use Rattle.pp_program.specs.Countable.{HasFew}
use Rattle.pp_program.proofs.LeastLemmas.{each-more}
use Rattle.pp_program.proofs.countable.all_have_few.Goals as goal

pub returns-then-not-has_few : goal.returns-then-not-has_few
returns-then-not-has_few c = (
  (λ e. absurd (false≢true e)),
  (λ all.
      let few = all c.loop-i.i _ (slice_get-get_or c.args.states.now c.loop-i.i c.index-states-i.result c.loop-i-test.true) in
      absurd (false≢true (sym c.if-not-has_few.true ∙ c.has_few.ensures.1 few))),
)

pub loop-i-preserved : goal.loop-i-preserved
loop-i-preserved c =
    each-more (λ s. HasFew s.instr) c.args.states.now c.loop-i.i c.index-states-i.result c.loop-i-test.true c.loop-i.invariant
    (c.has_few.ensures.0 c.if-not-has_few.false)

pub returns : goal.returns
returns c = (
  (λ e i s at.
      let low : i < length c.args.states.now = slice_get_within c.args.states.now i s at in
      c.loop-i.invariant i s (omega (arith, low, c.loop-i-test.false)) at),
  (λ all. refl),
)
