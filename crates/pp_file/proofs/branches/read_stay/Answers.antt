use Rattle.std.proofs.Common.{◌≡◌, ◌++◌, ◌∷◌, [], Ok, None, Some}
use Rattle.std.proofs.lemmas.Result.{err_from_is_err_and}
use Rattle.pp_file.specs.Fields.{items_at}
use Rattle.pp_file.specs.Parts.{range_at}
use Rattle.pp_file.proofs.LoopLemmas.{goes_on, stops, is_done}
use Rattle.pp_file.proofs.StayLemmas.{one_more}
use Rattle.pp_file.proofs.branches.read_stay.Goals as goal

pub returns-in_err-lo : goal.returns-in_err-lo
returns-in_err-lo c =
    let p = err_from_is_err_and c.from_residual.result c.from_residual.ensures.1 in
    rw (p.1, p.2) (stops range_at c.in_err-lo.field-0.0 c.loop.stay c.args.count c.loop.counter c.loop.before c.loop.cursor (items_at range_at c.args.count None c.args.cursor.now) c.loop-test.true c.in_err-lo.ensures.read c.loop.invariant.0)

pub loop-preserved : goal.loop-preserved
loop-preserved c =
    rw c.push.ensures (
      goes_on range_at c.loop.stay c.args.count c.loop.counter c.loop.before c.loop.cursor (c.in_ok-lo.lo, c.in_ok-lo.hi) c.read_range.new.cursor (items_at range_at c.args.count None c.args.cursor.now) c.loop-test.true c.in_ok-lo.ensures.read c.loop.invariant.0,
      one_more c.loop.stay c.loop.before c.loop.counter c.in_ok-lo.lo c.in_ok-lo.hi c.loop.invariant.1 c.in_ok-lo.ensures.above c.in_ok-lo.ensures.ordered,
    )

pub returns : goal.returns
returns c =
    is_done range_at c.loop.stay c.args.count c.loop.counter c.loop.before c.loop.cursor (items_at range_at c.args.count None c.args.cursor.now) c.loop-test.false c.loop.invariant.0
