use Rattle.std.proofs.Common.{◌≡◌, ◌++◌, ◌∷◌, [], Ok, None, ap, sym, ◌∙◌}
use Rattle.std.proofs.lemmas.Result.{err_from_is_err_and}
use Rattle.pp_file.specs.Fields.{items_at}
use Rattle.pp_file.specs.Parts.{answer_at}
use Rattle.pp_file.proofs.LoopLemmas.{goes_on, stops, is_done}
use Rattle.pp_file.proofs.states.read_answers.Goals as goal

pub returns-in_err-answer : goal.returns-in_err-answer
returns-in_err-answer c =
    let p = err_from_is_err_and c.from_residual.result c.from_residual.ensures.1 in
    rw (p.1, p.2) (stops answer_at c.in_err-answer.field-0.0 c.loop.answers.items c.args.count c.loop.counter c.loop.before c.loop.cursor (items_at answer_at c.args.count None c.args.cursor.now) c.loop-test.true c.in_err-answer.ensures c.loop.invariant)

pub loop-preserved : goal.loop-preserved
loop-preserved c =
    rw c.in_ok-push.ensures.items (goes_on answer_at c.loop.answers.items c.args.count c.loop.counter c.loop.before c.loop.cursor c.in_ok-answer.answer c.read_answer.new.cursor (items_at answer_at c.args.count None c.args.cursor.now) c.loop-test.true c.in_ok-answer.ensures c.loop.invariant)

pub returns : goal.returns
returns c =
    rw c.of.ensures (is_done answer_at c.loop.answers.items c.args.count c.loop.counter c.loop.before c.loop.cursor (items_at answer_at c.args.count None c.args.cursor.now) c.loop-test.false c.loop.invariant)
