use Rattle.std.proofs.Common.{subst, List}
use Rattle.std.proofs.lemmas.List.{take_all}
use Rattle.pp_graph.specs.declared.node.Answer.{Answer}
use Rattle.pp_check.specs.steps.Ends.{AnswerEnds}
use Rattle.pp_flow.specs.Rows.{Adds}
use Rattle.pp_check.proofs.RowLemmas.{free-row, answers-none, answers-more}
use Rattle.pp_check.proofs.rows.answer_rows.Goals as goal

pub loop-place-init : goal.loop-place-init
loop-place-init c = answers-none _ _ _ _ (free-row _ _ _ _ c.in_ok-row_on_all.ensures)

pub loop-place-preserved : goal.loop-place-preserved
loop-place-preserved c =
    answers-more _ _ _ _ _ c.args.answers.now c.loop-place.place _ c.loop-place-test.true c.loop-place.invariant (free-row _ _ _ _ c.in_ok-row_on_all-2.ensures)

pub returns : goal.returns
returns c =
    subst (λ (answers : List Answer). Adds c.args.from c.args.rows.now.items c.loop-place.rows.items (AnswerEnds answers c.args.other))
    (take_all c.loop-place.place c.args.answers.now c.loop-place-test.false) c.loop-place.invariant
