use Rattle.std.proofs.Common.{subst, List}
use Rattle.std.proofs.lemmas.List.{take_all}
use Rattle.pp_graph.specs.declared.node.Peek.{Peek}
use Rattle.pp_check.specs.steps.Ends.{PeekEnds}
use Rattle.pp_flow.specs.Rows.{Adds}
use Rattle.pp_check.proofs.RowLemmas.{peeks-none, peeks-more}
use Rattle.pp_check.proofs.rows.peek_rows.Goals as goal

pub loop-place-init : goal.loop-place-init
loop-place-init c = peeks-none _ _ _

pub loop-place-preserved : goal.loop-place-preserved
loop-place-preserved c =
    peeks-more _ _ _ _ _ c.args.peeks.now c.loop-place.place _ _ c.loop-place-test.true c.begun_by-begun.ensures c.loop-place.invariant c.in_ok-set_rows.ensures

pub returns : goal.returns
returns c =
    subst (λ (peeks : List Peek). Adds c.args.from c.args.rows.now.items c.loop-place.rows.items (PeekEnds c.args.fold peeks))
    (take_all c.loop-place.place c.args.peeks.now c.loop-place-test.false) c.loop-place.invariant
