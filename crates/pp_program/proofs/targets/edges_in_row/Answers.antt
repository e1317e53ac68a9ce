use Rattle.std.proofs.Common.{sym, ◌∙◌}
use Rattle.pp_program.specs.Targets.{may_follow}
use Rattle.pp_program.proofs.LeastLemmas.{row-more, row-all}
use Rattle.pp_program.proofs.targets.edges_in_row.Goals as goal

pub loop-i-preserved : goal.loop-i-preserved
loop-i-preserved c =
    row-more may_follow c.args.edges.now c.loop-i.i _ _ c.loop-i.auto.i c.loop-i-test.true c.loop-i.invariant (sym c.may_follow.ensures ∙ c.if-not-may_follow.false)

pub returns : goal.returns
returns c = row-all may_follow c.args.edges.now c.loop-i.i c.loop-i.auto.i c.loop-i-test.false c.loop-i.invariant
