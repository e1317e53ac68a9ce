use Rattle.std.proofs.Common.{ℕ, List, suc, get_or, replicate, length, rules, sym, subst, add-one}
use Rattle.std.proofs.lemmas.Option.{slice_get-get_or}
use Rattle.pp_engine.proofs.SetLaws.{Tried, tried_more, all_right}
use Rattle.pp_engine.proofs.sets.values_for.Goals as goal

pub loop-i-preserved : goal.loop-i-preserved
loop-i-preserved c =
    rw add-one (subst (λ (values : List ℕ). Tried c.args.program.now.program c.args.sets.now (replicate (length c.args.program.now.program.props) 0) values (suc c.loop-i.i)) (sym c.set.ensures)
    (tried_more c.args.program.now.program c.args.sets.now (replicate (length c.args.program.now.program.props) 0) c.loop-i.props c.loop-i.i (get_or c.args.sets.now c.loop-i.i (0, 0)) c.loop-i.invariant
    (slice_get-get_or c.args.sets.now c.loop-i.i (0, 0) (search rules)) c.in_default.ensures))

pub returns-clause-right : goal.returns-clause-right
returns-clause-right c = all_right c.args.program.now.program c.args.sets.now (replicate (length c.args.program.now.program.props) 0) c.loop-i.props c.loop-i.i c.loop-i.invariant (search rules)
