use Rattle.std.proofs.Common.{arith, length, ◌-◌, ◌<◌}
use Rattle.std.proofs.lemmas.List.{get_or_default}
use Rattle.pp_program.proofs.TableLemmas.{table-none, table-more}
use Rattle.pp_program.proofs.branch.edges_by_byte.Goals as goal

pub loop-i-init : goal.loop-i-init
loop-i-init c = table-none c.args.edges.now (length c.args.edges.now - 0) (omega arith)

pub loop-i-preserved : goal.loop-i-preserved
loop-i-preserved c =
    let low : length c.args.edges.now - 1 - c.loop-i.i < length c.args.edges.now = omega (arith, c.loop-i-test.true) in
    table-more c.args.edges.now c.loop-i.i _ _ _ c.loop-i-test.true (get_or_default c.args.edges.now (length c.args.edges.now - 1 - c.loop-i.i) _ _ low) c.give_edge.ensures c.loop-i.invariant
