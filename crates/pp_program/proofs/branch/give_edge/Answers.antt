use Rattle.std.proofs.Common.{arith}
use Rattle.pp_program.proofs.TableLemmas.{given-none, given-more, given-all}
use Rattle.pp_program.proofs.branch.give_edge.Goals as goal

pub loop-b-init : goal.loop-b-init
loop-b-init c = given-none c.args.by_byte.now c.args.edge c.from-b.result c.from-b.ensures

pub loop-b-preserved : goal.loop-b-preserved
loop-b-preserved c =
    given-more c.args.by_byte.now c.args.edge c.loop-b.b c.loop-b.by_byte (omega (arith, c.loop-b.auto.b, c.from-b.ensures)) (omega (arith, c.loop-b-test.true, c.from-b-end.ensures))
    c.told-by_byte c.loop-b.invariant

pub returns : goal.returns
returns c = given-all c.args.by_byte.now c.args.edge c.loop-b.b c.loop-b.by_byte (omega (arith, c.loop-b-test.false, c.from-b-end.ensures)) c.loop-b.invariant
