use Rattle.std.proofs.Common.{false}
use Rattle.pp_clean.proofs.BuildLaws.{used_none, used_step}
use Rattle.pp_clean.proofs.build.used_names.Goals as goal

pub loop-i-init : goal.loop-i-init
loop-i-init c = used_none c.args.marks.now c.in_ok-used.used.items c.args.states.now c.args.count (c.in_ok-used.ensures.items_if_clones_equal (λ y h. h))

pub loop-i-preserved : goal.loop-i-preserved
loop-i-preserved c =
    used_step c.args.marks.now c.args.states.now c.args.count c.loop-i.used.items c.use_name.new.used.items c.loop-i.i false c.index-states-i.result
    c.loop-i-test.true c.requires.long (c.requires.named c.loop-i.i c.index-states-i.result c.loop-i-test.true) c.loop-i.invariant c.use_name.ensures
