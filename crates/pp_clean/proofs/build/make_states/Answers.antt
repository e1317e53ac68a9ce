use Rattle.std.proofs.Common.{◌∙◌, ap, sym, map, false, get_or}
use Rattle.pp_program.specs.declared.program.State.{State}
use Rattle.pp_clean.specs.Layout.{made_state, added}
use Rattle.pp_clean.proofs.TableLaws.{picked_nil}
use Rattle.pp_clean.proofs.BuildLaws.{made_step}
use Rattle.pp_clean.proofs.build.make_states.Goals as goal

pub loop-i-init : goal.loop-i-init
loop-i-init c = c.new-out.ensures.items ∙ sym (ap (map (made_state c.args.places.now c.args.origins.now)) (picked_nil c.args.marks.now))

pub loop-i-preserved : goal.loop-i-preserved
loop-i-preserved c =
    made_step (made_state c.args.places.now c.args.origins.now) c.args.marks.now c.args.states.now c.loop-i.out.items c.add_state.new.out.items c.loop-i.i false c.index-states-i.result
    c.loop-i-test.true c.requires.long c.loop-i.invariant
    (c.in_ok-add_state.ensures ∙ ap (λ (x : State). added (get_or c.args.marks.now c.loop-i.i false) c.loop-i.out.items (made_state c.args.places.now c.args.origins.now x)) c.index-states-i.is)
