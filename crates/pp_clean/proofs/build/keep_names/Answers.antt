use Rattle.std.proofs.Common.{◌∙◌, ap, sym, false, List, ℕ, get_or}
use Rattle.pp_clean.specs.Layout.{added}
use Rattle.pp_clean.proofs.TableLaws.{picked_nil}
use Rattle.pp_clean.proofs.BuildLaws.{kept_step}
use Rattle.pp_clean.proofs.build.keep_names.Goals as goal

pub loop-i-init : goal.loop-i-init
loop-i-init c = c.new-out.ensures.items ∙ sym (picked_nil c.args.marks.now)

pub loop-i-preserved : goal.loop-i-preserved
loop-i-preserved c =
    kept_step c.args.marks.now c.args.names.now c.loop-i.out.items c.add_name.new.out.items c.loop-i.i false c.index-names-i.result
    c.loop-i-test.true c.requires c.loop-i.invariant
    (c.in_ok-add_name.ensures ∙ ap (λ (x : List ℕ). added (get_or c.args.marks.now c.loop-i.i false) c.loop-i.out.items x) c.index-names-i.is)
