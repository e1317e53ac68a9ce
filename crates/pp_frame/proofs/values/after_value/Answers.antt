use Rattle.std.proofs.Common.{◌+◌, sym, ◌∙◌, arith, length-drop}
use Rattle.std.proofs.lemmas.List.{take_rest}
use Rattle.pp_frame.proofs.ValueLemmas.{after_value-more, after_value-last}
use Rattle.pp_frame.proofs.values.after_value.Goals as goal

pub loop-comma-preserved : goal.loop-comma-preserved
loop-comma-preserved c =
    rw (take_rest c.loop-comma.rest.now (c.in-Some.comma + 1), c.after_part-last.ensures)
    (record {
      same = sym (after_value-more c.loop-comma.last c.loop-comma.rest.now c.in-Some.comma (sym c.in-Some.ensures.place)) ∙ c.loop-comma.invariant.same;
      shorter = omega (arith, length-drop (c.in-Some.comma + 1) c.loop-comma.rest.now, c.loop-comma.invariant.shorter);
    })

pub returns : goal.returns
returns c =
    c.after_part.ensures ∙ sym (after_value-last c.loop-comma.last c.loop-comma.rest.now (sym c.in_default.ensures.place)) ∙ c.loop-comma.invariant.same
