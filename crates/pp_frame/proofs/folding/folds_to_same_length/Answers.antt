use Rattle.std.proofs.Common.{sym, ◌∙◌, arith}
use Rattle.pp_frame.proofs.FoldLemmas.{folds_to-stops, folds_to-goes_on, folds_to-all}
use Rattle.pp_frame.proofs.folding.folds_to_same_length.Goals as goal

pub returns-then-of-lower : goal.returns-then-of-lower
returns-then-of-lower c =
    let stops = folds_to-stops c.args.lower.now c.args.bytes.now c.loop-i.i (omega arith) (omega arith) (λ same. c.if-of-lower.true (c.of.ensures ∙ same)) in
    sym stops ∙ c.loop-i.invariant

pub loop-i-preserved : goal.loop-i-preserved
loop-i-preserved c =
    let more = folds_to-goes_on c.args.lower.now c.args.bytes.now c.loop-i.i (omega arith) (omega arith) (sym c.of.ensures ∙ c.if-of-lower.false) in
    sym more ∙ c.loop-i.invariant

pub returns : goal.returns
returns c = sym (folds_to-all c.args.lower.now c.args.bytes.now c.loop-i.i (omega arith) (omega arith)) ∙ c.loop-i.invariant
