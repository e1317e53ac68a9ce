use Rattle.std.proofs.Common.{◌%◌, sym, ◌∙◌}
use Rattle.pp_flow.proofs.MaskLemmas.{and_tells, pair_in}
use Rattle.pp_flow.proofs.words.chosen.Goals as goal

pub returns : goal.returns
returns c b e = (
  (λ low. (
      let t = (and_tells _ c.mask_of.result (b % 64)).0 low in
      let m = (c.mask_of.ensures b e).0 t.1 in
      (pair_in c.args.words.now c.args.node c.args.quarter b e ∙ t.0, m.0, m.1))),
  (λ p. (and_tells _ c.mask_of.result (b % 64)).1 (sym (pair_in c.args.words.now c.args.node c.args.quarter b e) ∙ p.0, (c.mask_of.ensures b e).1 (p.1, p.2))),
)
