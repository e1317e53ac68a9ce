use Rattle.std.proofs.Common.{◌∷◌, [], sym, ◌∙◌}
use lib.Pointwise.{bytes_decides}
use Rattle.pp_bytes.proofs.CountLemmas.{no_bytes, zeros_from_no_bytes}
use Rattle.pp_bytes.proofs.byte_set.no_bits.Goals as goal

pub returns : goal.returns
returns c = (
  λ t. no_bytes c.args.words.now c.fits-words ((bytes_decides c.args.words.now (0 ∷ 0 ∷ 0 ∷ 0 ∷ [])).0 (sym c.eq.ensures ∙ t)),
  λ none. c.eq.ensures ∙ (bytes_decides c.args.words.now (0 ∷ 0 ∷ 0 ∷ 0 ∷ [])).1 (zeros_from_no_bytes c.args.words.now c.told-words c.fits-words none),
)
