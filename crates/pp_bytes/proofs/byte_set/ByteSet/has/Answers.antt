use Rattle.std.proofs.Common.{◌∙◌, ap, arith}
use Rattle.std.specs.FinSet as set
use Rattle.pp_bytes.proofs.TableLemmas.{bit_tested}
use Rattle.pp_bytes.proofs.byte_set.ByteSet.has.Goals as goal

pub returns : goal.returns
returns c =
    bit_tested c.self.inside.words c.args.b (omega arith)
    ∙ ap (λ s. set.contains s c.args.b) c.self.view_is
