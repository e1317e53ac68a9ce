use Rattle.std.proofs.Common.{◌∙◌, ap, arith}
use Rattle.std.specs.FinSet as set
use Rattle.pp_bytes.proofs.TableLemmas.{set_of_table-with_bit}
use Rattle.pp_bytes.proofs.byte_set.ByteSet.add.Goals as goal

pub returns : goal.returns
returns c =
    set_of_table-with_bit c.self.inside.words c.args.b (omega arith) (omega arith)
    ∙ ap (λ s. set.insert s c.args.b) c.self.view_is
