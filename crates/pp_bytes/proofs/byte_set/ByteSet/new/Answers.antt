use Rattle.pp_bytes.proofs.TableLemmas.{set_of_table-zeros}
use Rattle.pp_bytes.proofs.byte_set.ByteSet.new.Goals as goal

pub returns : goal.returns
returns c = set_of_table-zeros
