use Rattle.std.proofs.Common.{refl}
use Rattle.pp_rules.proofs.KeySetLemmas.{HasKeys-new}
use Rattle.pp_rules.proofs.rules.clash.key_set.KeySet.new.Goals as goal

pub returns : goal.returns
returns c = HasKeys-new _ c.new.ensures c.new-2.ensures refl
