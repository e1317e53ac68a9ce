use Rattle.std.proofs.Common.{refl}
use Rattle.pp_rules.proofs.KeySetLemmas.{HasKeys-push}
use Rattle.pp_rules.proofs.rules.clash.key_set.KeySet.add_longer.Goals as goal

pub returns : goal.returns
returns c = λ keys h. HasKeys-push c.args.self.now _ keys c.args.key.now c.requires refl c.add_first.ensures c.saturating_sub-self.ensures h
