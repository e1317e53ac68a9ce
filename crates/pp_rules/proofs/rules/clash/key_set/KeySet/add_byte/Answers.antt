use Rattle.pp_rules.proofs.KeySetLemmas.{HasKeys-push_byte}
use Rattle.pp_rules.proofs.rules.clash.key_set.KeySet.add_byte.Goals as goal

pub returns-clause-added : goal.returns-clause-added
returns-clause-added c = λ keys h. HasKeys-push_byte c.args.self.now _ keys c.args.byte c.add.ensures c.add-2.ensures c.saturating_sub-self.ensures h
