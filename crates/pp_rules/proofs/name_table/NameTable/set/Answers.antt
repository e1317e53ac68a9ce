use Rattle.std.proofs.Common.{Some}
use Rattle.std.proofs.lemmas.Map.Text.{btree_map_updates_str}
use Rattle.pp_rules.proofs.name_table.NameTable.set.Goals as goal

pub returns-clause-set : goal.returns-clause-set
returns-clause-set g c = λ other.
    rw c.bytes.ensures.value at (btree_map_updates_str c.bytes.result.now c.args.self.now.entries c.insert.new.self (Some c.args.value) c.in_ok-before.ensures.updates other)
