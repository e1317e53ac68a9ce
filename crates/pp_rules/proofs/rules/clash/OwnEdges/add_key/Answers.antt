use Rattle.std.proofs.Common.{filter_map, refl}
use Rattle.pp_rules.specs.Edges.{key_of_edge}
use Rattle.pp_rules.proofs.OwnEdgeLemmas.{clash-key, or_then, or_else, push-key}
use Rattle.pp_rules.proofs.rules.clash.OwnEdges.add_key.Goals as goal

pub returns-then-add-clause-added : goal.returns-then-add-clause-added
returns-then-add-clause-added c own number h = push-key c.args.self.now _ own c.args.key.now number c.args.key.now refl c.add.ensures.added refl refl h

pub returns-then-add-clause-clashes : goal.returns-then-add-clause-clashes
returns-then-add-clause-clashes c own h =
    or_then c.add.result _ _ _ c.if-add.true (c.add.ensures.there (filter_map key_of_edge own) h.keys) (clash-key c.args.self.now own c.args.key.now h)

pub returns-else-add-clause-added : goal.returns-else-add-clause-added
returns-else-add-clause-added c own number h = push-key c.args.self.now _ own c.args.key.now number c.args.key.now refl c.add.ensures.added refl refl h

pub returns-else-add-clause-clashes : goal.returns-else-add-clause-clashes
returns-else-add-clause-clashes c own h =
    or_else c.add.result c.begins_in.result _ _ _ c.if-add.false (c.add.ensures.there (filter_map key_of_edge own) h.keys) c.begins_in.ensures (clash-key c.args.self.now own c.args.key.now h)
