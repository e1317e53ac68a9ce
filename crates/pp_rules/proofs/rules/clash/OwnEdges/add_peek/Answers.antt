use Rattle.std.proofs.Common.{filter_map, refl, ◌∙◌}
use Rattle.pp_rules.specs.Edges.{key_of_edge}
use Rattle.pp_rules.proofs.OwnEdgeLemmas.{clash-peek, or_then, or_else, push-peek}
use Rattle.pp_rules.proofs.rules.clash.OwnEdges.add_peek.Goals as goal
use Rattle.pp_rules.proofs.rules.clash.OwnEdges.add_peek.Goals.{then-has_begun, else-has_begun}

pub returns-clause-added : goal.returns-clause-added
returns-clause-added c own h = push-peek c.args.self.now _ own c.args.byte refl c.add.ensures refl h

pub returns-clause-clashes : goal.returns-clause-clashes
returns-clause-clashes c own h =
    let begun = c.has_begun.ensures (filter_map key_of_edge own) h.keys in
    let both = clash-peek c.args.self.now own c.args.byte h in
    elim c.if-has_begun.branch [
      | then-has_begun w ↦ w.clashes-is ∙ or_then c.has_begun.result _ _ _ w.if-has_begun.true begun both
      | else-has_begun w ↦ w.clashes-is ∙ or_else c.has_begun.result w.has-clashes.result _ _ _ w.if-has_begun.false begun w.has-clashes.ensures both
    ]
