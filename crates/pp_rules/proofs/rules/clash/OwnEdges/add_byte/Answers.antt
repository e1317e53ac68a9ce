use Rattle.std.proofs.Common.{◌∷◌, [], filter_map, ap, ◌∙◌, sym, subst, refl}
use Rattle.pp_rules.specs.Edges.{key_of_edge}
use Rattle.pp_rules.specs.Sets.{byte_edge}
use Rattle.pp_rules.proofs.OwnEdgeLemmas.{HasMore, Tells, clash-byte, clash-as-key, or_then, or_else, push-key}
use Rattle.pp_rules.proofs.rules.clash.OwnEdges.add_byte.Goals as goal

pub returns-in-Peek-clause-added : goal.returns-in-Peek-clause-added
returns-in-Peek-clause-added c own h =
    subst (HasMore _ own) (ap (λ how. byte_edge how c.args.byte) (sym c.in-Peek.is)) (c.add_peek.ensures.added own h)

pub returns-in-Peek-clause-clashes : goal.returns-in-Peek-clause-clashes
returns-in-Peek-clause-clashes c own h =
    subst (λ how. Tells c.add_peek.result own (byte_edge how c.args.byte)) (sym c.in-Peek.is) (c.add_peek.ensures.clashes own h)

pub returns-then-add_byte-clause-added : goal.returns-then-add_byte-clause-added
returns-then-add_byte-clause-added c own h =
    subst (HasMore _ own) (ap (λ how. byte_edge how c.args.byte) (sym c.in-Key.is)) (push-key c.args.self.now _ own (c.args.byte ∷ []) c.in-Key.number (c.args.byte ∷ []) refl c.add_byte.ensures.added refl refl h)

pub returns-then-add_byte-clause-clashes : goal.returns-then-add_byte-clause-clashes
returns-then-add_byte-clause-clashes c own h =
    subst (λ how. Tells c.add_byte.result own (byte_edge how c.args.byte)) (sym c.in-Key.is)
    (or_then c.add_byte.result _ _ _ c.if-add_byte.true (c.add_byte.ensures.there (filter_map key_of_edge own) h.keys) (clash-byte c.args.self.now own c.args.byte h ∙ clash-as-key own (c.args.byte ∷ []) c.in-Key.number))

pub returns-else-add_byte-clause-added : goal.returns-else-add_byte-clause-added
returns-else-add_byte-clause-added c own h =
    subst (HasMore _ own) (ap (λ how. byte_edge how c.args.byte) (sym c.in-Key.is)) (push-key c.args.self.now _ own (c.args.byte ∷ []) c.in-Key.number (c.args.byte ∷ []) refl c.add_byte.ensures.added refl refl h)

pub returns-else-add_byte-clause-clashes : goal.returns-else-add_byte-clause-clashes
returns-else-add_byte-clause-clashes c own h =
    subst (λ how. Tells c.has.result own (byte_edge how c.args.byte)) (sym c.in-Key.is)
    (or_else c.add_byte.result c.has.result _ _ _ c.if-add_byte.false (c.add_byte.ensures.there (filter_map key_of_edge own) h.keys) c.has.ensures (clash-byte c.args.self.now own c.args.byte h ∙ clash-as-key own (c.args.byte ∷ []) c.in-Key.number))
