use Rattle.pp_mean.proofs.plain.are_plain_edges.Goals as goal

pub returns-then-has_no_peek : goal.returns-then-has_no_peek
returns-then-has_no_peek c =
    ((λ t. (c.has_no_peek.ensures.0 c.if-has_no_peek.true, c.are_plain_keys.ensures.0 t)), (λ p. c.are_plain_keys.ensures.1 p.1))
