use Rattle.pp_mean.proofs.plain.is_plain_match.Goals as goal

pub returns-then-is_same : goal.returns-then-is_same
returns-then-is_same c =
    ((λ t. (c.is_same.ensures.0 c.if-is_same.true, c.are_plain_edges.ensures.0 t)), (λ p. c.are_plain_edges.ensures.1 p.1))
