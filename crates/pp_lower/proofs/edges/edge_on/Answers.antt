use Rattle.pp_lower.specs.steps.Parts.{key_by, peek_by}
use Rattle.pp_lower.proofs.EdgeCode.{edge_outer}
use Rattle.pp_lower.proofs.edges.edge_on.Goals as goal

pub returns-in-None : goal.returns-in-None
returns-in-None c =
    λ f g.
    edge_outer f c.args.root c.args.byte c.args.inner (key_by c.args.keys.now c.args.end) (peek_by c.args.peeks.now c.args.byte) c.outer_edge.result c.in-None.is
    (c.outer_edge.ensures f c.args.root g)
