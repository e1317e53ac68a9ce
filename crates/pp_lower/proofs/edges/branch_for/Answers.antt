use Rattle.pp_program.specs.Merge.{merged}
use Rattle.pp_lower.specs.Tree.{each_below}
use Rattle.pp_lower.specs.Lowered.{rest_by}
use Rattle.pp_lower.specs.steps.Parts.{key_by, edge_from}
use Rattle.pp_lower.proofs.EdgeCode.{branch_from}
use Rattle.pp_lower.proofs.edges.branch_for.Goals as goal

pub returns : goal.returns
returns c =
    λ f g.
    branch_from c.args.fold c.in_ok-edges.edges (merged (each_below (edge_from f c.args.root c.args.keys.now c.args.peeks.now c.args.inner.now c.args.ends.now) 256)) c.rest_for-rest.result
    (rest_by f c.args.other (key_by c.args.keys.now c.args.own)) c.new-stay.result c.new-stay.ensures (c.in_ok-edges.ensures f g) (c.rest_for-rest.ensures f g)
