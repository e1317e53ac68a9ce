use Rattle.std.proofs.Common.{arith}
use Rattle.pp_lower.specs.steps.Parts.{edge_from}
use Rattle.pp_lower.proofs.EdgeCode.{edges_all}
use Rattle.pp_lower.proofs.edges.edges_for.Goals as goal

pub returns : goal.returns
returns c =
    λ f g.
    edges_all (edge_from f c.args.root c.args.keys.now c.args.peeks.now c.args.inner.now c.args.ends.now) c.loop-byte.byte c.loop-byte.edges.items c.deref.result.now c.in_ok-list.list
    c.in_ok-list.ensures c.deref.ensures.value (c.loop-byte.invariant f g) (omega arith)
