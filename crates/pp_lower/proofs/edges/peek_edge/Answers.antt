use Rattle.std.proofs.Common.{length}
use Rattle.pp_lower.proofs.EdgeCode.{peek_below, edge_peek}
use Rattle.pp_lower.proofs.edges.peek_edge.Goals as goal

pub bounds-roots-target : goal.bounds-roots-target
bounds-roots-target c = peek_below c.args.peeks.now c.args.byte (length c.args.roots.now) c.in-Some.target c.requires c.in-Some.ensures

pub returns-in-Some : goal.returns-in-Some
returns-in-Some c = λ f root g. edge_peek f c.args.roots.now root c.args.byte c.in-Some.target c.args.peeks.now g c.requires c.in-Some.ensures
