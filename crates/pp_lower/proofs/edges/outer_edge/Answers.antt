use Rattle.std.proofs.Common.{length}
use Rattle.pp_lower.specs.steps.Parts.{peek_by}
use Rattle.pp_lower.proofs.EdgeCode.{target_at, edge_key_at, edge_keyless}
use Rattle.pp_lower.proofs.edges.outer_edge.Goals as goal

pub bounds-roots-target : goal.bounds-roots-target
bounds-roots-target c = target_at c.args.keys.now c.in-Some.place (length c.args.roots.now) c.index-keys-place-in-Some.result c.requires.keys (c.requires.end c.in-Some.place c.in-Some.is)

pub returns-in-Some : goal.returns-in-Some
returns-in-Some c =
    λ f root g.
    edge_key_at f c.args.roots.now root c.args.byte c.in-Some.place c.args.keys.now c.index-keys-place.result c.index-keys-place-in-Some.result c.args.end (peek_by c.args.peeks.now c.args.byte) g
    c.requires.keys c.in-Some.is (c.requires.end c.in-Some.place c.in-Some.is)

pub returns-in-None : goal.returns-in-None
returns-in-None c =
    λ f root g. edge_keyless f root c.args.byte c.args.keys.now c.args.end (peek_by c.args.peeks.now c.args.byte) c.peek_edge.result c.in-None.is (c.peek_edge.ensures f root g)
