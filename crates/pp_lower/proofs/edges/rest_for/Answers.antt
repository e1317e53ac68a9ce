use Rattle.std.proofs.Common.{length}
use Rattle.pp_lower.proofs.EdgeCode.{target_at, rest_key_at}
use Rattle.pp_lower.proofs.edges.rest_for.Goals as goal

pub bounds-roots-target : goal.bounds-roots-target
bounds-roots-target c = target_at c.args.keys.now c.in-Some.place (length c.args.roots.now) c.index-keys-place-in-Some.result c.requires.keys (c.requires.own c.in-Some.place c.in-Some.is)

pub returns-in-Some : goal.returns-in-Some
returns-in-Some c =
    λ f g.
    rest_key_at f c.args.roots.now c.args.keys.now c.args.other c.in-Some.place c.index-keys-place.result c.index-keys-place-in-Some.result c.args.own g c.requires.keys c.in-Some.is
    (c.requires.own c.in-Some.place c.in-Some.is)
