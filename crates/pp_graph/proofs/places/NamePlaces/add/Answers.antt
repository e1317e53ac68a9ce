use Rattle.std.proofs.Common.{refl}
use Rattle.pp_graph.proofs.PlaceLemmas.{HasPlaces-push}
use Rattle.pp_graph.proofs.places.NamePlaces.add.Goals as goal

pub returns : goal.returns
returns c names h =
    HasPlaces-push c.args.self.now _ names c.args.name.now c.in_ok-add_first.ensures.added refl h
