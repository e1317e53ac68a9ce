use Rattle.std.proofs.Common.{ap, ◌∙◌}
use Rattle.std.specs.Prelude.{unwrap_or}
use Rattle.pp_graph.proofs.PlaceLemmas.{place-is}
use Rattle.pp_graph.proofs.places.NamePlaces.place.Goals as goal

pub returns : goal.returns
returns c names h =
    c.unwrap_or.ensures ∙ ap (λ a. unwrap_or a c.args.self.now.count) c.get.ensures ∙ place-is c.args.self.now names c.args.name.now h
