use Rattle.std.proofs.lemmas.Result.{on_ok_weaker}
use Rattle.pp_rules.specs.Calls.{names_of}
use Rattle.pp_rules.specs.declared.call.Sort.TheVariants as sort
use Rattle.pp_graph.proofs.PlaceLemmas.{ArePlaces-prop, ArePlaces-host, ArePlaces-span, ArePlaces-node, ArePlaces-entry, ArePlaces-finish, ArePlaces-edge}
use Rattle.pp_graph.proofs.places.SortPlaces.add.Goals as goal

pub returns-in-Prop : goal.returns-in-Prop
returns-in-Prop c =
    on_ok_weaker c.add.result
    (λ added before h. rw c.in-Prop.is (ArePlaces-prop c.args.self.now before h c.add.new.self c.in-Prop.name c.in-Prop.width (added (names_of sort.Prop before) h.props)))
    c.add.ensures

pub returns-in-Host : goal.returns-in-Host
returns-in-Host c =
    on_ok_weaker c.add-in-Host.result
    (λ added before h. rw c.in-Host.is (ArePlaces-host c.args.self.now before h c.add-in-Host.new.self c.in-Host.name c.in-Host.value (added (names_of sort.Host before) h.hosts)))
    c.add-in-Host.ensures

pub returns-in-Span : goal.returns-in-Span
returns-in-Span c =
    on_ok_weaker c.add-in-Span.result
    (λ added before h. rw c.in-Span.is (ArePlaces-span c.args.self.now before h c.add-in-Span.new.self c.in-Span.name (added (names_of sort.Span before) h.spans)))
    c.add-in-Span.ensures

pub returns-in-Node : goal.returns-in-Node
returns-in-Node c =
    on_ok_weaker c.add-in-Node.result
    (λ added before h. rw c.in-Node.is (ArePlaces-node c.args.self.now before h c.add-in-Node.new.self c.in-Node.name c.in-Node.kind (added (names_of sort.Node before) h.nodes)))
    c.add-in-Node.ensures

pub returns-in-Entry : goal.returns-in-Entry
returns-in-Entry c before h = rw c.in-Entry.is (ArePlaces-entry c.args.self.now before h c.in-Entry.node)

pub returns-in-Finish : goal.returns-in-Finish
returns-in-Finish c before h = rw c.in-Finish.is (ArePlaces-finish c.args.self.now before h c.in-Finish.prop c.in-Finish.host)

pub returns-in-Edge : goal.returns-in-Edge
returns-in-Edge c before h = rw c.in-Edge.is (ArePlaces-edge c.args.self.now before h c.in-Edge.edge c.in-Edge.target)
