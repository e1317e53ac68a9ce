use Rattle.std.proofs.Common.{refl, subst}
use Rattle.pp_engine.specs.Finishing.{IsFinished}
use Rattle.pp_engine.specs.Spots.{config}
use Rattle.pp_engine.specs.Stood.{Shows}
use Rattle.pp_engine.proofs.ParserLaws.{finished_if}
use Rattle.pp_engine.proofs.parser.Parser.finish.Goals as goal

pub returns-in-Ready-clause-finished : goal.returns-in-Ready-clause-finished
returns-in-Ready-clause-finished g c =
    let a : Shows = record { program = c.self.inside.program.now; config = config c.self.inside.spot; stand = c.self.inside.stand; reason = c.self.inside.reason.now } in
    let b : Shows = record { program = c.self.inside.program.now; config = config c.self.inside.spot; stand = c.finish_by-stand.result.0; reason = c.self.inside.reason.now } in
    subst (λ (q : Shows). IsFinished g.H.Host.allows g.H.Host.next q b (g.H.Host.shown c.args.host.now) (g.H.Host.shown c.finish_by-stand.new.host) c.finish_by-stand.result.1) c.self.view_is
    (finished_if g.H.Host.allows g.H.Host.next a b (g.H.Host.shown c.args.host.now) (g.H.Host.shown c.finish_by-stand.new.host) c.finish_by-stand.result.1 c.in-Ready.is (record {
      parser = refl;
      said = c.finish_by-stand.ensures;
    }))
