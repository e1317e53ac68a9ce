use Rattle.std.proofs.Common.{subst, ◌-◌, refl, ◌-◌}
use Rattle.pp_engine.specs.declared.run.Ended.TheVariants as ended
use Rattle.pp_engine.specs.declared.standing.Outcome.{Outcome}
use Rattle.pp_engine.specs.declared.standing.Outcome.TheVariants as outcome
use Rattle.pp_engine.specs.declared.standing.Stand.TheVariants as stand
use Rattle.pp_engine.specs.Parsers.{IsFed}
use Rattle.pp_engine.specs.Spots.{config}
use Rattle.pp_engine.specs.Stood.{Shows}
use Rattle.pp_engine.proofs.ParserLaws.{fed_if}
use Rattle.pp_engine.proofs.parser.Parser.go.Goals as goal

pub invariant_of-self-in-Failed-run : goal.invariant_of-self-in-Failed-run
invariant_of-self-in-Failed-run g c = record { fits = c.run.ensures.fits; can_go = tt }

pub invariant_of-self-in-Stopped : goal.invariant_of-self-in-Stopped
invariant_of-self-in-Stopped g c = record { fits = c.run.ensures.fits; can_go = tt }

pub invariant_of-self-in-Out : goal.invariant_of-self-in-Out
invariant_of-self-in-Out g c = record { fits = c.run.ensures.fits; can_go = tt }

pub returns-in-Paused-run-clause-fed : goal.returns-in-Paused-run-clause-fed
returns-in-Paused-run-clause-fed g c =
    let a : Shows = record { program = c.self.inside.program.now; config = config c.self.inside.spot; stand = c.self.inside.stand; reason = c.self.inside.reason.now } in
    let b : Shows = record {
      program = c.self.inside.program.now;
      config = config c.run.new.spot;
      stand = stand.Paused c.in-Paused-run.code c.in-Paused-run.next;
      reason = c.in-Paused-run.reason.now;
    } in
    let o : Outcome = outcome.Paused c.in-Paused-run.code c.bytes_between.result in
    subst (λ (q : Shows). IsFed g.H.Host.allows g.H.Host.next q b c.args.input.now (g.H.Host.shown c.args.host.now) (g.H.Host.shown c.run.new.host) (c.run.new.steps - c.args.steps.now) o) c.self.view_is
    (fed_if g.H.Host.allows g.H.Host.next a b c.args.input.now (g.H.Host.shown c.args.host.now) (g.H.Host.shown c.run.new.host) (c.run.new.steps - c.args.steps.now) o c.in-Ready.is (record {
      program = refl;
      ended = ended.Paused c.in-Paused-run.code c.in-Paused-run.next c.in-Paused-run.reason;
      fed = c.in-Paused-run.ensures;
      tells = (refl, refl, c.bytes_between.result, c.bytes_between.ensures, refl);
    }))
