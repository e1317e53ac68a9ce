use Rattle.pp_engine.proofs.KeptLaws.{fed_program, fed_within}
use Rattle.pp_engine.proofs.SessionLaws.{feed_adds}
use Rattle.pp_engine.proofs.parser.Parser.feed.Goals as goal

pub returns-clause-adds : goal.returns-clause-adds
returns-clause-adds g c =
    feed_adds g.H.Host.allows g.H.Host.next c.args.self.now c.go.new.self c.args.input.now (g.H.Host.shown c.args.host.now) (g.H.Host.shown c.go.new.host) _ c.go.result
    c.go.ensures.fed c.go.ensures.runnable c.go.ensures.kept

pub returns-clause-program : goal.returns-clause-program
returns-clause-program g c =
    fed_program g.H.Host.allows g.H.Host.next c.args.self.now c.go.new.self (g.H.Host.shown c.args.host.now) (g.H.Host.shown c.go.new.host) c.args.input.now _ c.go.result
    c.go.ensures.fed

pub returns-clause-within : goal.returns-clause-within
returns-clause-within g c =
    fed_within g.H.Host.allows g.H.Host.next c.args.self.now c.go.new.self (g.H.Host.shown c.args.host.now) (g.H.Host.shown c.go.new.host) c.args.input.now _ c.go.result
    c.go.ensures.fed
