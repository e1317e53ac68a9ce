use Rattle.std.proofs.Common.{◌≡◌, sym, subst}
use Rattle.std.specs.Prelude.{IfOk}
use Rattle.pp_graph.specs.declared.node.Kind.{Kind}
use Rattle.pp_event.specs.Answers.{by_script}
use Rattle.pp_event.specs.Chain.{On}
use Rattle.pp_event.specs.Run.{move_by}
use Rattle.pp_mean.specs.Nodes.{kind_turn}
use Rattle.pp_mean.specs.Steps.{Made}
use Rattle.pp_mean.proofs.RunLemmas.{match-made}
use Rattle.pp_mean.proofs.run.Run.advance.Goals as goal

pub returns-in-Match : goal.returns-in-Match
returns-in-Match c =
    match-made (by_script c.args.script.now) c.args.self.now c.compare.new.self c.compare.result c.args.kind.now c.in-Match.fold c.in-Match.keys _ c.in-Match.peeks _ c.in-Match.other
    c.in-Match.is c.items.ensures c.items-in-Match.ensures (c.compare.ensures (by_script c.args.script.now))

pub returns-in-SpanOpen : goal.returns-in-SpanOpen
returns-in-SpanOpen c =
    subst (λ (k : Kind). move_by (by_script c.args.script.now) c.args.self.now (kind_turn k c.args.self.now.config c.args.self.now.rest) ≡ On c.open.new.self) (sym c.in-SpanOpen.is)
    (c.open.ensures (by_script c.args.script.now))

pub returns-in_ok-close-in-SpanClose : goal.returns-in_ok-close-in-SpanClose
returns-in_ok-close-in-SpanClose c =
    subst (λ (k : Kind). move_by (by_script c.args.script.now) c.args.self.now (kind_turn k c.args.self.now.config c.args.self.now.rest) ≡ On c.close.new.self) (sym c.in-SpanClose.is)
    (c.in_ok-close-in-SpanClose.ensures (by_script c.args.script.now))

pub returns-in-Pause : goal.returns-in-Pause
returns-in-Pause c =
    subst (λ (k : Kind). IfOk c.pause.result (λ end. Made c.pause.new.self end (move_by (by_script c.args.script.now) c.args.self.now (kind_turn k c.args.self.now.config c.args.self.now.rest)))) (sym c.in-Pause.is)
    c.pause.ensures
