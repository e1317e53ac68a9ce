-- A line with its number.
use Rattle.std.proofs.Common.{sym, ◌∙◌, ap, subst}
use Rattle.std.specs.Prelude.{OnOk, OnErr}
use Rattle.pp_outside.specs.Sink.{Adds, AddsSome}
use Rattle.pp_tool.specs.Answers.{graph_line}
use Rattle.pp_tool.specs.steps.Stops.{line_with}
use Rattle.pp_tool.proofs.PieceLemmas.{line_with-syntax}
use Rattle.pp_tool.proofs.refusal.GraphReason.write_line.Goals as goal

pub returns-in-WrongLine-clause-whole : goal.returns-in-WrongLine-clause-whole
returns-in-WrongLine-clause-whole g c =
    subst (λ l. OnOk c.write_graph_line.result (Adds (g.E.Sink.written c.args.errors.now) (g.E.Sink.written c.write_graph_line.new.errors) l)) (line_with-syntax c.in-WrongLine.line ∙ sym (ap graph_line c.in-WrongLine.is)) c.write_graph_line.ensures.whole

pub returns-in-BrokenRule-clause-whole : goal.returns-in-BrokenRule-clause-whole
returns-in-BrokenRule-clause-whole g c =
    subst (λ l. OnOk c.write_graph_line-in-BrokenRule.result (Adds (g.E.Sink.written c.args.errors.now) (g.E.Sink.written c.write_graph_line-in-BrokenRule.new.errors) l)) (ap (line_with c.in-BrokenRule.line) (c.as_bytes.ensures.value ∙ c.text.ensures) ∙ sym (ap graph_line c.in-BrokenRule.is)) c.write_graph_line-in-BrokenRule.ensures.whole

pub returns-in-WrongLine-clause-front : goal.returns-in-WrongLine-clause-front
returns-in-WrongLine-clause-front g c =
    subst (λ l. OnErr c.write_graph_line.result (AddsSome (g.E.Sink.written c.args.errors.now) (g.E.Sink.written c.write_graph_line.new.errors) l)) (line_with-syntax c.in-WrongLine.line ∙ sym (ap graph_line c.in-WrongLine.is)) c.write_graph_line.ensures.front

pub returns-in-BrokenRule-clause-front : goal.returns-in-BrokenRule-clause-front
returns-in-BrokenRule-clause-front g c =
    subst (λ l. OnErr c.write_graph_line-in-BrokenRule.result (AddsSome (g.E.Sink.written c.args.errors.now) (g.E.Sink.written c.write_graph_line-in-BrokenRule.new.errors) l)) (ap (line_with c.in-BrokenRule.line) (c.as_bytes.ensures.value ∙ c.text.ensures) ∙ sym (ap graph_line c.in-BrokenRule.is)) c.write_graph_line-in-BrokenRule.ensures.front
