-- The line of a span at a node.
use Rattle.std.proofs.Common.{List, ℕ, sym, ap, ap₂, subst, ◌∙◌}
use Rattle.std.specs.Prelude.{OnOk, OnErr, codes}
use Rattle.pp_outside.specs.Sink.{Adds, AddsSome}
use Rattle.pp_tool.specs.Answers.{check_line, span_line}
use Rattle.pp_tool.proofs.refusal.CheckReason.write_line.Goals as goal

pub returns-in-Reopened-clause-whole : goal.returns-in-Reopened-clause-whole
returns-in-Reopened-clause-whole g c =
    subst (λ l. OnOk c.write_span_line.result (Adds (g.E.Sink.written c.args.errors.now) (g.E.Sink.written c.write_span_line.new.errors) l)) (ap₂ (λ (span node : List ℕ). span_line span (codes " reopened at ") node) c.bytes-in-Reopened.ensures.value c.bytes-in-Reopened-2.ensures.value ∙ sym (ap check_line c.in-Reopened.is)) c.write_span_line.ensures.whole

pub returns-in-Reopened-clause-front : goal.returns-in-Reopened-clause-front
returns-in-Reopened-clause-front g c =
    subst (λ l. OnErr c.write_span_line.result (AddsSome (g.E.Sink.written c.args.errors.now) (g.E.Sink.written c.write_span_line.new.errors) l)) (ap₂ (λ (span node : List ℕ). span_line span (codes " reopened at ") node) c.bytes-in-Reopened.ensures.value c.bytes-in-Reopened-2.ensures.value ∙ sym (ap check_line c.in-Reopened.is)) c.write_span_line.ensures.front

pub returns-in-NotOpen-clause-whole : goal.returns-in-NotOpen-clause-whole
returns-in-NotOpen-clause-whole g c =
    subst (λ l. OnOk c.write_span_line-in-NotOpen.result (Adds (g.E.Sink.written c.args.errors.now) (g.E.Sink.written c.write_span_line-in-NotOpen.new.errors) l)) (ap₂ (λ (span node : List ℕ). span_line span (codes " not open at ") node) c.bytes-in-NotOpen.ensures.value c.bytes-in-NotOpen-2.ensures.value ∙ sym (ap check_line c.in-NotOpen.is)) c.write_span_line-in-NotOpen.ensures.whole

pub returns-in-NotOpen-clause-front : goal.returns-in-NotOpen-clause-front
returns-in-NotOpen-clause-front g c =
    subst (λ l. OnErr c.write_span_line-in-NotOpen.result (AddsSome (g.E.Sink.written c.args.errors.now) (g.E.Sink.written c.write_span_line-in-NotOpen.new.errors) l)) (ap₂ (λ (span node : List ℕ). span_line span (codes " not open at ") node) c.bytes-in-NotOpen.ensures.value c.bytes-in-NotOpen-2.ensures.value ∙ sym (ap check_line c.in-NotOpen.is)) c.write_span_line-in-NotOpen.ensures.front

pub returns-in-Mixed-clause-whole : goal.returns-in-Mixed-clause-whole
returns-in-Mixed-clause-whole g c =
    subst (λ l. OnOk c.write_span_line-in-Mixed.result (Adds (g.E.Sink.written c.args.errors.now) (g.E.Sink.written c.write_span_line-in-Mixed.new.errors) l)) (ap₂ (λ (span node : List ℕ). span_line span (codes " mixed at ") node) c.bytes-in-Mixed.ensures.value c.bytes-in-Mixed-2.ensures.value ∙ sym (ap check_line c.in-Mixed.is)) c.write_span_line-in-Mixed.ensures.whole

pub returns-in-Mixed-clause-front : goal.returns-in-Mixed-clause-front
returns-in-Mixed-clause-front g c =
    subst (λ l. OnErr c.write_span_line-in-Mixed.result (AddsSome (g.E.Sink.written c.args.errors.now) (g.E.Sink.written c.write_span_line-in-Mixed.new.errors) l)) (ap₂ (λ (span node : List ℕ). span_line span (codes " mixed at ") node) c.bytes-in-Mixed.ensures.value c.bytes-in-Mixed-2.ensures.value ∙ sym (ap check_line c.in-Mixed.is)) c.write_span_line-in-Mixed.ensures.front
