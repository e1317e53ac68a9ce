-- The status, the output and the line are those of what was done.
use Rattle.std.proofs.Common.{◌≡◌, ◌⊎◌, sym, ◌∙◌, subst}
use Rattle.pp_tool.specs.declared.status.Status.TheVariants as status
use Rattle.pp_tool.specs.declared.words.Command.TheVariants as command
use Rattle.pp_tool.specs.Answers.{IsErrorLine}
use Rattle.pp_tool.specs.Verdict.{Ends, Concludes, IsFault, status_by, line_by}
use Rattle.pp_tool.specs.Commands.{Decides, IsAnswerOf}
use Rattle.pp_tool.specs.steps.Stops.{status_after, line_after}
use Rattle.pp_tool.proofs.CommandLemmas as lemma
use Rattle.pp_tool.proofs.command.tool.Goals as goal

pub returns-in-Some-clause-report : goal.returns-in-Some-clause-report
returns-in-Some-clause-report g c ok words bytes told =
    let same = lemma.one_command command.Trace c.in-Some.command (sym words ∙ c.in-Some.ensures) in
    let ends = subst (λ a. Ends (Decides a bytes) c.run-done.result (g.K.Sink.written c.args.output.now) (g.K.Sink.written c.run-done.new.output)) (sym same) (c.run-done.ensures.ends bytes told) in
    lemma.report bytes c.run-done.result _ _ ends (sym c.conclude.ensures.status ∙ ok)

pub returns-in-Some-clause-verdict : goal.returns-in-Some-clause-verdict
returns-in-Some-clause-verdict g c asked words bytes told =
    let same = lemma.one_command asked c.in-Some.command (sym words ∙ c.in-Some.ensures) in
    let ends = subst (λ a. Ends (Decides a bytes) c.run-done.result (g.K.Sink.written c.args.output.now) (g.K.Sink.written c.run-done.new.output)) (sym same) (c.run-done.ensures.ends bytes told) in
    subst (λ s. Concludes (Decides asked bytes) s (g.K.Sink.written c.args.output.now) (g.K.Sink.written c.run-done.new.output)) (sym c.conclude.ensures.status) (lemma.concludes (Decides asked bytes) c.run-done.result _ _ ends)

pub returns-in-Some-clause-in_order : goal.returns-in-Some-clause-in_order
returns-in-Some-clause-in_order g c words bytes told order reads writes =
    let same = lemma.one_command command.Trace c.in-Some.command (sym words ∙ c.in-Some.ensures) in
    subst (λ s. (s ≡ status.Ok) ⊎ (s ≡ status.NoMemory)) (sym c.conclude.ensures.status)
    (lemma.in_order c.run-done.result (c.run-done.ensures.in_order (sym same) bytes told order) (λ e. reads (c.run-done.ensures.read_fault e)) (λ e. writes (c.run-done.ensures.write_fault e)))

pub returns-in-Some-clause-answers : goal.returns-in-Some-clause-answers
returns-in-Some-clause-answers g c asked words =
    let same = lemma.one_command asked c.in-Some.command (sym words ∙ c.in-Some.ensures) in
    subst (λ s. IsAnswerOf asked s) (sym c.conclude.ensures.status) (subst (λ a. IsAnswerOf a (status_after c.run-done.result)) (sym same) (lemma.answers c.in-Some.command c.run-done.result c.run-done.ensures.refusals))

pub returns-in-Some-clause-front : goal.returns-in-Some-clause-front
returns-in-Some-clause-front g c asked words bytes told v decided =
    let same = lemma.one_command asked c.in-Some.command (sym words ∙ c.in-Some.ensures) in
    let ends = subst (λ a. Ends (Decides a bytes) c.run-done.result (g.K.Sink.written c.args.output.now) (g.K.Sink.written c.run-done.new.output)) (sym same) (c.run-done.ensures.ends bytes told) in
    lemma.front (Decides asked bytes) c.run-done.result _ _ ends v decided

pub returns-in-Some-clause-completeness : goal.returns-in-Some-clause-completeness
returns-in-Some-clause-completeness g c asked words bytes told v decided reads writes =
    let same = lemma.one_command asked c.in-Some.command (sym words ∙ c.in-Some.ensures) in
    let ends = subst (λ a. Ends (Decides a bytes) c.run-done.result (g.K.Sink.written c.args.output.now) (g.K.Sink.written c.run-done.new.output)) (sym same) (c.run-done.ensures.ends bytes told) in
    subst (λ s. (s ≡ status_by v) ⊎ (s ≡ status.NoMemory)) (sym c.conclude.ensures.status)
    (lemma.complete (Decides asked bytes) c.run-done.result _ _ ends v decided (λ e. reads (c.run-done.ensures.read_fault e)) (λ e. writes (c.run-done.ensures.write_fault e)))

pub returns-in-Some-clause-error_line : goal.returns-in-Some-clause-error_line
returns-in-Some-clause-error_line g c = (
  line_after c.run-done.result,
  subst (λ s. IsErrorLine s (line_after c.run-done.result)) (sym c.conclude.ensures.status) (lemma.error_line c.run-done.result),
  c.conclude.ensures.line,
  (λ asked words bytes told v decided.
      let same = lemma.one_command asked c.in-Some.command (sym words ∙ c.in-Some.ensures) in
      let ends = subst (λ a. Ends (Decides a bytes) c.run-done.result (g.K.Sink.written c.args.output.now) (g.K.Sink.written c.run-done.new.output)) (sym same) (c.run-done.ensures.ends bytes told) in
      subst (λ s. IsFault s ⊎ (line_after c.run-done.result ≡ line_by v)) (sym c.conclude.ensures.status) (lemma.line (Decides asked bytes) c.run-done.result _ _ ends v decided)),
)
