-- What the lines and the calls come to.
use Rattle.std.proofs.Common.{subst}
use Rattle.std.proofs.lemmas.Result.{err_from_is_err_and}
use Rattle.std.specs.Prelude.{Option}
use Rattle.pp_text.specs.steps.Rows.{LinesAre, IsLineFault, IsText}
use Rattle.pp_text.specs.Text.{Told, limit}
use Rattle.pp_text.proofs.ReadingLemmas.{line_settles, graph_settles, text_settles}
use Rattle.pp_text.proofs.reading.read_text.Goals as goal

pub returns-in_err-last : goal.returns-in_err-last
returns-in_err-last c =
    let bytes = c.args.bytes.now in
    let e = c.in_err-last.field-0.0 in
    let p = err_from_is_err_and c.from_residual.result c.from_residual.ensures.1 in
    let fault : IsLineFault (LinesAre limit 1 c.new-draft.result bytes) e = c.in_err-last.ensures in
    rw (p.1, p.2) (line_settles bytes e (subst (λ (o : Option Told). IsLineFault (LinesAre limit 1 o bytes) e) c.new-draft.ensures fault))

pub returns-in_err-graph : goal.returns-in_err-graph
returns-in_err-graph c =
    let bytes = c.args.bytes.now in
    let e = c.in_err-graph.field-0.0 in
    let p = err_from_is_err_and c.from_residual-in_err-graph.result c.from_residual-in_err-graph.ensures.1 in
    let text = subst (λ (o : Option Told). IsText bytes o c.read_lines.new.draft c.in_ok-last.last c.in_ok-last.used) c.new-draft.ensures c.in_ok-last.ensures in
    rw (p.1, p.2) (graph_settles bytes c.read_lines.new.draft c.in_ok-last.last c.in_ok-last.used e text (c.in_err-graph.ensures text.told text.after_is))

pub returns : goal.returns
returns c =
    let bytes = c.args.bytes.now in
    let text = subst (λ (o : Option Told). IsText bytes o c.read_lines.new.draft c.in_ok-last.last c.in_ok-last.used) c.new-draft.ensures c.in_ok-last.ensures in
    let kept = c.in_ok-graph.ensures text.told text.after_is in
    text_settles bytes c.read_lines.new.draft c.in_ok-last.last c.in_ok-last.used c.in_ok-graph.graph text kept.0 kept.1
