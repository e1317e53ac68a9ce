-- The text alone, then the checks, then the line.
use Rattle.std.proofs.Common.{◌≡◌, ◌∙◌, ℕ, ap, length, subst}
use Rattle.pp_tool.specs.Check.{accepted_line, most_bits}
use Rattle.pp_tool.proofs.CheckLemmas.{accepted}
use Rattle.pp_tool.proofs.CheckLaws.{check_text, check_fails, check_told}
use Rattle.pp_tool.proofs.check.check.Goals as goal

pub returns-in_err-graph-clause-verdict : goal.returns-in_err-graph-clause-verdict
returns-in_err-graph-clause-verdict g c bytes told = check_text bytes _ _ c.from_residual.ensures.1 (c.in_err-graph.ensures.answer bytes told)

pub returns-in_err-shape-clause-verdict : goal.returns-in_err-shape-clause-verdict
returns-in_err-shape-clause-verdict g c bytes told =
    check_fails bytes c.in_ok-graph.graph _ _ c.from_residual-in_err-shape.ensures.1 (c.in_ok-graph.ensures.answer bytes told) c.in_err-shape.ensures.refused

pub returns-clause-verdict : goal.returns-clause-verdict
returns-clause-verdict g c bytes told =
    check_told bytes c.in_ok-graph.graph _ (c.in_ok-graph.ensures.answer bytes told) (accepted c.in_ok-graph.graph c.in_ok-shape.shape c.in_ok-shape.ensures.exact)
    (record {
      gap = c.in_ok-shape.shape.gap;
      opened = c.in_ok-shape.shape.opened;
      exact_gap = c.in_ok-shape.ensures.exact.exact_gap;
      exact_spans = c.in_ok-shape.ensures.exact.exact_spans;
      line_is =
          subst (λ (n : ℕ). c.in_ok-shape_line.field-0.items ≡ accepted_line n c.in_ok-shape.shape.gap (most_bits c.in_ok-shape.shape.opened)) (ap length c.nodes.ensures.value)
          (subst (λ (n : ℕ). c.in_ok-shape_line.field-0.items ≡ accepted_line (length c.nodes.result.now) n (most_bits c.in_ok-shape.shape.opened)) c.gap.ensures
          (subst (λ (n : ℕ). c.in_ok-shape_line.field-0.items ≡ accepted_line (length c.nodes.result.now) c.gap.result n) (c.most_open.ensures ∙ ap most_bits c.opened.ensures)
          c.in_ok-shape_line.ensures));
    })
