-- A fault tells of the bytes, and where a text in order begins them it is want of memory.
use Rattle.std.proofs.Common.{sym, ap, subst}
use Rattle.std.specs.Prelude.{Err, IfErr}
use Rattle.pp_tool.specs.steps.Reading.{IsTextStop}
use Rattle.pp_tool.proofs.VerdictLemmas.{err_is}
use Rattle.pp_tool.proofs.FaultLemmas.{text_stop}
use Rattle.pp_tool.proofs.text.graph_at.Goals as goal

pub returns-in_err-read_graph-clause-refused : goal.returns-in_err-read_graph-clause-refused
returns-in_err-read_graph-clause-refused c =
    subst (λ r. IfErr r (IsTextStop c.args.bytes.now)) (sym (err_is _ _ c.from_residual.ensures.1)) (text_stop c.args.bytes.now _ (record {
      syntax = λ line e. c.in_err-read_graph.ensures.syntax line (ap Err e);
      too_long = λ e. c.in_err-read_graph.ensures.too_long (ap Err e);
      rule = λ line rule e. c.in_err-read_graph.ensures.rule line rule (ap Err e);
      graph_only = c.in_err-read_graph.ensures.graph_only;
      syntax_only = c.in_err-read_graph.ensures.syntax_only;
      too_long_only = c.in_err-read_graph.ensures.too_long_only;
      rule_only = c.in_err-read_graph.ensures.rule_only;
    }))
