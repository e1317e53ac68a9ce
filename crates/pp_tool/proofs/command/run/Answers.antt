-- It stops before it writes, or its lines are written.
use Rattle.std.proofs.Common.{sym, subst}
use Rattle.pp_tool.specs.Verdict.{Ends, Gives, IsOnly}
use Rattle.pp_tool.specs.Commands.{Decides, CanRefuse}
use Rattle.pp_tool.proofs.VerdictLemmas.{err_is}
use Rattle.pp_tool.proofs.CommandLemmas.{ends_early, ends_written}
use Rattle.pp_tool.proofs.OrderLemmas.{not_refused}
use Rattle.pp_tool.proofs.command.run.Goals as goal

pub returns-in_err-lines-clause-ends : goal.returns-in_err-lines-clause-ends
returns-in_err-lines-clause-ends g c bytes told =
    subst (λ r. Ends (Decides c.args.command bytes) r (g.K.Sink.written c.args.output.now) (g.K.Sink.written c.args.output.now)) (sym (err_is _ _ c.from_residual.ensures.1))
    (ends_early (Decides c.args.command bytes) (CanRefuse c.args.command) _ _ _ _ c.in_err-lines.ensures.stops (c.in_err-lines.ensures.verdict bytes told))

pub returns-clause-ends : goal.returns-clause-ends
returns-clause-ends g c bytes told =
    ends_written (Decides c.args.command bytes) c.deref.result.now _ _ _
    (subst (λ x. IsOnly (Decides c.args.command bytes) (Gives x)) (sym c.deref.ensures.value) (c.in_ok-lines.ensures.verdict bytes told)) c.write_lines.ensures.only c.write_lines.ensures.whole c.write_lines.ensures.front

pub returns-in_err-lines-clause-in_order : goal.returns-in_err-lines-clause-in_order
returns-in_err-lines-clause-in_order g c is bytes told order =
    not_refused _ _ c.from_residual.ensures.1 (c.in_err-lines.ensures.in_order is bytes told order)
