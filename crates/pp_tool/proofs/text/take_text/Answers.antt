-- What the front says is said of the whole.
use Rattle.std.proofs.Common.{sym, subst}
use Rattle.std.specs.Prelude.{IfErr}
use Rattle.pp_tool.specs.steps.Reading.{IsFront, IsTaken, IsTakenStop}
use Rattle.pp_tool.proofs.VerdictLemmas.{err_is}
use Rattle.pp_tool.proofs.ReadLemmas.{is_taken, taken_stop}
use Rattle.pp_tool.proofs.text.take_text.Goals as goal

pub returns-in_err-graph-clause-refused : goal.returns-in_err-graph-clause-refused
returns-in_err-graph-clause-refused g c bytes told =
    let f = subst (λ x. IsFront bytes x (g.S.Source.left c.take_front.new.input)) (sym c.deref.ensures.value) (c.in_ok-front.ensures.front bytes told) in
    subst (λ r. IfErr r (IsTakenStop bytes)) (sym (err_is _ _ c.from_residual-in_err-graph.ensures.1)) (taken_stop bytes _ _ _ f c.in_err-graph.ensures.refused)

pub returns-clause-taken : goal.returns-clause-taken
returns-clause-taken g c bytes told =
    let f = subst (λ x. IsFront bytes x (g.S.Source.left c.take_front.new.input)) (sym c.deref.ensures.value) (c.in_ok-front.ensures.front bytes told) in
    subst (λ x. IsTaken bytes x c.in_ok-graph.graph c.in_ok-graph.used (g.S.Source.left c.take_front.new.input)) c.deref.ensures.value
    (is_taken bytes _ _ _ _ f c.in_ok-graph.ensures.found c.in_ok-graph.ensures.graph_only c.in_ok-graph.ensures.no_fault)
