use Rattle.pp_flow.proofs.builder.Flow.spans.Goals as goal

pub check_spans-requires-clause-spans : goal.check_spans-requires-clause-spans
check_spans-requires-clause-spans c = rw c.deref-3.ensures.value c.self.invariant.spans
