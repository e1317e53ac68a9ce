-- What the points do to spans was tried on the same list.
use Rattle.std.proofs.Common.{refl, subst}
use Rattle.pp_flow.specs.Spans.{HaveSpans}
use Rattle.pp_tests.proofs.flow.three.Goals as goal

pub new-requires-clause-spans : goal.new-requires-clause-spans
new-requires-clause-spans c = subst HaveSpans c.deref.ensures.value (c.if-not-have_spans.ensures.0 refl)
