use Rattle.pp_rules.proofs.SpreadLemmas.{IsLeft}
use Rattle.pp_rules.proofs.kept.Calls.into_all.Given as goal

abbrev pub invariant-loop-call : goal.invariant-loop-call
invariant-loop-call l =
    (goal.iterator-loop-call).can_next l.call-iterator ×
    (goal.iterator-loop-call).is_finite l.call-iterator ×
    IsLeft l.call-iterator l.all.items l.fn.self
