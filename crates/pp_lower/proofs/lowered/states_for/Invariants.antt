use Rattle.pp_lower.proofs.NodeLemmas.{StatesSo}
use Rattle.pp_lower.proofs.lowered.states_for.Given as goal

abbrev pub invariant-loop-i : goal.invariant-loop-i
invariant-loop-i l = StatesSo l.nodes l.states.items l.i
