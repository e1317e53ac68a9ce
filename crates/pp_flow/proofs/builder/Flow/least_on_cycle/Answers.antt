use Rattle.std.proofs.Common.{List, subst, sym}
use Rattle.std.specs.Prelude.{IfOk}
use Rattle.pp_flow.specs.declared.moves.Move.{Move}
use Rattle.pp_flow.specs.Loops.{IsLeastOnCycles}
use Rattle.pp_flow.proofs.builder.Flow.least_on_cycle.Goals as goal

pub returns : goal.returns
returns c = rw (sym c.self.view_is)
    (subst (λ (l : List Move). IfOk c.least_on_cycle.result (IsLeastOnCycles l c.self.inside.entry)) c.deref.ensures.value c.least_on_cycle.ensures)
