-- The builder's calls are those that were told.
use Rattle.std.proofs.Common.{List, ap, subst, ◌∙◌}
use Rattle.pp_rules.specs.declared.call.BuilderCall.{BuilderCall}
use Rattle.pp_graph.specs.Built.{built}
use Rattle.pp_rules.specs.Rules.{KeepsRules}
use Rattle.pp_text.proofs.reading.close.Goals as goal

pub returns-in-Ok : goal.returns-in-Ok
returns-in-Ok c = λ told is.
    let parts = c.into_parts-builder.ensures told is in
    (subst (λ (calls : List BuilderCall). KeepsRules calls) parts.0 c.in-Ok.ensures.ok.0, c.in-Ok.ensures.ok.1 ∙ ap built parts.0)
