use Rattle.std.proofs.Common.{◌≡◌, subst, IfOk, IfErr}
use Rattle.pp_graph.specs.Built.{built}
use Rattle.pp_rules.specs.Rules.{KeepsRules}
use Rattle.pp_graph.specs.Faults.{IsFault}
use Rattle.pp_graph.proofs.builder.GraphBuilder.close.Goals as goal

pub returns-clause-ok : goal.returns-clause-ok
returns-clause-ok c =
    subst (λ calls. IfOk c.graph_of.result (λ graph. KeepsRules calls × (graph ≡ built calls))) c.self.view_is c.graph_of.ensures.ok

pub returns-clause-broken : goal.returns-clause-broken
returns-clause-broken c =
    subst (λ calls. IfErr c.graph_of.result (IsFault calls)) c.self.view_is c.graph_of.ensures.broken
