use Rattle.std.proofs.Common.{List, map, ap, subst, sym, ◌∙◌}
use Rattle.pp_flow.specs.declared.moves.Act.{Act}
use Rattle.pp_flow.specs.Spans.{HaveSpans}
use Rattle.pp_graph.specs.declared.node.Node.{Node}
use Rattle.pp_check.specs.Spans.{act_of}
use Rattle.pp_check.proofs.SpanLemmas.{have-spans}
use Rattle.pp_check.proofs.table.flow_of.Goals as goal

pub new-requires-clause-spans : goal.new-requires-clause-spans
new-requires-clause-spans c =
    subst (λ (acts : List Act). HaveSpans acts) (sym (c.in_ok-acts.ensures ∙ ap (λ (nodes : List Node). map (λ (n : Node). act_of n.kind) nodes) c.nodes.ensures.value))
    (have-spans c.args.graph.now c.nodes.ensures.well_formed)
