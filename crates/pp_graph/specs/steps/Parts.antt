-- The parts of a graph, as a builder gives them.
use Rattle.pp_graph.specs.declared.graph.Parts.{Parts}
use Rattle.pp_graph.specs.Plan.{Plan}

-- the plan of these parts
abbrev pub plan_of : Parts → Plan
plan_of p = record { props = p.props.items; hosts = p.hosts.items; spans = p.spans.items; nodes = p.nodes.items; entry = p.entry; finish = p.finish }
