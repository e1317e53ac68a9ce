use Rattle.std.proofs.Common.{◌<◌, length, arith, ◌∙◌}
use Rattle.pp_lower.proofs.PlaceLemmas.{placed, entry_below, entry_root, program_is}
use Rattle.pp_lower.proofs.lowered.lower_graph.Goals as goal

pub roots_for-requires : goal.roots_for-requires
roots_for-requires c = (placed c.args.graph.now c.nodes-nodes.result.now c.nodes-nodes.ensures.value c.nodes-nodes.ensures.well_formed).fits

pub states_for-requires-clause-placed : goal.states_for-requires-clause-placed
states_for-requires-clause-placed c = placed c.args.graph.now c.nodes-nodes.result.now c.nodes-nodes.ensures.value c.nodes-nodes.ensures.well_formed

pub index-entry-requires : goal.index-entry-requires
index-entry-requires c =
    let below : c.entry.result < length c.in_ok-roots.roots.items =
    entry_below c.args.graph.now c.nodes-nodes.result.now c.entry.result (length c.in_ok-roots.roots.items) c.nodes-nodes.ensures.value c.entry.ensures.value c.in_ok-roots.ensures.long c.nodes-nodes.ensures.well_formed in
    omega (arith, below, c.in_ok-roots.roots.ok.0)

pub returns : goal.returns
returns c =
    let below : c.entry.result < length c.in_ok-roots.roots.items =
    entry_below c.args.graph.now c.nodes-nodes.result.now c.entry.result (length c.in_ok-roots.roots.items) c.nodes-nodes.ensures.value c.entry.ensures.value c.in_ok-roots.ensures.long c.nodes-nodes.ensures.well_formed in
    program_is c.args.graph.now c.nodes-nodes.result.now c.in_ok-props.props c.in_ok-hosts.hosts c.in_ok-spans.spans c.in_ok-names.names c.in_ok-states.states c.index-entry.result.now c.finish_rule-finish.result
    c.nodes-nodes.ensures.value (c.in_ok-props.ensures ∙ c.props.ensures.value) (c.in_ok-hosts.ensures ∙ c.hosts.ensures.value) (c.in_ok-spans.ensures ∙ c.spans.ensures.value) c.in_ok-names.ensures
    c.in_ok-states.ensures
    (entry_root c.in_ok-roots.roots.items c.nodes-nodes.result.now c.entry.result c.args.graph.now.entry c.index-entry.result.now below c.index-entry.ensures c.in_ok-roots.ensures.roots c.entry.ensures.value)
    c.finish_rule-finish.ensures.value
