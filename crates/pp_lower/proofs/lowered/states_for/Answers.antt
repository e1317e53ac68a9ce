use Rattle.std.proofs.Common.{List, ◌+◌, ◌<◌, ◌^◌, arith, subst, sym, ap, length, get_or}
use Rattle.pp_program.specs.declared.program.State.{State}
use Rattle.pp_lower.specs.Lowered.{root_of}
use Rattle.pp_lower.proofs.NodeLemmas.{StatesSo, states_none, states_next, place_fits, node_below, node_fits}
use Rattle.pp_lower.proofs.lowered.states_for.Goals as goal

pub loop-i-init : goal.loop-i-init
loop-i-init c = subst (λ (s : List State). StatesSo c.args.nodes.now s 0) (sym c.new-states.ensures.items) (states_none c.args.nodes.now)

pub overflow_cast-i : goal.overflow_cast-i
overflow_cast-i c =
    let fits : c.loop-i.i < 2 ^ 32 = place_fits c.args.nodes.now c.loop-i.i c.requires.placed.fits c.loop-i-test.true in
    omega (arith, fits)

pub push_node-requires-clause-below : goal.push_node-requires-clause-below
push_node-requires-clause-below c =
    node_below c.args.nodes.now c.loop-i.i (get_or c.args.nodes.now c.loop-i.i c.index-nodes-i.result) (length c.args.roots.now) c.requires.placed c.loop-i-test.true
    (ap (get_or c.args.nodes.now c.loop-i.i) c.index-nodes-i.is) c.requires.long

pub push_node-requires-clause-fits : goal.push_node-requires-clause-fits
push_node-requires-clause-fits c =
    node_fits c.args.nodes.now c.loop-i.i (get_or c.args.nodes.now c.loop-i.i c.index-nodes-i.result) (get_or c.args.roots.now c.loop-i.i 0) c.requires.placed.fits c.loop-i-test.true
    (ap (get_or c.args.nodes.now c.loop-i.i) c.index-nodes-i.is) (c.requires.roots c.loop-i.i (omega (arith, c.requires.long)))

pub loop-i-preserved : goal.loop-i-preserved
loop-i-preserved c =
    states_next c.args.nodes.now c.loop-i.states.items c.push_node.new.states.items c.loop-i.i (c.loop-i.i + 1) (get_or c.args.nodes.now c.loop-i.i c.index-nodes-i.result) (get_or c.args.roots.now c.loop-i.i 0)
    c.loop-i.invariant (omega arith) c.loop-i-test.true (ap (get_or c.args.nodes.now c.loop-i.i) c.index-nodes-i.is) (c.requires.roots c.loop-i.i (omega (arith, c.requires.long)))
    (c.in_ok-push_node.ensures (root_of c.args.nodes.now) c.requires.roots)
