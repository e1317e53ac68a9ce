use Rattle.std.proofs.Common.{ℕ, List, ◌+◌, ◌≤◌, arith, subst, sym, refl}
use Rattle.pp_lower.specs.steps.Parts.{total}
use Rattle.pp_lower.specs.Lowered.{root_of}
use Rattle.pp_lower.proofs.NodeLemmas.{Rooted, rooted_none, rooted_fits, rooted_more, root_most}
use Rattle.pp_lower.proofs.lowered.roots_for.Goals as goal

pub loop-node-init : goal.loop-node-init
loop-node-init c = subst (λ (l : List ℕ). Rooted c.args.nodes.now l 0 0) (sym c.new-roots.ensures.items) (rooted_none c.args.nodes.now)

pub overflow_cast-next : goal.overflow_cast-next
overflow_cast-next c =
    let most : root_of c.args.nodes.now c.loop-node.node-index ≤ total c.args.nodes.now = root_most c.args.nodes.now c.loop-node.node-index (omega arith) in
    omega (arith, c.loop-node.invariant.next_is, most, c.requires)

pub overflow_add-next : goal.overflow_add-next
overflow_add-next c =
    let most : c.loop-node.next + c.in_ok-size.size ≤ total c.args.nodes.now =
    rooted_fits c.args.nodes.now c.loop-node.roots.items c.loop-node.next c.loop-node.node-index c.node-item.result c.in_ok-size.size c.loop-node.invariant c.loop-node-test.true c.node-item.is c.in_ok-size.ensures in
    omega (arith, most, c.requires)

pub loop-node-preserved : goal.loop-node-preserved
loop-node-preserved c =
    rooted_more c.args.nodes.now c.loop-node.roots.items c.push.new.self.items c.loop-node.next (c.loop-node.next + c.in_ok-size.size) c.loop-node.node-index (c.loop-node.node-index + 1) c.node-item.result c.in_ok-size.size
    c.loop-node.invariant (omega arith) c.loop-node-test.true c.node-item.is c.in_ok-size.ensures c.in_ok-push.ensures.items refl
