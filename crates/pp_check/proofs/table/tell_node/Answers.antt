use Rattle.std.proofs.Common.{◌≡◌, ℕ, [], Some, get_or, subst, sym}
use Rattle.std.specs.Prelude.{slice_get}
use Rattle.std.proofs.lemmas.Result.{on_ok_weaker}
use Rattle.pp_flow.specs.Rows.{Adds}
use Rattle.pp_check.specs.steps.Ends.{EndsOf}
use Rattle.pp_check.specs.steps.Rows.{AreRowsOf}
use Rattle.pp_check.proofs.TableLemmas.{node-at, adds-at, acts-length, rows-of-node, flow-more}
use Rattle.pp_check.proofs.table.tell_node.Goals as goal

pub push_rows-requires-clause-rows : goal.push_rows-requires-clause-rows
push_rows-requires-clause-rows c =
    let g = c.args.graph.now in
    let flow = c.args.flow.now in
    let node = get_or c.nodes.result.now c.args.place c.index-nodes-place.result in
    let at : slice_get g.nodes flow.told ≡ Some node = node-at g c.nodes.result.now flow.told c.args.place c.index-nodes-place.result c.nodes.ensures.value c.requires.told c.requires.place in
    let adds : Adds flow.told [] c.deref.result.now (EndsOf node.kind) = adds-at flow.told c.args.place c.deref.result.now c.in_ok-rows.rows.items (EndsOf node.kind) c.requires.told c.deref.ensures.value c.in_ok-rows.ensures in
    subst (λ (n : ℕ). AreRowsOf flow.told n c.deref.result.now) (sym (acts-length g flow c.requires.flow))
    (rows-of-node g c.nodes.ensures.well_formed flow.told node at c.deref.result.now adds)

pub returns-clause-flow : goal.returns-clause-flow
returns-clause-flow c =
    let g = c.args.graph.now in
    let flow = c.args.flow.now in
    let node = get_or c.nodes.result.now c.args.place c.index-nodes-place.result in
    let at : slice_get g.nodes flow.told ≡ Some node = node-at g c.nodes.result.now flow.told c.args.place c.index-nodes-place.result c.nodes.ensures.value c.requires.told c.requires.place in
    let adds : Adds flow.told [] c.deref.result.now (EndsOf node.kind) = adds-at flow.told c.args.place c.deref.result.now c.in_ok-rows.rows.items (EndsOf node.kind) c.requires.told c.deref.ensures.value c.in_ok-rows.ensures in
    on_ok_weaker c.end_point.result (flow-more g flow c.push_rows.new.flow c.end_point.new.self node c.deref.result.now c.requires.flow at adds c.in_ok-push_rows.ensures) c.end_point.ensures.added
