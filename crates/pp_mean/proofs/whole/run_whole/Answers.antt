use Rattle.pp_mean.specs.Whole.{by_sets}
use Rattle.pp_mean.proofs.WholeLemmas.{comes_begin, values_by-length, stands_from, uses, comes_on, falls, is_run, no_loop}
use Rattle.pp_mean.proofs.whole.run_whole.Goals as goal

pub run-init : goal.run-init
run-init c = record {
  come = comes_begin (by_sets c.args.graph.now c.args.sets.now c.args.script.now c.args.resumes c.args.bytes.now) _ _ c.nodes-nodes.result.now
      c.nodes-nodes.ensures.well_formed (values_by-length c.args.graph.now c.args.sets.now) c.begin-run.ensures c.in_ok-seen.ensures c.nodes-nodes.ensures.value;
  same = c.nodes-nodes.ensures.value;
}

pub advance-requires : goal.advance-requires
advance-requires c =
    let here = stands_from (by_sets c.args.graph.now c.args.sets.now c.args.script.now c.args.resumes c.args.bytes.now) _ _ _ _ _ c.index-nodes-node.result _ c.run.invariant.come c.nodes-nodes.ensures.well_formed
    c.run.invariant.same c.node-node.ensures c.at-at.ensures c.index.ensures c.if-index-at.false in
    uses _ _ _ _ _ _ here

pub returns-in-Some-clause-run : goal.returns-in-Some-clause-run
returns-in-Some-clause-run c =
    let here = stands_from (by_sets c.args.graph.now c.args.sets.now c.args.script.now c.args.resumes c.args.bytes.now) _ _ _ _ _ c.index-nodes-node.result _ c.run.invariant.come c.nodes-nodes.ensures.well_formed
    c.run.invariant.same c.node-node.ensures c.at-at.ensures c.index.ensures c.if-index-at.false in
    is_run _ _ _ _ _ _ here c.advance.new.self c.in_ok-end.field-0 c.in-Some.end c.in_ok-ended.field-0 c.in-Some.is c.in_ok-end.ensures c.in_ok-ended.ensures

pub returns-in-Some-clause-no_loop : goal.returns-in-Some-clause-no_loop
returns-in-Some-clause-no_loop c =
    let here = stands_from (by_sets c.args.graph.now c.args.sets.now c.args.script.now c.args.resumes c.args.bytes.now) _ _ _ _ _ c.index-nodes-node.result _ c.run.invariant.come c.nodes-nodes.ensures.well_formed
    c.run.invariant.same c.node-node.ensures c.at-at.ensures c.index.ensures c.if-index-at.false in
    no_loop _ _ _ _ _ _ here c.advance.new.self c.in_ok-end.field-0 c.in-Some.end c.in_ok-ended.field-0 c.in-Some.is c.in_ok-end.ensures c.in_ok-ended.ensures

pub run-smaller : goal.run-smaller
run-smaller c =
    let here = stands_from (by_sets c.args.graph.now c.args.sets.now c.args.script.now c.args.resumes c.args.bytes.now) _ _ _ _ _ c.index-nodes-node.result _ c.run.invariant.come c.nodes-nodes.ensures.well_formed
    c.run.invariant.same c.node-node.ensures c.at-at.ensures c.index.ensures c.if-index-at.false in
    falls _ _ _ _ _ _ here c.advance.new.self c.in_ok-end.field-0 c.in_default.is c.in_ok-end.ensures

pub run-preserved : goal.run-preserved
run-preserved c =
    let here = stands_from (by_sets c.args.graph.now c.args.sets.now c.args.script.now c.args.resumes c.args.bytes.now) _ _ _ _ _ c.index-nodes-node.result _ c.run.invariant.come c.nodes-nodes.ensures.well_formed
    c.run.invariant.same c.node-node.ensures c.at-at.ensures c.index.ensures c.if-index-at.false in
    record {
      come = comes_on _ _ _ _ _ _ here c.advance.new.self c.in_ok-end.field-0 c.in_default.is c.in_ok-end.ensures;
      same = c.run.invariant.same;
    }
