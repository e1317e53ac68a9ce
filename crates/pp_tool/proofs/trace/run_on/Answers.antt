-- The run of a graph without a loop never comes back.
use Rattle.std.proofs.Common.{List, [], w8, sym, subst, arith}
use Rattle.std.proofs.Math.Facts.{Fits-lt-pow}
use Rattle.pp_event.specs.declared.script.ScriptEntry.{ScriptEntry}
use Rattle.pp_event.specs.Answers.{by_script}
use Rattle.pp_event.specs.Runs.{IsBounded}
use Rattle.pp_mean.specs.Whole.{Given, IsLoop, by_sets}
use Rattle.pp_mean.proofs.ReturnLaws.{never_back}
use Rattle.pp_tool.proofs.trace.run_on.Goals as goal

no_answers : IsBounded (by_script [])
no_answers items code = omega arith

pub unreachable-requires : goal.unreachable-requires
unreachable-requires c =
    let given : Given = by_sets c.args.graph.now [] c.in_ok-script.script 0 c.args.string.now in
    let bounded : IsBounded given.oracle = subst (λ (s : List ScriptEntry). IsBounded (by_script s)) (sym c.in_ok-script.ensures) no_answers in
    never_back given c.requires.loop_free bounded (λ i. Fits-lt-pow {w = w8} (c.type_inv.string i)) c.in-Err-Loop.field-0-0 c.in-Err-Loop.field-0-1
    (subst (IsLoop given) c.in-Err-Loop.field-0-is c.in-Err-Loop.ensures.loops)
