-- A call that lies in a run has its line, and one behind all runs the last.
use Rattle.pp_text.proofs.RunLemmas.{line-in, line-behind}
use Rattle.pp_text.proofs.reading.line_of_call.Goals as goal

pub returns-then-before-run : goal.returns-then-before-run
returns-then-before-run c =
    line-in c.args.runs.now c.loop-run.run-index c.loop-run.before c.args.call c.args.last _ c.loop-run-test.true c.if-before-run.true c.loop-run.invariant

pub returns : goal.returns
returns c =
    line-behind c.args.runs.now c.loop-run.run-index c.loop-run.before c.args.call c.args.last c.loop-run-test.false c.loop-run.invariant
