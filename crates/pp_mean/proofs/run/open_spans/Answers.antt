use Rattle.pp_mean.proofs.RunLemmas.{open-more}
use Rattle.pp_mean.proofs.run.open_spans.Goals as goal

pub loop-span-preserved : goal.loop-span-preserved
loop-span-preserved c =
    open-more c.args.spans.now c.loop-span.span c.get.result c.loop-span.found.items c.push_open.new.found.items _ c.get.ensures c.in_ok-push_open.ensures c.loop-span.invariant
